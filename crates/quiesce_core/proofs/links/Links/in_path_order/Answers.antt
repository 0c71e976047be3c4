use Rattle.std.proofs.Common.{rules, subst}
use Rattle.std.specs.List.Sorted.{IsPermutation}
use Rattle.std.specs.Cmp.Lexicographic.{nat_list_cmp_total}
use Rattle.std.proofs.lemmas.List.Sorted.{ranks_by}
use Rattle.std.proofs.lemmas.Fn.{always_returns_same}
use Rattle.quiesce_core.specs.Listed.{path_at}
use Rattle.quiesce_core.specs.Links.{config_in}
use Rattle.quiesce_core.proofs.OrderLemmas.{below, in_order}
use Rattle.quiesce_core.proofs.links.Links.in_path_order.Goals as goal

pub returns : goal.returns
returns c =
    let config = config_in c.args.self.now in
    in_order config c.requires.named c.sort_by.new.self.items
    (subst (λ xs. IsPermutation xs c.sort_by.new.self.items) c.in_ok-order.ensures c.sort_by.ensures.permutation)
    (c.in_ok-sort_by.ensures.sorted (below config) (ranks_by nat_list_cmp_total (path_at config)) (always_returns_same _ _ _ (λ a r g h. search rules)))
