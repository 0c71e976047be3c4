use Rattle.std.proofs.Common.{◌≤◌, length, rules, arith}
use Rattle.std.specs.Cmp.Lexicographic.{nat_list_cmp_total}
use Rattle.std.proofs.lemmas.List.{length-map}
use Rattle.std.proofs.lemmas.List.Sorted.{ranks_by}
use Rattle.std.proofs.lemmas.Fn.{always_returns_same}
use Rattle.elaborator.specs.Expansion.{expanded_of, made_of}
use Rattle.elaborator.specs.declared.nodes.Listed.{Listed}
use Rattle.elaborator.proofs.OrderLemmas.{below, in_order, numbers_in_order}
use Rattle.elaborator.proofs.nodes.in_path_order.Goals as goal

pub returns : goal.returns
returns c =
    let e = expanded_of c.args.expansion.now in
    let few : length e.made ≤ 65537 = omega (arith, c.requires.few, length-map c.args.expansion.now.instances.items made_of) in
    let sorted = c.in_ok-sort_by.ensures.sorted below (ranks_by nat_list_cmp_total (λ (x : Listed). x.path.now)) (always_returns_same _ _ _ (λ a r g h. search rules)) in
    let rises = in_order e c.requires.is_expanded few c.in_ok-listed.listed.items c.sort_by.new.self.items c.in_ok-listed.ensures c.sort_by.ensures.permutation sorted in
    numbers_in_order e c.sort_by.new.self.items c.numbers_of.result rises (rw c.as_slice.ensures.value at c.numbers_of.ensures)
