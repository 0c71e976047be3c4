use Rattle.std.proofs.Common.{rules}
use Rattle.std.specs.Cmp.Lexicographic.{nat_list_cmp_total}
use Rattle.std.proofs.lemmas.Fn.{always_returns_same}
use Rattle.std.proofs.lemmas.List.Sorted.{ranks_by}
use Rattle.config_graph.specs.declared.node.Node.{Node}
use Rattle.change_parts.specs.Members.{path_below}
use Rattle.change_parts.proofs.members.sort_nodes.Goals as goal

pub returns-clause-sorted : goal.returns-clause-sorted
returns-clause-sorted c =
    c.sort_unstable_by.ensures.sorted path_below (ranks_by nat_list_cmp_total (λ (n : Node). n.path)) (always_returns_same _ _ _ (λ a r g h. search rules))
