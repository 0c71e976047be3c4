use Rattle.std.proofs.Common.{◌≡◌}
use Rattle.passive_set.proofs.MarkLemmas.{marked_in}
use Rattle.passive_set.proofs.marks.list_marked.Given as goal

abbrev pub invariant-loop-node : goal.invariant-loop-node
invariant-loop-node l = l.nodes.items ≡ marked_in l.marks l.node
