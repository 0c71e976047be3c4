use Rattle.std.proofs.Common.{take, Contains}
use Rattle.change_plan.specs.Selects.{Selects}
use Rattle.change_parts.proofs.members.copy_missing.Given as goal

abbrev pub invariant-loop-node : goal.invariant-loop-node
invariant-loop-node l = Selects (λ n. ¬ Contains l.graph.nodes n) (take l.node-index l.nodes) l.copies.items
