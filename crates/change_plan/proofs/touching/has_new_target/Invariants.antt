use Rattle.std.proofs.Common.{ℕ, ◌<◌}
use Rattle.config_graph.specs.Graph.{target_of}
use Rattle.change_plan.specs.Touched.{SameTarget}
use Rattle.change_plan.proofs.touching.has_new_target.Given as goal

abbrev pub invariant-loop-require : goal.invariant-loop-require
invariant-loop-require l =
    (r : ℕ) → r < l.require → SameTarget l.old l.new (target_of l.old.links l.node r) (target_of l.new.links l.twin r)
