use Rattle.std.specs.List.{range_with_len}
use Rattle.change_plan.specs.Selects.{Selects}
use Rattle.change_plan.specs.Touched.{IsTouched}
use Rattle.change_plan.proofs.touching.list_touched.Given as goal

abbrev pub invariant-loop-node : goal.invariant-loop-node
invariant-loop-node l = Selects (IsTouched l.old l.new) (range_with_len 0 l.node) l.touched.items
