use Rattle.change_plan.proofs.MoveLemmas.{ListedBelow}
use Rattle.change_plan.proofs.moving.list_by_target.Given as goal

abbrev pub invariant-loop-new : goal.invariant-loop-new
invariant-loop-new l = ListedBelow l.targets l.new l.shifts.items
