use Rattle.std.specs.List.{range_with_len}
use Rattle.change_plan.specs.Differences.{IsGone}
use Rattle.change_plan.specs.Selects.{Selects}
use Rattle.change_plan.proofs.differences.list_gone.Given as goal

abbrev pub invariant-loop-index : goal.invariant-loop-index
invariant-loop-index l = Selects (IsGone l.graph l.other) (range_with_len 0 l.index) l.gone.items
