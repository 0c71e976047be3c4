use Rattle.std.proofs.Common.{take}
use Rattle.change_plan.specs.Moves.{MayMoveAll}
use Rattle.change_plan.specs.MoveEnds.{MarksEnds}
use Rattle.change_plan.proofs.moving.list_shifts.Given as goal

abbrev pub invariant-loop-moved : goal.invariant-loop-moved
invariant-loop-moved l = record {
  marked : MarksEnds l.old l.new (take l.moved-index l.moves) l.ends.sources.items l.ends.targets.items;
  may_move : MayMoveAll l.old l.new l.moves l.moved-index;
}
