use Rattle.std.proofs.Common.{take}
use Rattle.change_plan.specs.Selects.{Selects}
use Rattle.change_parts.specs.Owning.{IsOwn}
use Rattle.change_parts.proofs.parting.list_own.Given as goal

abbrev pub invariant-loop-moved : goal.invariant-loop-moved
invariant-loop-moved l = Selects (IsOwn l.old l.numbers l.before l.applied) (take l.moved-index l.moves) l.own.items
