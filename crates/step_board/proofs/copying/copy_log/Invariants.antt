use Rattle.std.proofs.Common.{◌≡◌, take}
use Rattle.step_board.proofs.copying.copy_log.Given as goal

abbrev pub invariant-loop-event : goal.invariant-loop-event
invariant-loop-event l = l.copy.items ≡ take l.event-index l.log
