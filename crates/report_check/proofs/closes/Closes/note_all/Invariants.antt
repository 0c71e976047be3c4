-- The lines before this place are noted.
use Rattle.std.proofs.Common.{take}
use Rattle.report_check.specs.Ahead.{AreNoted}
use Rattle.report_check.proofs.closes.Closes.note_all.Given as goal

abbrev pub invariant-loop-place : goal.invariant-loop-place
invariant-loop-place l = AreNoted l.self l.bound (take l.place l.history)
