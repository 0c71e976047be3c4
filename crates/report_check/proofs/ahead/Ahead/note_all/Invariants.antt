-- The lines from this place on are noted.
use Rattle.report_check.specs.Ahead.{IsAhead}
use Rattle.report_check.proofs.ahead.Ahead.note_all.Given as goal

abbrev pub invariant-loop-place : goal.invariant-loop-place
invariant-loop-place l = IsAhead l.self l.history l.place
