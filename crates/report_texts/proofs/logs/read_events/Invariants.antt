use Rattle.std.proofs.Common.{◌≡◌, [], length}
use Rattle.report_texts.specs.Rests.{IsRestOf}
use Rattle.report_texts.specs.Stages.{events_from}
use Rattle.report_texts.specs.TextLines.{lines}
use Rattle.report_texts.proofs.logs.read_events.Given as goal

-- What is left goes on with what was read.
abbrev pub invariant-lines : goal.invariant-lines
invariant-lines l = record {
  same : events_from l.version l.events.items l.left.number (lines l.left.text.now) ≡ events_from l.version [] l.rest.number (lines l.rest.text.now);
  follows : IsRestOf l.left l.rest;
}

abbrev pub decreases-lines : goal.decreases-lines
decreases-lines l = length l.left.text.now
