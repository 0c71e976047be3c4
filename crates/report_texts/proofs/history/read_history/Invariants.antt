use Rattle.std.proofs.Common.{◌≡◌, ◌≤◌, [], length}
use Rattle.report_writing.specs.Reports.{makes}
use Rattle.report_texts.specs.declared.history.LineAbove.TheVariants as aboves
use Rattle.report_texts.specs.Rests.{IsRestOf}
use Rattle.report_texts.specs.Stages.{history_from}
use Rattle.report_texts.specs.TextLines.{lines}
use Rattle.report_texts.proofs.history.read_history.Given as goal

-- What is left goes on with what was read.
abbrev pub invariant-lines : goal.invariant-lines
invariant-lines l = record {
  same : history_from l.version l.history.items l.place.above l.left.number (lines l.left.text.now)
      ≡ history_from l.version [] aboves.Other l.rest.number (lines l.rest.text.now);
  made : l.place.made ≡ length (makes l.history.items);
  few : l.place.made ≤ l.left.number;
  follows : IsRestOf l.left l.rest;
}

abbrev pub decreases-lines : goal.decreases-lines
decreases-lines l = length l.left.text.now
