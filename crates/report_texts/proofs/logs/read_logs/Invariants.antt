use Rattle.std.proofs.Common.{◌≡◌, drop}
use Rattle.report_writing.specs.Reports.{makes}
use Rattle.report_texts.specs.Rests.{IsRestOf}
use Rattle.report_texts.specs.Stages.{logs_from}
use Rattle.report_texts.specs.TextLines.{lines}
use Rattle.report_texts.proofs.logs.read_logs.Given as goal

-- The logs of the nodes that are left go on with those that were read.
abbrev pub invariant-loop-line : goal.invariant-loop-line
invariant-loop-line l = record {
  same : logs_from l.version (makes (drop l.line-index l.history)) l.logs.items l.left.number (lines l.left.text.now)
      ≡ logs_from l.version (makes l.history) l.initial.logs.items l.rest.number (lines l.rest.text.now);
  follows : IsRestOf l.left l.rest;
}
