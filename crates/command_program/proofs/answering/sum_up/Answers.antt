-- The summary of the report is answered.
use Rattle.command_spec.specs.Commands.{IsSummary}
use Rattle.command_spec.specs.Schedules.{IsReportBy, rounds}
use Rattle.command_program.specs.Preparing.{statements_in}
use Rattle.command_program.proofs.ReportingLaws.{is_shown}
use Rattle.command_program.proofs.answering.sum_up.Goals as goal

pub returns : goal.returns
returns c =
    is_shown (IsReportBy rounds) (IsSummary c.args.lanes) (statements_in c.args.asked) c.in_ok-report.report c.answer_summary.result c.in_ok-report.ensures.report
    c.answer_summary.ensures.status c.answer_summary.ensures.text
