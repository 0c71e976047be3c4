-- The report of the run is answered.
use Rattle.command_spec.specs.Schedules.{IsReportBy, IsShownBy, rounds}
use Rattle.command_program.specs.Preparing.{statements_in}
use Rattle.command_program.proofs.ReportingLaws.{is_shown}
use Rattle.command_program.proofs.answering.run_script.Goals as goal

pub returns : goal.returns
returns c =
    is_shown (IsReportBy rounds) (IsShownBy rounds) (statements_in c.args.asked) c.in_ok-report.report c.answer_run.result c.in_ok-report.ensures.report
    c.answer_run.ensures.status c.answer_run.ensures.text
