-- The report of the run is answered, and agrees with the seat; behind it stand the lines of its observers.
use Rattle.std.proofs.Common.{◌++◌, ◌∙◌, Result, Ok, ap}
use Rattle.command_spec.specs.Schedules.{IsShownBy, threads}
use Rattle.command_apply.specs.Preparing.{statements_in}
use Rattle.command_live.specs.Agreeing.{AgreesWithSeat}
use Rattle.command_apply.specs.declared.Answer.{Answer}
use Rattle.command_apply.specs.declared.Stop.{Stop}
use Rattle.command_apply.proofs.ReportingLaws.{is_shown}
use Rattle.report_writing.specs.Reports.{report_text}
use Rattle.watch_lines.specs.WatchText.{watch_text}
use Rattle.command_live.proofs.running.run_script.Goals as goal

pub returns-clause-answer : goal.returns-clause-answer
returns-clause-answer g c =
    let seen = c.in_ok-report.seen in
    let answered : Result Answer Stop = Ok c.in_ok-answer.answer in
    is_shown (AgreesWithSeat c.in_ok-report.seat) (IsShownBy (threads c.args.crew.observers)) (statements_in c.args.asked) c.in_ok-report.report answered
    c.in_ok-report.ensures.agrees c.in_ok-answer.ensures.status
    (record { seen = seen.items; one_each = c.in_ok-report.ensures.observers ∙ c.new-observers.ensures; told = c.in_ok-report.ensures.seen; text = c.in_ok-answer.ensures.text ∙ ap (λ s. report_text c.in_ok-report.report ++ watch_text s) c.as_slice.ensures.value })
