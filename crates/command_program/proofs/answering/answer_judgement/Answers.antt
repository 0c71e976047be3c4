-- A report is read, and judged.
use Rattle.std.proofs.Common.{◌≡◌, refl}
use Rattle.std.proofs.lemmas.Result.{err_from_is_err_and, IfOk-weaker}
use Rattle.report_types.specs.declared.report.Report.{Report}
use Rattle.command_spec.specs.Commands.{IsJudged, Shown, shown}
use Rattle.command_spec.specs.Courses.{reads, says}
use Rattle.command_spec.specs.Sorts.{of_report}
use Rattle.command_program.specs.Coming.{IsShown, Shows}
use Rattle.command_program.specs.Preparing.{statements_in}
use Rattle.command_program.proofs.ComingLaws.{comes_here, comes_next, comes_stop, or_stop_says}
use Rattle.command_program.proofs.answering.answer_judgement.Goals as goal

pub returns-in_err-report-clause-answers : goal.returns-in_err-report-clause-answers
returns-in_err-report-clause-answers g c =
    let p = err_from_is_err_and c.from_residual.result c.from_residual.ensures.1 in
    rw (p.1, p.2)
    (comes_stop (λ said value. said ≡ value) Shows _ (λ (report : Report). says (λ s. IsJudged (statements_in c.args.asked.now) report s.own s.text)) (reads of_report c.args.file.now) _ _
    c.in_err-report.field-0.0 c.in_err-report.ensures.comes)

pub returns-clause-answers : goal.returns-clause-answers
returns-clause-answers g c =
    let files = g.H.Shelf.files c.args.shelf.now in
    let statements = statements_in c.args.asked.now in
    let report = c.in_ok-report.report in
    let Is : Shown → Type 0 = λ s. IsJudged statements report s.own s.text in
    comes_next Shows files (λ (report : Report). says (λ s. IsJudged statements report s.own s.text)) (reads of_report c.args.file.now) files _ _ _
    report c.or_stop.result refl c.in_ok-report.ensures.comes
    (comes_here Shows files (says Is) _ _ c.or_stop.result refl
    (or_stop_says files Is c.judge.result c.or_stop.result c.or_stop.ensures
    (IfOk-weaker c.judge.result (λ answer. IsJudged statements report answer.status answer.text.items) (IsShown Is)
    (λ answer is_judged. (shown answer.status answer.text.items, is_judged, (refl, refl))) c.judge.ensures)))
