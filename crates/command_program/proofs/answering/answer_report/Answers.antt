-- A report is read, and written as the version of today writes it.
use Rattle.std.proofs.Common.{◌≡◌, refl}
use Rattle.std.proofs.lemmas.Result.{err_from_is_err_and}
use Rattle.command_answers.specs.declared.status.Status.TheVariants as status
use Rattle.report_types.specs.declared.report.Report.{Report}
use Rattle.report_writing.specs.Reports.{report_text}
use Rattle.command_spec.specs.Commands.{shown}
use Rattle.command_spec.specs.Courses.{ends, reads}
use Rattle.command_spec.specs.Sorts.{of_report}
use Rattle.command_program.specs.Coming.{Shows}
use Rattle.command_program.proofs.ComingLaws.{comes_here, comes_next, comes_stop, line_ends}
use Rattle.command_program.proofs.answering.answer_report.Goals as goal

pub returns-in_err-report-clause-answers : goal.returns-in_err-report-clause-answers
returns-in_err-report-clause-answers g c =
    let p = err_from_is_err_and c.from_residual.result c.from_residual.ensures.1 in
    rw (p.1, p.2)
    (comes_stop (λ said value. said ≡ value) Shows _ (λ (report : Report). ends (shown status.Ok (report_text report))) (reads of_report c.args.file.now) _ _ c.in_err-report.field-0.0
    c.in_err-report.ensures.comes)

pub returns-clause-answers : goal.returns-clause-answers
returns-clause-answers g c =
    let files = g.H.Shelf.files c.args.shelf.now in
    let text = report_text c.in_ok-report.report in
    comes_next Shows files (λ (report : Report). ends (shown status.Ok (report_text report))) (reads of_report c.args.file.now) files _ _ _
    c.in_ok-report.report c.or_stop.result refl c.in_ok-report.ensures.comes
    (comes_here Shows files (ends (shown status.Ok text)) _ _ c.or_stop.result refl
    (line_ends files status.Ok text c.upgrade.result c.or_stop.result c.or_stop.ensures c.upgrade.ensures))
