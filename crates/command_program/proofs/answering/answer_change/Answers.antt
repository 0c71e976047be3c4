-- What the lines ask for is shown.
use Rattle.std.proofs.Common.{[], refl, subst, sym}
use Rattle.std.proofs.lemmas.Result.{err_from_is_err_and}
use Rattle.command_spec.specs.Commands.{ShowsChange}
use Rattle.command_spec.specs.Courses.{says}
use Rattle.command_spec.specs.Lines.{Progress, begun, of_lines}
use Rattle.command_spec.specs.Plans.{lines_of_change}
use Rattle.command_program.specs.Coming.{EndsIn, Shows}
use Rattle.command_program.specs.Planning.{IsChangeOf}
use Rattle.command_program.proofs.ComingLaws.{comes_here, comes_on, comes_stop}
use Rattle.command_program.proofs.answering.answer_change.Goals as goal

pub returns-in_err-planned-clause-answers : goal.returns-in_err-planned-clause-answers
returns-in_err-planned-clause-answers g c =
    let p = err_from_is_err_and c.from_residual.result c.from_residual.ensures.1 in
    let change = c.args.change.now in
    rw (p.1, p.2)
    (comes_stop (IsChangeOf change) Shows _ (λ (p : Progress). says (ShowsChange c.args.cut.now change p.statements)) (of_lines begun (lines_of_change change)) _ _
    c.in_err-planned.field-0.0 c.in_err-planned.ensures.comes)

pub returns-clause-answers : goal.returns-clause-answers
returns-clause-answers g c =
    let files = g.H.Shelf.files c.args.shelf.now in
    let change = c.args.change.now in
    let cut = c.args.cut.now in
    let planned = c.in_ok-planned.planned in
    comes_on (IsChangeOf change) Shows files (λ (p : Progress). says (ShowsChange cut change p.statements)) (of_lines begun (lines_of_change change)) files _ _ _
    planned c.show_change.result refl c.in_ok-planned.ensures.comes
    (λ p is. comes_here Shows files (says (ShowsChange cut change p.statements)) _ _ c.show_change.result refl
    (subst (λ ss. EndsIn Shows files (says (ShowsChange cut change ss)) [] c.show_change.result) (sym is.said_are) (c.show_change.ensures files)))
