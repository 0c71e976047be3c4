-- One fetch, and what is wanted of its bytes.
use Rattle.std.proofs.lemmas.Result.{err_from_is_err_and}
use Rattle.std.proofs.Common.{ℕ, List, [], refl, subst}
use Rattle.command_spec.specs.Commands.{Shown}
use Rattle.command_spec.specs.Courses.{Course, ends, fetches, judges}
use Rattle.command_spec.specs.Queries.{AnswersQuery, IsRefused}
use Rattle.command_spec.specs.Sorts.{of_description}
use Rattle.command_spec.specs.declared.query.Query.{Query}
use Rattle.command_program.specs.Coming.{EndsIn, Shows}
use Rattle.command_program.proofs.ComingLaws.{comes_here, comes_next, comes_stop}
use Rattle.command_program.proofs.Fetching.{IsText}
use Rattle.command_program.proofs.answering.answer_description.Goals as goal

abbrev wanted : List ℕ → Query → List ℕ → Course Shown
wanted file query bytes = judges Shown of_description file (IsRefused query bytes) (λ s. AnswersQuery query bytes s.own s.text) ends

pub returns-in_err-text-clause-answers : goal.returns-in_err-text-clause-answers
returns-in_err-text-clause-answers g c =
    let p = err_from_is_err_and c.from_residual.result c.from_residual.ensures.1 in
    rw (p.1, p.2)
    (comes_stop IsText Shows _ (wanted c.args.file.now c.args.query.now) (fetches of_description c.args.file.now ends) _ _ c.in_err-text.field-0.0 c.in_err-text.ensures.comes)

pub returns-clause-answers : goal.returns-clause-answers
returns-clause-answers g c =
    let files = g.H.Shelf.files c.args.shelf.now in
    let file = c.args.file.now in
    let query = c.args.query.now in
    let text = c.in_ok-text.text in
    let told : EndsIn Shows files (wanted file query c.items.result.now) [] c.describe.result = c.describe.ensures files in
    comes_next Shows files (wanted file query) (fetches of_description file ends) files _ _ _ text c.describe.result refl c.in_ok-text.ensures.comes
    (comes_here Shows files (wanted file query text) _ _ c.describe.result refl (subst (λ t. EndsIn Shows files (wanted file query t) [] c.describe.result) c.items.ensures told))
