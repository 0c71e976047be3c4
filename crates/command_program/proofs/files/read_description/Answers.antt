-- Its bytes have a tree, or are refused for a fault.
use Rattle.std.proofs.Common.{◌≡◌, refl}
use Rattle.std.proofs.lemmas.Result.{err_from_is_err_and}
use Rattle.command_answers.specs.DescriptionFaults.{fault_words}
use Rattle.darwin_types.specs.Checked.{description}
use Rattle.command_spec.specs.Courses.{ends, fetches}
use Rattle.command_spec.specs.Sorts.{of_description}
use Rattle.command_program.proofs.ComingLaws.{comes_stop}
use Rattle.command_program.proofs.Fetching.{IsText, judged, read_on, refuses_so, says_so}
use Rattle.command_program.proofs.files.read_description.Goals as goal

pub returns-in_err-bytes-clause-comes : goal.returns-in_err-bytes-clause-comes
returns-in_err-bytes-clause-comes g c =
    let p = err_from_is_err_and c.from_residual.result c.from_residual.ensures.1 in
    rw (p.1, p.2) (comes_stop IsText (λ checked tree. description checked ≡ tree) _ (judged of_description c.args.file.now) (fetches of_description c.args.file.now ends) _ _ c.in_err-bytes.field-0.0 c.in_err-bytes.ensures.comes)

pub returns-in-Ok-clause-comes : goal.returns-in-Ok-clause-comes
returns-in-Ok-clause-comes g c =
    read_on of_description (λ checked tree. description checked ≡ tree) (g.H.Shelf.files c.args.shelf.now) c.args.file.now c.in_ok-bytes.bytes _ _ _ c.in_ok-bytes.ensures.comes
    (says_so of_description (λ checked tree. description checked ≡ tree) (g.H.Shelf.files c.args.shelf.now) c.args.file.now c.in_ok-bytes.bytes c.in-Ok.checked (description c.in-Ok.checked) refl (rw c.items.ensures at c.in-Ok.ensures.checked))

pub returns-clause-comes : goal.returns-clause-comes
returns-clause-comes g c =
    read_on of_description (λ checked tree. description checked ≡ tree) (g.H.Shelf.files c.args.shelf.now) c.args.file.now c.in_ok-bytes.bytes _ _ _ c.in_ok-bytes.ensures.comes
    (refuses_so of_description (λ checked tree. description checked ≡ tree) (g.H.Shelf.files c.args.shelf.now) c.args.file.now c.in_ok-bytes.bytes _ c.refuse_description.result (fault_words c.in-Err.fault) c.refuse_description.ensures
    (λ why is. (is.1, (rw c.items.ensures at c.in-Err.ensures.refused) is.0)))
