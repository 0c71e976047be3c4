-- Its bytes say something, or their first fault refuses it.
use Rattle.std.proofs.Common.{◌≡◌, refl}
use Rattle.std.proofs.lemmas.Result.{err_from_is_err_and}
use Rattle.command_answers.specs.RefusalLines.{script_words}
use Rattle.command_spec.specs.Courses.{ends, fetches}
use Rattle.command_spec.specs.Sorts.{of_script}
use Rattle.command_program.proofs.ComingLaws.{comes_stop}
use Rattle.command_program.proofs.Fetching.{IsText, judged, read_on, refuses_so, says_so}
use Rattle.command_program.proofs.files.read_script.Goals as goal

pub returns-in_err-bytes-clause-comes : goal.returns-in_err-bytes-clause-comes
returns-in_err-bytes-clause-comes g c =
    let p = err_from_is_err_and c.from_residual.result c.from_residual.ensures.1 in
    rw (p.1, p.2) (comes_stop IsText (λ said value. said ≡ value) _ (judged of_script c.args.name.now) (fetches of_script c.args.name.now ends) _ _ c.in_err-bytes.field-0.0 c.in_err-bytes.ensures.comes)

pub returns-in-Ok-clause-comes : goal.returns-in-Ok-clause-comes
returns-in-Ok-clause-comes g c =
    read_on of_script (λ said value. said ≡ value) (g.H.Shelf.files c.args.shelf.now) c.args.name.now c.in_ok-bytes.bytes _ _ _ c.in_ok-bytes.ensures.comes
    (says_so of_script (λ said value. said ≡ value) (g.H.Shelf.files c.args.shelf.now) c.args.name.now c.in_ok-bytes.bytes c.in-Ok.script c.in-Ok.script refl (rw c.items.ensures at c.in-Ok.ensures.script))

pub returns-clause-comes : goal.returns-clause-comes
returns-clause-comes g c =
    read_on of_script (λ said value. said ≡ value) (g.H.Shelf.files c.args.shelf.now) c.args.name.now c.in_ok-bytes.bytes _ _ _ c.in_ok-bytes.ensures.comes
    (refuses_so of_script (λ said value. said ≡ value) (g.H.Shelf.files c.args.shelf.now) c.args.name.now c.in_ok-bytes.bytes _ c.refuse_script.result (script_words c.in-Err.fault) c.refuse_script.ensures
    (λ why is. (is.1, (c.in-Err.fault, (rw c.items.ensures at c.in-Err.ensures.fault) is.0, refl))))
