-- A file is fetched and read, and its description is used or refused.
use Rattle.std.proofs.Common.{◌≡◌, ◌∷◌, [], Result, Ok, Err, inl, refl, subst, sym}
use Rattle.std.proofs.lemmas.Result.{err_from_is_err_and}
use Rattle.darwin_types.specs.Checked.{description}
use Rattle.darwin_parser.specs.Tree.{Tree}
use Rattle.command_spec.specs.Courses.{ends, here, reads}
use Rattle.command_spec.specs.Lines.{uses, with_description}
use Rattle.command_spec.specs.Sorts.{of_description}
use Rattle.command_program.specs.declared.answer.Stop.{Stop}
use Rattle.command_program.specs.declared.answer.Stop.TheVariants as stops
use Rattle.command_program.specs.Leading.{Leads, Took}
use Rattle.command_program.specs.Ways.{HasDescribed, IsAt}
use Rattle.command_program.proofs.ComingLaws.{comes_here, comes_on, comes_stop}
use Rattle.command_program.proofs.Lines.{used_at, used_marks}
use Rattle.command_program.proofs.taking.use_file.Goals as goal

pub returns-in_err-checked-clause-took : goal.returns-in_err-checked-clause-took
returns-in_err-checked-clause-took g c = λ p at.
    let q = err_from_is_err_and c.from_residual.result c.from_residual.ensures.1 in
    let file = c.str_of-file.result.now in
    rw (q.1, q.2, sym c.str_of-file.ensures)
    (comes_stop (λ checked tree. description checked ≡ tree) (Leads c.args.way.now) _ (λ (tree : Tree). ends (with_description p file tree)) (reads of_description file) _ _
    c.in_err-checked.field-0.0 c.in_err-checked.ensures.comes)

pub returns-in_err-from_str-clause-took : goal.returns-in_err-from_str-clause-took
returns-in_err-from_str-clause-took g c = λ p at.
    let q = err_from_is_err_and c.from_residual-in_err-from_str.result c.from_residual-in_err-from_str.ensures.1 in
    let files = g.H.Shelf.files c.args.shelf.now in
    let file = c.str_of-file.result.now in
    let short : Result (Unit {0}) Stop = Err stops.NoMemory in
    rw (q.1, q.2, sym c.str_of-file.ensures)
    (comes_on (λ checked tree. description checked ≡ tree) (Leads c.args.way.now) files (λ (tree : Tree). ends (with_description p file tree)) (reads of_description file) files _ _ _
    c.in_ok-checked.checked short refl c.in_ok-checked.ensures.comes
    (λ tree is. comes_here (Leads c.args.way.now) files (ends (with_description p file tree)) _ _ short refl (inl refl)))

pub returns-clause-took : goal.returns-clause-took
returns-clause-took g c = λ p at.
    let files = g.H.Shelf.files c.args.shelf.now in
    let file = c.str_of-file.result.now in
    let next = c.describe.new.self in
    let has = subst (λ f. HasDescribed c.args.way.now f c.in_ok-checked.checked next) c.in_ok-from_str.ensures.ok c.describe.ensures in
    let done : Result (Unit {0}) Stop = Ok tt in
    let failed = g.H.Shelf.failed c.read_description.new.shelf in
    subst (λ f. Took files p (uses f ∷ []) (g.H.Shelf.failed c.args.shelf.now) failed next done) c.str_of-file.ensures
    (comes_on (λ checked tree. description checked ≡ tree) (Leads next) files (λ (tree : Tree). ends (with_description p file tree)) (reads of_description file) files
    (g.H.Shelf.failed c.args.shelf.now) failed failed c.in_ok-checked.checked done refl c.in_ok-checked.ensures.comes
    (λ tree is. comes_here (Leads next) files (ends (with_description p file tree)) failed failed done refl
    (with_description p file tree, subst (λ t. IsAt next (with_description p file t)) is (used_at c.args.way.now next p file c.in_ok-checked.checked at has), here)))

pub returns-clause-marks : goal.returns-clause-marks
returns-clause-marks g c = used_marks _ _ _ c.args.name c.in_ok-checked.checked c.describe.ensures
