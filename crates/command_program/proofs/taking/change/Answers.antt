-- A change leads on, or is refused.
use Rattle.std.proofs.Common.{inl, refl}
use Rattle.std.proofs.lemmas.Result.{err_from_is_err_and}
use Rattle.command_spec.specs.Lines.{changes}
use Rattle.command_program.proofs.Lines.{call_refused, change_fits, changed, step_marks}
use Rattle.command_program.proofs.taking.change.Goals as goal

pub add_change-requires : goal.add_change-requires
add_change-requires c = change_fits c.args.way.now.start c.args.way.now.steps.items c.args.way.now.made c.in-Ok.change c.requires.begun c.in-Ok.ensures.follows

pub returns-in_ok-add_change-in-Ok-clause-lead : goal.returns-in_ok-add_change-in-Ok-clause-lead
returns-in_ok-add_change-in-Ok-clause-lead c = λ files p at.
    changed c.args.way.now c.add_change.new.self p c.in-Ok.change c.args.name c.args.args c.args.within c.args.moves c.requires.begun c.in-Ok.ensures.follows
    c.add_change.ensures.graph (c.in-Ok.ensures.leads p at) c.in_ok-add_change-in-Ok.ensures.added at files

pub returns-in_ok-add_change-in-Ok-clause-marks : goal.returns-in_ok-add_change-in-Ok-clause-marks
returns-in_ok-add_change-in-Ok-clause-marks c = step_marks _ _ _ _ _ c.in_ok-add_change-in-Ok.ensures.added refl refl

pub returns-in_err-add_change-in-Ok-clause-lead : goal.returns-in_err-add_change-in-Ok-clause-lead
returns-in_err-add_change-in-Ok-clause-lead c = λ files p at.
    let q = err_from_is_err_and c.from_residual.result c.from_residual.ensures.1 in
    rw (q.1, q.2) (inl refl)

pub returns-in-Err-clause-lead : goal.returns-in-Err-clause-lead
returns-in-Err-clause-lead c = λ files p at.
    call_refused (Unit {0}) c.args.way.now p (changes c.args.within c.args.moves) c.args.name c.args.args c.in-Err.fault c.refuse.result at (c.in-Err.ensures.refused p at) c.refuse.ensures files
