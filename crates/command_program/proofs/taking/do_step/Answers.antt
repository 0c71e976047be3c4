-- What the run does of itself refuses nothing.
use Rattle.std.proofs.Common.{inl, refl}
use Rattle.std.proofs.lemmas.Result.{err_from_is_err_and}
use Rattle.command_program.proofs.Lines.{did, step_marks}
use Rattle.command_program.proofs.taking.do_step.Goals as goal

pub returns-clause-lead : goal.returns-clause-lead
returns-clause-lead c = λ files p at. did c.args.way.now c.add_step.new.self p c.args.step c.requires.begun c.requires.not_change c.in_ok-add_step.ensures at files

pub returns-clause-marks : goal.returns-clause-marks
returns-clause-marks c = λ body no_file no_start. step_marks _ _ _ _ body c.in_ok-add_step.ensures no_file no_start

pub returns-in_err-add_step-clause-lead : goal.returns-in_err-add_step-clause-lead
returns-in_err-add_step-clause-lead c = λ files p at.
    let q = err_from_is_err_and c.from_residual.result c.from_residual.ensures.1 in
    rw (q.1, q.2) (inl refl)
