-- What refuses the reading refuses what is wanted.
use Rattle.std.proofs.lemmas.Result.{err_from_is_err_and}
use Rattle.command_program.proofs.Planning.{reading_refused}
use Rattle.command_program.proofs.describing.answer_of.Goals as goal

pub returns-in_err-checked-clause-refused : goal.returns-in_err-checked-clause-refused
returns-in_err-checked-clause-refused c =
    let p = err_from_is_err_and c.from_residual.result c.from_residual.ensures.1 in
    rw (p.1, p.2) (reading_refused c.args.query.now c.args.text.now c.in_err-checked.field-0.0 c.in_err-checked.ensures.refused)
