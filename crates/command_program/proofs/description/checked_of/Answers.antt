-- What refuses a description is the first fault of its tokens, of its grammar or of its names.
use Rattle.std.proofs.lemmas.Result.{err_from_is_err_and}
use Rattle.darwin_parser.specs.Tree.{tree_of}
use Rattle.command_program.proofs.Refusing.{lexer_refuses, checker_refuses}
use Rattle.command_program.proofs.description.checked_of.Goals as goal

pub returns-in_err-tokens-clause-refused : goal.returns-in_err-tokens-clause-refused
returns-in_err-tokens-clause-refused c =
    let told = c.in_err-tokens.ensures in
    let p = err_from_is_err_and c.from_residual.result c.from_residual.ensures.1 in
    rw (p.1, p.2) (lexer_refuses c.args.text.now c.in_err-tokens.field-0.0 told.bad_byte told.open_comment told.long_name told.big_number)

pub returns-in_err-check-clause-refused : goal.returns-in_err-check-clause-refused
returns-in_err-check-clause-refused c =
    let p = err_from_is_err_and c.from_residual-in_err-check.result c.from_residual-in_err-check.ensures.1 in
    rw (p.1, p.2) (checker_refuses c.args.text.now (tree_of c.in_ok-unit.unit) c.in_err-check.field-0.0 c.in_err-check.ensures.fault c.in_ok-unit.ensures.tree)
