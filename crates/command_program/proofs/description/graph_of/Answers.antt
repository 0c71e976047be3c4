-- The refusal of the elaboration is that of the description.
use Rattle.std.proofs.lemmas.Result.{err_from_is_err_and}
use Rattle.command_answers.specs.declared.error.DescriptionFault.TheVariants as fault
use Rattle.darwin_types.specs.Checked.{description}
use Rattle.command_program.proofs.Refusing.{description_refused, elaborator_refuses}
use Rattle.command_program.proofs.description.graph_of.Goals as goal

pub returns-in_err-elaborate-clause-at_fault : goal.returns-in_err-elaborate-clause-at_fault
returns-in_err-elaborate-clause-at_fault c =
    let p = err_from_is_err_and c.from_residual.result c.from_residual.ensures.1 in
    rw (p.1, p.2) (elaborator_refuses (description c.args.checked.now) c.in_err-elaborate.field-0.0 c.args.top.now c.args.args.now c.in_err-elaborate.ensures.fault)

pub returns-in_err-elaborate-clause-refused : goal.returns-in_err-elaborate-clause-refused
returns-in_err-elaborate-clause-refused c text checked =
    let p = err_from_is_err_and c.from_residual.result c.from_residual.ensures.1 in
    let tree = description c.args.checked.now in
    let e = c.in_err-elaborate.field-0.0 in
    rw (p.1, p.2)
    (description_refused text tree (fault.Elaborate e) c.args.top.now c.args.args.now (elaborator_refuses tree e c.args.top.now c.args.args.now c.in_err-elaborate.ensures.fault) checked)
