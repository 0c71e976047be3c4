use Rattle.std.proofs.Common.{◌∙◌, Err, sym, ap}
use Rattle.std.specs.Prelude.{is_none}
use Rattle.report_check.proofs.guards.apply.Goals as goal

pub returns-in-Err-Denied-clause-came : goal.returns-in-Err-Denied-clause-came
returns-in-Err-Denied-clause-came c =
    let step = c.in-Err-Denied in
    let told = (c.apply.ensures.denied step.field-0-0).0 (step.is ∙ ap Err step.field-0-is) in
    sym (ap is_none told)
