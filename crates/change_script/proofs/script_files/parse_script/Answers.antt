-- The lines are right, and nothing is missing, or something is.
use Rattle.std.proofs.Common.{inr}
use Rattle.std.proofs.lemmas.Result.{err_from_is_err_and}
use Rattle.change_script.proofs.ScriptFileLaws.{fault_is, refused_script, refused_fault}
use Rattle.change_script.proofs.script_files.parse_script.Goals as goal

pub returns-in_err-lines-clause-fault : goal.returns-in_err-lines-clause-fault
returns-in_err-lines-clause-fault c =
    let h = err_from_is_err_and c.from_residual.result c.from_residual.ensures.1 in
    rw (h.1, h.2) (λ wants. fault_is c.args.text.now _ (c.in_err-lines.ensures.fault wants))

pub returns-in_err-lines-clause-whenever_script : goal.returns-in_err-lines-clause-whenever_script
returns-in_err-lines-clause-whenever_script c =
    let h = err_from_is_err_and c.from_residual.result c.from_residual.ensures.1 in
    rw (h.1, h.2) (λ script is. inr (refused_script c.args.text.now script _ (λ wants. fault_is c.args.text.now _ (c.in_err-lines.ensures.fault wants)) is))

pub returns-in_err-lines-clause-whenever_fault : goal.returns-in_err-lines-clause-whenever_fault
returns-in_err-lines-clause-whenever_fault c =
    let h = err_from_is_err_and c.from_residual.result c.from_residual.ensures.1 in
    rw (h.1, h.2) (λ fault first. refused_fault c.args.text.now fault _ (λ wants. fault_is c.args.text.now _ (c.in_err-lines.ensures.fault wants)) first)
