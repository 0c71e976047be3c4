-- The script is fetched and read, and then its lines.
use Rattle.std.proofs.Common.{◌≡◌}
use Rattle.std.proofs.lemmas.Result.{err_from_is_err_and}
use Rattle.report_types.specs.declared.script.Script.{Script}
use Rattle.command_spec.specs.Courses.{reads}
use Rattle.command_spec.specs.Lines.{begun, of_lines}
use Rattle.command_spec.specs.Scripts.{lines_of_script}
use Rattle.command_spec.specs.Sorts.{of_script}
use Rattle.command_program.specs.Preparing.{IsPrepared}
use Rattle.command_program.proofs.ComingLaws.{comes_next, comes_stop}
use Rattle.command_program.proofs.Fitting.{script_fits}
use Rattle.command_program.proofs.Preparations.{script_told}
use Rattle.command_program.proofs.preparing.prepare.Goals as goal

pub prepare_lines-requires : goal.prepare_lines-requires
prepare_lines-requires g c =
    let e = c.in_ok-script.ensures.comes in
    let told = script_told _ c.args.name.now e.failing e.ends.0 e.ends.2 in
    rw c.into_vec.ensures (script_fits told.0 c.in_ok-script.script (rw e.ends.1 told.1))

pub returns-clause-prepares : goal.returns-clause-prepares
returns-clause-prepares g c =
    comes_next IsPrepared _ (λ (script : Script). of_lines begun (lines_of_script script.lines)) (reads of_script c.args.name.now) _ _ _ _
    c.in_ok-script.script c.prepare_lines.result c.in_ok-script.ensures.kept c.in_ok-script.ensures.comes (rw c.into_vec.ensures at c.prepare_lines.ensures.prepares)

pub returns-in_err-script-clause-prepares : goal.returns-in_err-script-clause-prepares
returns-in_err-script-clause-prepares g c =
    let p = err_from_is_err_and c.from_residual.result c.from_residual.ensures.1 in
    rw (p.1, p.2)
    (comes_stop (λ said value. said ≡ value) IsPrepared _ (λ (script : Script). of_lines begun (lines_of_script script.lines)) (reads of_script c.args.name.now) _ _ c.in_err-script.field-0.0
    c.in_err-script.ensures.comes)
