-- What was prepared is run.
use Rattle.std.proofs.lemmas.Result.{err_from_is_err_and}
use Rattle.command_spec.specs.Commands.{IsRunOf}
use Rattle.command_spec.specs.Courses.{says}
use Rattle.command_spec.specs.Lines.{Progress}
use Rattle.command_spec.specs.Schedules.{IsReportBy, IsShownBy, rounds}
use Rattle.command_spec.specs.Scripts.{prepares}
use Rattle.command_program.specs.Coming.{Shows}
use Rattle.command_program.specs.Preparing.{IsPrepared}
use Rattle.command_program.proofs.ComingLaws.{comes_stop}
use Rattle.command_program.proofs.ReportingLaws.{ran_of}
use Rattle.command_program.proofs.answering.answer_script.Goals as goal

pub returns-in_err-asked-clause-answers : goal.returns-in_err-asked-clause-answers
returns-in_err-asked-clause-answers g c =
    let p = err_from_is_err_and c.from_residual.result c.from_residual.ensures.1 in
    rw (p.1, p.2)
    (comes_stop IsPrepared Shows _ (λ (p : Progress). says (IsRunOf (IsReportBy rounds) (IsShownBy rounds) p.statements)) (prepares c.args.name.now) _ _ c.in_err-asked.field-0.0
    c.in_err-asked.ensures.prepares)

pub returns-clause-answers : goal.returns-clause-answers
returns-clause-answers g c =
    ran_of (IsReportBy rounds) (IsShownBy rounds) _ c.args.name.now _ _ c.in_ok-asked.asked c.in_ok-asked.ensures.prepares c.run_script.result c.or_stop.result
    c.or_stop.ensures c.run_script.ensures
