-- What was prepared is run, or refuses the script.
use Rattle.std.proofs.Common.{Result, Ok, Err, refl}
use Rattle.std.proofs.lemmas.Result.{err_from_is_err_and}
use Rattle.command_spec.specs.Commands.{IsRunOf}
use Rattle.command_spec.specs.Courses.{says}
use Rattle.command_spec.specs.Lines.{Progress}
use Rattle.command_spec.specs.Schedules.{IsReportBy, IsShownBy, threads}
use Rattle.command_spec.specs.Scripts.{prepares}
use Rattle.command_apply.specs.Coming.{Shows}
use Rattle.command_apply.specs.Preparing.{IsPrepared}
use Rattle.command_apply.specs.declared.Answer.{Answer}
use Rattle.command_apply.specs.declared.Stop.{Stop}
use Rattle.command_apply.specs.declared.Stop.TheVariants as stops
use Rattle.command_apply.proofs.ComingLaws.{comes_stop, ends_no_run}
use Rattle.command_apply.proofs.ReportingLaws.{ran_of}
use Rattle.command_live.specs.Agreeing.{AgreesWithSeat}
use Rattle.command_live.proofs.running.answer_script.Goals as goal

pub returns-in-Ok-clause-answers : goal.returns-in-Ok-clause-answers
returns-in-Ok-clause-answers g c =
    let x = c.in-Ok.ran in
    let answered : Result Answer Stop = Ok x.0 in
    ran_of (AgreesWithSeat x.1) (IsShownBy (threads c.args.crew.observers)) _ c.args.name.now _ _ c.in_ok-asked.asked c.in_ok-asked.ensures.prepares
    answered answered refl c.in-Ok.ensures.answer

pub returns-in-Err-clause-answers : goal.returns-in-Err-clause-answers
returns-in-Err-clause-answers g c =
    let none : Result Answer (Unit {0}) = Err tt in
    ran_of (IsReportBy (threads c.args.crew.observers)) (IsShownBy (threads c.args.crew.observers)) _ c.args.name.now _ _ c.in_ok-asked.asked
    c.in_ok-asked.ensures.prepares none (Err stops.NoMemory) refl tt

pub returns-in_err-asked-clause-answers : goal.returns-in_err-asked-clause-answers
returns-in_err-asked-clause-answers g c =
    let p = err_from_is_err_and c.from_residual.result c.from_residual.ensures.1 in
    let on = threads c.args.crew.observers in
    rw (p.1, p.2)
    (comes_stop IsPrepared Shows _ (λ (p : Progress). says (IsRunOf (IsReportBy on) (IsShownBy on) p.statements)) (prepares c.args.name.now) _ _ c.in_err-asked.field-0.0
    c.in_err-asked.ensures.prepares)

pub returns-in_err-asked-clause-no_run : goal.returns-in_err-asked-clause-no_run
returns-in_err-asked-clause-no_run g c =
    let p = err_from_is_err_and c.from_residual.result c.from_residual.ensures.1 in
    let e = c.in_err-asked.ensures.prepares in
    rw (p.1, p.2) (ends_no_run IsPrepared _ (prepares c.args.name.now) e.failing c.in_err-asked.field-0.0 e.ends)
