-- What was prepared of the made script is run, or refuses it.
use Rattle.std.proofs.Common.{[], Option, Result, Err, subst, sym}
use Rattle.std.proofs.lemmas.Result.{err_from_is_err_and}
use Rattle.cfg_io.specs.Shelf.{Files}
use Rattle.command_spec.specs.Commands.{IsRunOf, IsSummary, Shown}
use Rattle.command_spec.specs.Courses.{Course, says}
use Rattle.command_spec.specs.Lines.{Progress}
use Rattle.command_spec.specs.Schedules.{IsReportBy, rounds}
use Rattle.command_spec.specs.Scripts.{prepares}
use Rattle.command_words.specs.BigFiles.{script_name}
use Rattle.command_program.specs.Coming.{Comes, EndsIn, Shows}
use Rattle.command_program.specs.Preparing.{IsPrepared}
use Rattle.command_program.specs.declared.answer.Answer.{Answer}
use Rattle.command_program.specs.declared.answer.Stop.{Stop}
use Rattle.command_program.proofs.ComingLaws.{comes_stop}
use Rattle.command_program.proofs.ReportingLaws.{ran_of}
use Rattle.command_program.proofs.answering.answer_made.Goals as goal

-- no fetch of made files fails
unfailed : (files : Option Files) (c : Course Shown) (r : Result Answer Stop) → Comes Shows files c [] [] r → EndsIn Shows files c [] r
unfailed files c r by = subst (λ ns. EndsIn Shows files c ns r) (sym by.noted) by.ends

pub returns-in_err-asked : goal.returns-in_err-asked
returns-in_err-asked c =
    let p = err_from_is_err_and c.from_residual.result c.from_residual.ensures.1 in
    rw (p.1, p.2)
    (unfailed _ _ (Err c.in_err-asked.field-0.0)
    (comes_stop IsPrepared Shows _ (λ (p : Progress). says (IsRunOf (IsReportBy rounds) (IsSummary c.args.lanes) p.statements)) (prepares script_name) _ _ c.in_err-asked.field-0.0
    c.in_err-asked.ensures.prepares))

pub returns : goal.returns
returns c =
    unfailed _ _ c.or_stop.result
    (ran_of (IsReportBy rounds) (IsSummary c.args.lanes) _ script_name _ _ c.in_ok-asked.asked c.in_ok-asked.ensures.prepares c.sum_up.result c.or_stop.result
    c.or_stop.ensures c.sum_up.ensures)
