-- A file of events is read, and then a description.
use Rattle.std.proofs.Common.{◌≡◌}
use Rattle.std.proofs.lemmas.Result.{err_from_is_err_and}
use Rattle.change_script.specs.declared.event_files.EventFile.{EventFile}
use Rattle.command_spec.specs.Commands.{of_query}
use Rattle.command_spec.specs.Courses.{reads}
use Rattle.command_spec.specs.Sorts.{of_events}
use Rattle.command_spec.specs.declared.query.Query.TheVariants as queries
use Rattle.command_program.specs.Coming.{Shows}
use Rattle.command_program.proofs.ComingLaws.{comes_next, comes_stop}
use Rattle.command_program.proofs.answering.answer_replay.Goals as goal

pub returns-in_err-read-clause-answers : goal.returns-in_err-read-clause-answers
returns-in_err-read-clause-answers g c =
    let p = err_from_is_err_and c.from_residual.result c.from_residual.ensures.1 in
    rw (p.1, p.2)
    (comes_stop (λ said value. said ≡ value) Shows _ (λ (events : EventFile). of_query c.args.file.now (queries.Replay events)) (reads of_events c.args.events.now) _ _ c.in_err-read.field-0.0
    c.in_err-read.ensures.comes)

pub returns-clause-answers : goal.returns-clause-answers
returns-clause-answers g c =
    comes_next Shows _ (λ (events : EventFile). of_query c.args.file.now (queries.Replay events)) (reads of_events c.args.events.now) _ _ _ _
    c.in_ok-read.read c.answer_description.result c.in_ok-read.ensures.kept c.in_ok-read.ensures.comes c.answer_description.ensures.answers
