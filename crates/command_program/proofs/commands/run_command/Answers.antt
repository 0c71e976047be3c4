-- A command that runs on one thread has its answer, and it is written; another has no form.
use Rattle.std.proofs.Common.{refl}
use Rattle.command_answers.specs.Answers.{usage}
use Rattle.command_spec.specs.Known.{on_one_thread}
use Rattle.command_spec.specs.Runs.{no_form, run_of}
use Rattle.command_program.proofs.KnowingLaws.{on_one}
use Rattle.command_program.proofs.RunningLaws.{not_known, runs_alone, runs_by}
use Rattle.command_program.proofs.commands.run_command.Goals as goal

pub answer_command-requires : goal.answer_command-requires
answer_command-requires g c = on_one c.args.command c.in_default.not-Live

pub returns-in-Live-clause-runs : goal.returns-in-Live-clause-runs
returns-in-Live-clause-runs g c words asks =
    let seen = run_of g.H.Shelf g.K.Sink words c.args.shelf.now c.args.shelf.now c.args.out.now c.write_usage.new.out c.write_usage.result in
    runs_alone on_one_thread seen usage refl (no_form (not_known on_one_thread words _ refl (rw c.in-Live.is at asks))) (c.write_usage.ensures seen)

pub returns-in_default-clause-runs : goal.returns-in_default-clause-runs
returns-in_default-clause-runs g c words asks =
    let seen = run_of g.H.Shelf g.K.Sink words c.args.shelf.now c.answer_command.new.shelf c.args.out.now c.write_answer.new.out c.write_answer.result in
    runs_by on_one_thread seen c.args.command (on_one c.args.command c.in_default.not-Live, asks) c.answer_command.result c.answer_command.ensures.answers
    (c.write_answer.ensures seen)

pub returns-in_default-clause-untouched : goal.returns-in_default-clause-untouched
returns-in_default-clause-untouched g c none = c.answer_command.ensures.untouched (none (on_one c.args.command c.in_default.not-Live))
