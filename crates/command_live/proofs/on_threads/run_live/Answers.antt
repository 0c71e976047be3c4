-- What was answered is written, and the seat comes back where it is a report.
use Rattle.std.proofs.Common.{[], Ok, Err}
use Rattle.command_spec.specs.Runs.{run_of}
use Rattle.command_spec.specs.Schedules.{IsReportBy, IsShownBy, threads}
use Rattle.command_words.specs.declared.words.Command.TheVariants as commands
use Rattle.command_live.specs.Agreeing.{AgreesWithSeat, ComesBack}
use Rattle.command_apply.proofs.RunningLaws.{runs_by}
use Rattle.command_live.proofs.Returning.{comes_wider, of_back, reports_so, stop_no_run}
use Rattle.command_live.proofs.on_threads.run_live.Goals as goal
use Rattle.std.proofs.lemmas.Bool.{false≢true}

pub returns-in-Ok-clause-runs : goal.returns-in-Ok-clause-runs
returns-in-Ok-clause-runs g c knows words asks =
    let name = c.args.script.now in
    let own = c.args.crew in
    let seen = run_of g.H.Shelf g.K.Sink words c.args.shelf.now c.answer_script.new.shelf c.args.out.now c.write_text-status.new.out c.write_text-status.result in
    runs_by knows seen (commands.Live name own.workers own.observers) asks (Ok c.in-Ok.answer)
    (comes_wider (AgreesWithSeat c.in-Ok.seat) (IsReportBy (threads own.observers)) (IsShownBy (threads own.observers)) _ name
    (λ statements r agrees. record { lawful = agrees.lawful; at_once = agrees.at_once; early = agrees.early }) _ _ c.in-Ok.answer c.in-Ok.ensures.answers)
    (rw c.as_slice.ensures.value at c.write_text-status.ensures seen)

pub returns-in-Ok-clause-agrees : goal.returns-in-Ok-clause-agrees
returns-in-Ok-clause-agrees g c words asks =
    let name = c.args.script.now in
    let own = c.args.crew in
    let seen = run_of g.H.Shelf g.K.Sink words c.args.shelf.now c.answer_script.new.shelf c.args.out.now c.write_text-status.new.out c.write_text-status.result in
    of_back (ComesBack c.args.gates.now.words.shared.table_id seen) c.in-Ok.seat c.seat_back.result c.seat_back.ensures.seat
    (λ some. record {
      name = name;
      workers = own.workers;
      observers = own.observers;
      asks = asks;
      here = c.in-Ok.ensures.here;
      reported = reports_so (AgreesWithSeat c.in-Ok.seat) (IsShownBy (threads own.observers)) seen name _ _ c.in-Ok.answer c.in-Ok.ensures.answers (rw c.as_slice.ensures.value at c.write_text-status.ensures seen) (c.seat_back.ensures.back.0 some);
    })

pub returns-in-Err-clause-runs : goal.returns-in-Err-clause-runs
returns-in-Err-clause-runs g c knows words asks =
    let own = c.args.crew in
    let seen = run_of g.H.Shelf g.K.Sink words c.args.shelf.now c.answer_script.new.shelf c.args.out.now c.write_answer.new.out c.write_answer.result in
    runs_by knows seen (commands.Live c.args.script.now own.workers own.observers) asks (Err c.in-Err.stop) c.in-Err.ensures.answers (c.write_answer.ensures seen)

pub returns-in-Err-clause-back : goal.returns-in-Err-clause-back
returns-in-Err-clause-back g c =
    let seen = run_of g.H.Shelf g.K.Sink [] c.args.shelf.now c.answer_script.new.shelf c.args.out.now c.write_answer.new.out c.write_answer.result in
    (λ some. absurd (false≢true some), λ is. absurd (stop_no_run c.in-Err.stop seen c.in-Err.ensures.no_run (c.write_answer.ensures seen) is))
