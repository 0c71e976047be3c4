-- Words of no form, and want of memory, have one answer each, and no seat comes back.
use Rattle.std.proofs.Common.{map, refl, string_bytes}
use Rattle.command_answers.specs.Answers.{no_memory, usage}
use Rattle.command_answers.specs.declared.status.Status.TheVariants as status
use Rattle.command_spec.specs.Known.{all_commands}
use Rattle.command_spec.specs.Runs.{no_form, not_read, run_of}
use Rattle.command_apply.proofs.RunningLaws.{runs_alone}
use Rattle.command_live.proofs.Returning.{ends_no_run}
use Rattle.command_live.proofs.all_commands.top.Goals as goal
use Rattle.std.proofs.lemmas.Bool.{false≢true}

pub run_read-requires-clause-asked : goal.run_read-requires-clause-asked
run_read-requires-clause-asked g c κs alive = (map string_bytes c.args.words.now, rw c.in-Ok-Some.field-0-is at c.in-Ok-Some.ensures.found)

pub returns-in-Ok-Some-clause-runs : goal.returns-in-Ok-Some-clause-runs
returns-in-Ok-Some-clause-runs g c = c.run_read.ensures.runs _ (rw c.in-Ok-Some.field-0-is at c.in-Ok-Some.ensures.found)

pub returns-in-Ok-Some-clause-answered : goal.returns-in-Ok-Some-clause-answered
returns-in-Ok-Some-clause-answered g c = c.runs_answer_their_commands.ensures _ _ (c.run_read.ensures.runs _ (rw c.in-Ok-Some.field-0-is at c.in-Ok-Some.ensures.found))

pub returns-in-Ok-Some-clause-back : goal.returns-in-Ok-Some-clause-back
returns-in-Ok-Some-clause-back g c = (c.run_read.ensures.seat _ (rw c.in-Ok-Some.field-0-is at c.in-Ok-Some.ensures.found)).back

pub returns-in-Ok-Some-clause-agrees : goal.returns-in-Ok-Some-clause-agrees
returns-in-Ok-Some-clause-agrees g c = (c.run_read.ensures.seat _ (rw c.in-Ok-Some.field-0-is at c.in-Ok-Some.ensures.found)).agrees

pub returns-in-Ok-Some-clause-untouched : goal.returns-in-Ok-Some-clause-untouched
returns-in-Ok-Some-clause-untouched g c none =
    c.run_read.ensures.untouched (none _ (refl, rw c.in-Ok-Some.field-0-is at c.in-Ok-Some.ensures.found))

pub returns-in-Ok-None-clause-runs : goal.returns-in-Ok-None-clause-runs
returns-in-Ok-None-clause-runs g c =
    let seen = run_of g.H.Shelf g.K.Sink (map string_bytes c.args.words.now) c.args.shelf.now c.args.shelf.now c.args.out.now c.write_usage.new.out c.write_usage.result in
    runs_alone all_commands seen usage refl (no_form (λ command asks. (rw c.in-Ok-None.field-0-is at c.in-Ok-None.ensures.none) command asks.1)) (c.write_usage.ensures seen)

pub returns-in-Ok-None-clause-answered : goal.returns-in-Ok-None-clause-answered
returns-in-Ok-None-clause-answered g c command asks = absurd ((rw c.in-Ok-None.field-0-is at c.in-Ok-None.ensures.none) command asks.1)

pub returns-in-Ok-None-clause-back : goal.returns-in-Ok-None-clause-back
returns-in-Ok-None-clause-back g c = (λ some. absurd (false≢true some), λ x. absurd ((rw c.in-Ok-None.field-0-is at c.in-Ok-None.ensures.none) _ x.3))

pub returns-in-Err-clause-runs : goal.returns-in-Err-clause-runs
returns-in-Err-clause-runs g c =
    let seen = run_of g.H.Shelf g.K.Sink (map string_bytes c.args.words.now) c.args.shelf.now c.args.shelf.now c.args.out.now c.write_no_memory.new.out c.write_no_memory.result in
    runs_alone all_commands seen no_memory refl not_read (c.write_no_memory.ensures seen)

pub returns-in-Err-clause-answered : goal.returns-in-Err-clause-answered
returns-in-Err-clause-answered g c =
    let seen = run_of g.H.Shelf g.K.Sink (map string_bytes c.args.words.now) c.args.shelf.now c.args.shelf.now c.args.out.now c.write_no_memory.new.out c.write_no_memory.result in
    c.runs_answer_their_commands.ensures _ _ (runs_alone all_commands seen no_memory refl not_read (c.write_no_memory.ensures seen))

pub returns-in-Err-clause-back : goal.returns-in-Err-clause-back
returns-in-Err-clause-back g c =
    let seen = run_of g.H.Shelf g.K.Sink (map string_bytes c.args.words.now) c.args.shelf.now c.args.shelf.now c.args.out.now c.write_no_memory.new.out c.write_no_memory.result in
    (λ some. absurd (false≢true some), λ x. absurd (ends_no_run status.NoMemory _ seen refl (c.write_no_memory.ensures seen) x.4))
