-- A session is held where the words ask for one.
use Rattle.std.proofs.Common.{map, refl, string_bytes}
use Rattle.command_spec.specs.Runs.{run_of}
use Rattle.command_live.specs.Doing.{holds_session, reads_nothing, runs_command}
use Rattle.command_live.proofs.program.run_asked.Goals as goal

pub returns-in-Ok-Some-clause-does : goal.returns-in-Ok-Some-clause-does
returns-in-Ok-Some-clause-does g c =
    holds_session _ (rw c.in-Ok-Some.field-0-is at c.in-Ok-Some.ensures.found) (c.carry_out.ensures.applies (map string_bytes c.args.words.now)) refl

pub returns-in-Ok-Some-clause-untouched : goal.returns-in-Ok-Some-clause-untouched
returns-in-Ok-Some-clause-untouched g c none names = absurd (none _ (rw c.in-Ok-Some.field-0-is at c.in-Ok-Some.ensures.found))

pub returns-in-Ok-None-clause-does : goal.returns-in-Ok-None-clause-does
returns-in-Ok-None-clause-does g c = runs_command (rw c.in-Ok-None.field-0-is at c.in-Ok-None.ensures.none) c.run_noted.ensures.runs

pub returns-in-Err-clause-does : goal.returns-in-Err-clause-does
returns-in-Err-clause-does g c =
    let seen = run_of g.H.Shelf g.K.Sink (map string_bytes c.args.words.now) c.args.shelf.now c.args.shelf.now c.args.out.now c.write_no_memory.new.out c.write_no_memory.result in
    reads_nothing refl (c.write_no_memory.ensures seen) refl
