-- The code is that of the status. Where memory ran out before there were words, none are read.
use Rattle.std.proofs.Common.{[], refl}
use Rattle.command_answers.specs.Answers.{no_memory}
use Rattle.command_spec.specs.Runs.{not_read, run_of}
use Rattle.command_spec.specs.Known.{all_commands}
use Rattle.command_apply.proofs.RunningLaws.{runs_alone}
use Rattle.command_live.proofs.Noting.{unnoted}
use Rattle.command_live.proofs.program.run_program.Goals as goal

pub returns-in-Err-clause-unreadable : goal.returns-in-Err-clause-unreadable
returns-in-Err-clause-unreadable g c =
    let seen = run_of g.H.Shelf g.K.Sink [] c.args.shelf.now c.args.shelf.now c.args.out.now c.write_no_memory.new.out c.write_no_memory.result in
    rw c.in-Err.is (record {
      own = c.write_no_memory.result;
      is = record {
        runs = runs_alone all_commands seen no_memory refl not_read (c.write_no_memory.ensures seen);
        noted = unnoted g.N.Sink _ seen c.args.notes.now (c.write_no_memory.ensures seen);
      };
      numbered = c.exit_code-in-Err.ensures;
    })

pub returns-in-Err-clause-no_memory : goal.returns-in-Err-clause-no_memory
returns-in-Err-clause-no_memory g c =
    let seen = run_of g.H.Shelf g.K.Sink [] c.args.shelf.now c.args.shelf.now c.args.out.now c.write_no_memory.new.out c.write_no_memory.result in
    rw c.in-Err.is (λ none. (record { own = c.write_no_memory.result; is = c.write_no_memory.ensures seen; numbered = c.exit_code-in-Err.ensures }, refl))

pub returns-in-Ok-clause-given : goal.returns-in-Ok-clause-given
returns-in-Ok-clause-given g c = rw c.in-Ok.is (record { own = c.run_given.result; is = c.run_given.ensures.does; numbered = c.exit_code.ensures })

pub returns-in-Ok-clause-untouched : goal.returns-in-Ok-clause-untouched
returns-in-Ok-clause-untouched g c = rw c.in-Ok.is c.run_given.ensures.untouched
