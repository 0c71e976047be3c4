-- Where there is no memory for the gates, the words aren't read.
use Rattle.std.proofs.Common.{ap, map, refl, string_bytes}
use Rattle.command_answers.specs.Answers.{no_memory}
use Rattle.command_spec.specs.Known.{all_commands}
use Rattle.command_spec.specs.Runs.{not_read, run_of}
use Rattle.command_apply.proofs.RunningLaws.{runs_alone}
use Rattle.command_live.proofs.Knowing.{nothing_asked}
use Rattle.command_live.proofs.program.run_on_gates.Goals as goal

pub returns-in-Err-clause-runs : goal.returns-in-Err-clause-runs
returns-in-Err-clause-runs g c =
    let seen = run_of g.H.Shelf g.K.Sink (map string_bytes c.args.words.now) c.args.shelf.now c.args.shelf.now c.args.out.now c.write_no_memory.new.out c.write_no_memory.result in
    runs_alone all_commands seen no_memory refl not_read (c.write_no_memory.ensures seen)

pub returns-in-Ok-clause-unread : goal.returns-in-Ok-clause-unread
returns-in-Ok-clause-unread g c none = c.top-status.ensures.untouched
    (λ command asks. absurd (nothing_asked (map string_bytes c.args.words.now) command (ap (map string_bytes) none) asks.1))
