-- A denied event has its line, and else the text is that of the replay.
use Rattle.command_spec.specs.Replays.{one_denied, all_steps}
use Rattle.command_program.proofs.replaying.replay_events.Goals as goal

pub returns-in_ok-denied_line-in-Denied : goal.returns-in_ok-denied_line-in-Denied
returns-in_ok-denied_line-in-Denied c =
    rw c.in_ok-denied_line-in-Denied.ensures (one_denied c.in-Denied.denial.number c.in-Denied.denial.rule (rw c.in-Denied.is at c.in_ok-denial.ensures))

pub returns-in-Replayed : goal.returns-in-Replayed
returns-in-Replayed c =
    let became = rw c.in-Replayed.is at c.in_ok-denial.ensures in
    rw became.2.is_text (all_steps became.0 became.2.nodes became.1 became.2.settled)
