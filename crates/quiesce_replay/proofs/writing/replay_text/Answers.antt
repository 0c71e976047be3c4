-- The settled nodes are in slots.
use Rattle.quiesce_replay.proofs.SettledLemmas.{settled_low}
use Rattle.quiesce_replay.proofs.writing.replay_text.Goals as goal

pub push_settled-requires : goal.push_settled-requires
push_settled-requires c = rw c.as_slice-2.ensures.value (settled_low c.args.core.now.state c.in_ok-settled.settled.items c.in_ok-settled.ensures)
