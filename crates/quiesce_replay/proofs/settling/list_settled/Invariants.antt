-- The settled nodes of the slots so far are listed.
use Rattle.quiesce_replay.proofs.SettledLemmas.{SettledBelow}
use Rattle.quiesce_replay.proofs.settling.list_settled.Given as goal

abbrev pub invariant-loop-slot : goal.invariant-loop-slot
invariant-loop-slot l = SettledBelow l.core.state l.slot l.nodes.items
