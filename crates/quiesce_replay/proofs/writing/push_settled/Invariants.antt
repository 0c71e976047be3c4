use Rattle.std.proofs.Common.{◌≡◌, ◌++◌, take}
use Rattle.std.specs.Prelude.{flat_map}
use Rattle.quiesce_replay.specs.ReplayText.{settled_line}
use Rattle.quiesce_replay.proofs.writing.push_settled.Given as goal

abbrev pub invariant-loop-slot : goal.invariant-loop-slot
invariant-loop-slot l = l.text.items ≡ l.initial.text.items ++ flat_map (settled_line l.core.state) (take l.slot-index l.nodes)
