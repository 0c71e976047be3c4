use Rattle.std.proofs.Common.{◌≡◌, length}
use Rattle.change_parts.specs.Staging.{AreLaid, stands}
use Rattle.change_parts.proofs.staging.lay.Given as goal

abbrev pub invariant-loop-node : goal.invariant-loop-node
invariant-loop-node l = record {
  long : length l.places.items ≡ l.node-index;
  laid : AreLaid (stands l.members l.applied) l.members.nodes.items l.nodes.items l.places.items;
}
