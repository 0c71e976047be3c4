use Rattle.std.proofs.Common.{◌≡◌}
use Rattle.passive_set.specs.Feeding.{FeedsNode}
use Rattle.passive_set.specs.Ports.{Adds}
use Rattle.passive_set.proofs.passive.add_linked.Given as goal

abbrev pub invariant-loop-provide : goal.invariant-loop-provide
invariant-loop-provide l = record {
  room : l.set.room ≡ l.initial.set.room;
  added : Adds l.initial.set.ports l.set.ports (FeedsNode l.graph l.node l.provide);
}
