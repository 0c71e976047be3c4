use Rattle.std.proofs.Common.{◌≡◌}
use Rattle.passive_set.specs.Feeding.{FeedsPort}
use Rattle.passive_set.specs.Ports.{Adds}
use Rattle.passive_set.proofs.passive.add_feeding.Given as goal

abbrev pub invariant-loop-provide : goal.invariant-loop-provide
invariant-loop-provide l = record {
  room : l.set.room ≡ l.initial.set.room;
  added : Adds l.initial.set.ports l.set.ports (FeedsPort l.graph l.port.node l.port.require l.provide);
}
