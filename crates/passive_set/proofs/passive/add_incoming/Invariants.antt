use Rattle.std.proofs.Common.{◌≡◌, take, Contains}
use Rattle.passive_set.specs.Ports.{Adds}
use Rattle.passive_set.proofs.passive.add_incoming.Given as goal

abbrev pub invariant-loop-port : goal.invariant-loop-port
invariant-loop-port l = record {
  room : l.set.room ≡ l.initial.set.room;
  added : Adds l.initial.set.ports l.set.ports (Contains (take l.port-index l.port-items));
}
