use Rattle.std.proofs.Common.{◌≡◌, ◌≤◌, take, vec_len}
use Rattle.std.specs.Vec.{vec_capacity}
use Rattle.change_engine.specs.Passivating.{root_ports}
use Rattle.change_engine.proofs.passivating.list_ports.Given as goal

abbrev pub invariant-loop-root : goal.invariant-loop-root
invariant-loop-root l = record {
  items : l.ports.items ≡ root_ports (take l.root-index l.left);
  len : vec_len l.ports ≡ l.root-index;
  capacity : vec_capacity l.initial.ports ≤ vec_capacity l.ports;
}
