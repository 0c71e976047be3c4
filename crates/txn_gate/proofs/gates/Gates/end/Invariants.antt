use Rattle.txn_spec.specs.Views.{node_at, node_of}
use Rattle.node_gate.specs.Seats.{port_known, value_seen}
use Rattle.quiesce_core.specs.declared.event.Event.TheVariants.{End}
use Rattle.txn_gate.proofs.gates.Gates.end.Given as goal

abbrev pub ghosts-end : goal.ghosts-end
ghosts-end a =
    record { event = End a.port (port_known (node_at (node_of a.seat.now.me.0)) (node_of a.seat.now.me.0).known a.port).serial (value_seen (port_known (node_at (node_of a.seat.now.me.0)) (node_of a.seat.now.me.0).known a.port)) }
