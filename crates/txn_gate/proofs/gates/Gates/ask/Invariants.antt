use Rattle.txn_spec.specs.Views.{node_at, node_of}
use Rattle.node_gate.specs.Seats.{port_known}
use Rattle.quiesce_core.specs.declared.event.Event.TheVariants.{Ask}
use Rattle.txn_gate.proofs.gates.Gates.ask.Given as goal

abbrev pub ghosts-ask : goal.ghosts-ask
ghosts-ask a = record { event = Ask a.port (port_known (node_at (node_of a.seat.now.me.0)) (node_of a.seat.now.me.0).known a.port).serial a.value }
