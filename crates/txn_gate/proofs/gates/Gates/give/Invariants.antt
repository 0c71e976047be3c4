use Rattle.txn_spec.specs.Views.{node_of}
use Rattle.node_gate.specs.Seats.{serial_served}
use Rattle.quiesce_core.specs.declared.event.Event.TheVariants.{Give}
use Rattle.txn_gate.proofs.gates.Gates.give.Given as goal

abbrev pub ghosts-give : goal.ghosts-give
ghosts-give a = record { event = Give a.port (serial_served (node_of a.seat.now.me.0).known) a.value }
