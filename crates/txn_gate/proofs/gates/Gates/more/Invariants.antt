use Rattle.txn_spec.specs.Views.{node_of}
use Rattle.node_gate.specs.Seats.{serial_served}
use Rattle.quiesce_core.specs.declared.event.Event.TheVariants.{More}
use Rattle.txn_gate.proofs.gates.Gates.more.Given as goal

abbrev pub ghosts-more : goal.ghosts-more
ghosts-more a = record { event = More a.port (serial_served (node_of a.seat.now.me.0).known) a.value }
