use Rattle.quiesce_core.specs.declared.event.Event.TheVariants.{Link}
use Rattle.txn_gate.proofs.gates.Gates.link.Given as goal

abbrev pub ghosts-link : goal.ghosts-link
ghosts-link a = record { event = Link a.port a.to.node a.to.provide }
