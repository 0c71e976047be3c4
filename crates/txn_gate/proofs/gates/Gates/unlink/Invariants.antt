use Rattle.quiesce_core.specs.declared.event.Event.TheVariants.{Unlink}
use Rattle.txn_gate.proofs.gates.Gates.unlink.Given as goal

abbrev pub ghosts-unlink : goal.ghosts-unlink
ghosts-unlink a = record { event = Unlink a.port }
