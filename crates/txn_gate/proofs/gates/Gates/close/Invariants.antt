use Rattle.quiesce_core.specs.declared.event.Event.TheVariants.{Close}
use Rattle.txn_gate.proofs.gates.Gates.close.Given as goal

abbrev pub ghosts-close : goal.ghosts-close
ghosts-close a = record { event = Close a.port }
