use Rattle.quiesce_core.specs.declared.event.Event.TheVariants.{Remove}
use Rattle.txn_gate.proofs.gates.Gates.remove.Given as goal

abbrev pub ghosts-remove : goal.ghosts-remove
ghosts-remove a = record { event = Remove a.node }
