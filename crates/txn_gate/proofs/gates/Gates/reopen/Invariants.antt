use Rattle.quiesce_core.specs.declared.event.Event.TheVariants.{Reopen}
use Rattle.txn_gate.proofs.gates.Gates.reopen.Given as goal

abbrev pub ghosts-reopen : goal.ghosts-reopen
ghosts-reopen a = record { event = Reopen a.port }
