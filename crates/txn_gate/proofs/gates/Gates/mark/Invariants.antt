use Rattle.txn_gate.proofs.gates.Gates.mark.Given as goal

abbrev pub ghosts-mark : goal.ghosts-mark
ghosts-mark a = record { begins = a.begins; moved = a.moved }
