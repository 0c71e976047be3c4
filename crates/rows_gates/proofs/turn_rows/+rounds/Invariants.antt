use Rattle.rows_gates.proofs.turn_rows.+rounds.Given as goal

abbrev pub decreases-rounds : goal.decreases-rounds
decreases-rounds l = l.most
