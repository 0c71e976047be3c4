use Rattle.rows_hall.proofs.door_rows.two_doors.Given as goal

abbrev pub ghosts-turned_at_another : goal.ghosts-turned_at_another
ghosts-turned_at_another g a = record { gates = a.gates.now.words.shared.table_id }
