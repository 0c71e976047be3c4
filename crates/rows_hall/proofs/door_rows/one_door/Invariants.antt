use Rattle.rows_hall.proofs.door_rows.one_door.Given as goal

abbrev pub ghosts-put_and_taken : goal.ghosts-put_and_taken
ghosts-put_and_taken g a = record { gates = a.gates.now.words.shared.table_id }
