use Rattle.rows_live.proofs.scan_rows.short_of_memory.Given as goal

abbrev pub ghosts-no_nodes : goal.ghosts-no_nodes
ghosts-no_nodes g a = record { gates = a.gates.now.words.shared.table_id }
