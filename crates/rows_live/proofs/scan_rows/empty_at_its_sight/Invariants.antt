use Rattle.rows_live.proofs.scan_rows.empty_at_its_sight.Given as goal

abbrev pub ghosts-empty_then_full : goal.ghosts-empty_then_full
ghosts-empty_then_full g a = record { gates = a.gates.now.words.shared.table_id }
