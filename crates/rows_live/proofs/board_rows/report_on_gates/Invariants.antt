use Rattle.rows_live.proofs.board_rows.report_on_gates.Given as goal

abbrev pub ghosts-live_report : goal.ghosts-live_report
ghosts-live_report g a = record { gates = a.gates.now.words.shared.table_id }
