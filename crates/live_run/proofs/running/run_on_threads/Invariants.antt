use Rattle.live_run.proofs.running.run_on_threads.Given as goal

abbrev pub ghosts-run_beside : goal.ghosts-run_beside
ghosts-run_beside g a = record { gates = a.gates.now.words.shared.table_id }
