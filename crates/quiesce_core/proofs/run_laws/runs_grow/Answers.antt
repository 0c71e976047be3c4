use Rattle.quiesce_core.proofs.RunLaws.{fronts_are_runs, runs_are_found, runs_grow, state_more}
use Rattle.quiesce_core.proofs.run_laws.runs_grow.Goals as goal

pub returns : goal.returns
returns c = record { more = runs_grow; state = state_more; fronts = fronts_are_runs; found = runs_are_found }
