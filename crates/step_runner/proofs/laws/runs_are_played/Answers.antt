use Rattle.step_runner.proofs.RunLaws.{run_played}
use Rattle.step_runner.proofs.laws.runs_are_played.Goals as goal

pub returns : goal.returns
returns c = record { run = run_played }
