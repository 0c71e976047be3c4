use Rattle.step_runner.proofs.PieceLaws.{start_played}
use Rattle.step_runner.proofs.laws.starts_are_played.Goals as goal

pub returns : goal.returns
returns c = record { start = start_played }
