use Rattle.step_runner.proofs.PieceLaws.{stop_played}
use Rattle.step_runner.proofs.laws.stops_are_played.Goals as goal

pub returns : goal.returns
returns c = record { stop = stop_played }
