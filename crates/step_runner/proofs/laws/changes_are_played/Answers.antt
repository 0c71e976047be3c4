use Rattle.step_runner.proofs.PieceLaws.{change_played}
use Rattle.step_runner.proofs.laws.changes_are_played.Goals as goal

pub returns : goal.returns
returns c = record { change = change_played }
