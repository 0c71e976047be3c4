use Rattle.step_runner.proofs.PieceLaws.{show_played}
use Rattle.step_runner.proofs.laws.shows_are_played.Goals as goal

pub returns : goal.returns
returns c = record { show = show_played }
