use Rattle.change_board.specs.Transcripts.{entries}
use Rattle.step_runner.proofs.round_rolling.close_down.Goals as goal

pub returns-clause-rounds : goal.returns-clause-rounds
returns-clause-rounds g c = λ t idle. (c.close_down.ensures.rounds (entries t) idle.tells.board).rounds
