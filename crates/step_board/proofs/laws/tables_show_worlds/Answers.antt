use Rattle.step_board.specs.LogFacts.{logs_shown}
use Rattle.step_board.proofs.laws.tables_show_worlds.Goals as goal

pub returns-clause-run : goal.returns-clause-run
returns-clause-run c = λ t w h. h.holds.runs

pub returns-clause-logs : goal.returns-clause-logs
returns-clause-logs c = λ t w h. logs_shown _ _ _ _ w h
