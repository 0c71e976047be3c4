use Rattle.step_board.proofs.Showing.{shows_changed}
use Rattle.step_board.proofs.table.NodeTable.perform.Goals as goal

pub returns-clause-shows : goal.returns-clause-shows
returns-clause-shows c = λ w h. shows_changed _ _ _ _ _ w c.args.event.now h c.perform.ensures.step c.requires.by_change c.requires.no_make
