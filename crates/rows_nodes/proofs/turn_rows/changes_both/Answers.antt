use Rattle.quiesce_core.specs.Knowledge.{nothing_known}
use Rattle.rows_nodes.proofs.turn_rows.changes_both.Goals as goal

pub returns-clause-left : goal.returns-clause-left
returns-clause-left g c = c.changes.ensures.others 0 nothing_known c.requires.left c.lives.ensures

pub returns-clause-right : goal.returns-clause-right
returns-clause-right g c = c.changes.ensures.others 1 nothing_known c.requires.right c.lives-2.ensures
