use Rattle.quiesce_core.specs.Knowledge.{nothing_known}
use Rattle.rows_nodes.proofs.turn_rows.make_both.Goals as goal

pub returns-clause-left : goal.returns-clause-left
returns-clause-left g c = c.make_node-2.ensures.others 0 nothing_known c.make_node.ensures.fits c.lives.ensures
