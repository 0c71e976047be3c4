use Rattle.quiesce_laws.proofs.QuiescenceLaws.{quiescent}
use Rattle.quiesce_laws.proofs.quiescence.settled_nodes_are_quiescent.Goals as goal

pub returns : goal.returns
returns c es n run h = quiescent es n run h
