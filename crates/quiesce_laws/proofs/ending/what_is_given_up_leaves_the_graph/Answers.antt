use Rattle.quiesce_laws.proofs.EndingLaws.{graph_stays}
use Rattle.quiesce_laws.proofs.ending.what_is_given_up_leaves_the_graph.Goals as goal

pub returns : goal.returns
returns c = λ graph es more_ run h is. graph_stays graph es more_ run h is
