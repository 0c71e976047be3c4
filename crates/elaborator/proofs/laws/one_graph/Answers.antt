use Rattle.elaborator.proofs.ElaborationLemmas.{one_graph_of}
use Rattle.elaborator.proofs.laws.one_graph.Goals as goal

pub returns : goal.returns
returns c = one_graph_of
