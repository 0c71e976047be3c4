use Rattle.config_graph.proofs.GraphByLaws.{same_graph}
use Rattle.config_graph.proofs.laws.one_graph.Goals as goal

pub returns : goal.returns
returns c = same_graph
