use Rattle.change_spec.proofs.GraphLemmas.{graph_is_one}
use Rattle.change_spec.proofs.laws.a_configuration_has_one_graph.Goals as goal

pub returns : goal.returns
returns c = record { one = graph_is_one }
