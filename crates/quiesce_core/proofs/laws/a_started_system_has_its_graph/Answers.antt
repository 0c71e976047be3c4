use Rattle.quiesce_core.proofs.GraphLaws.{graph_started}
use Rattle.quiesce_core.proofs.laws.a_started_system_has_its_graph.Goals as goal

pub returns : goal.returns
returns c g sound few_nodes few_ports = graph_started g sound few_nodes few_ports
