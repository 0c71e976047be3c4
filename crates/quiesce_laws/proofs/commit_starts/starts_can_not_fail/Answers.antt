use Rattle.quiesce_laws.proofs.StartingLemmas.{start_allowed, start_graph}
use Rattle.quiesce_laws.proofs.commit_starts.starts_can_not_fail.Goals as goal

pub returns-clause-allowed : goal.returns-clause-allowed
returns-clause-allowed c = λ g more_ left e sound few_nodes few_ports run is. start_allowed g sound few_nodes few_ports more_ left e run is

pub returns-clause-graph : goal.returns-clause-graph
returns-clause-graph c = λ g more_ sound few_nodes few_ports is. start_graph g sound few_nodes few_ports more_ is
