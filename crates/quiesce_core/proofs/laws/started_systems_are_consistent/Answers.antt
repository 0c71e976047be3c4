use Rattle.quiesce_core.proofs.GraphLaws.{consistent_started, well_formed_started}
use Rattle.quiesce_core.proofs.laws.started_systems_are_consistent.Goals as goal

pub returns : goal.returns
returns c g sound few_nodes few_ports = (well_formed_started g sound few_nodes few_ports, consistent_started g sound few_nodes few_ports)
