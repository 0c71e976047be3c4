use Rattle.quiesce_core.proofs.KnownLaws.{nodes_know_by_index}
use Rattle.quiesce_core.proofs.RunLaws.{nodes_know}
use Rattle.quiesce_core.proofs.knowledge_laws.nodes_know.Goals as goal

pub returns : goal.returns
returns c = record { by_number = nodes_know; by_index = nodes_know_by_index }
