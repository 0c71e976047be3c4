use Rattle.quiesce_laws.proofs.DrainingLaws.{settled_if_drained}
use Rattle.quiesce_laws.proofs.draining.nodes_with_drained_ports_are_settled.Goals as goal

pub returns : goal.returns
returns c es n run live own reaching = settled_if_drained es n run live own reaching
