use Rattle.quiesce_core.proofs.RunLaws.{nodes_are_named}
use Rattle.quiesce_core.proofs.laws.nodes_are_named.Goals as goal

pub returns : goal.returns
returns c es h = nodes_are_named es h
