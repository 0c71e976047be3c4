use Rattle.quiesce_core.proofs.RunLaws.{changes_are_of_no_node, changes_are_of_no_node_there}
use Rattle.quiesce_core.proofs.run_laws.changes_are_of_no_node.Goals as goal

pub returns : goal.returns
returns c = record { in_states = changes_are_of_no_node; in_runs = changes_are_of_no_node_there }
