use Rattle.change_spec.proofs.RunningLaws.{quiet}
use Rattle.change_spec.proofs.laws.changes_find_nodes_quiescent.Goals as goal

pub returns : goal.returns
returns c = record { quiescent = quiet }
