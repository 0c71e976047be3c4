use Rattle.std.specs.Prelude.{◌++◌}
use Rattle.quiesce_core.specs.Runs.{state_after}
use Rattle.quiesce_core.proofs.SettledLaws.{if_settled}
use Rattle.quiesce_laws.proofs.QuiescenceLaws.{quiescent_at}
use Rattle.change_plan_laws.proofs.CommitLemmas.{settled_at}
use Rattle.change_plan_laws.proofs.committing.touched_nodes_are_quiescent.Goals as goal

pub returns-clause-settled : goal.returns-clause-settled
returns-clause-settled c = λ old new moves plan es more_ left n i may run is touched stands live. settled_at old new moves plan es may more_ left n run is (i, touched, stands) live

pub returns-clause-quiescent : goal.returns-clause-quiescent
returns-clause-quiescent c = λ old new moves plan es more_ left n i may run is touched stands live.
    quiescent_at (es ++ more_) n run (if_settled (state_after (es ++ more_)) n (settled_at old new moves plan es may more_ left n run is (i, touched, stands) live))
