use Rattle.std.specs.Prelude.{IsTrue}
use Rattle.quiesce_core.specs.Runs.{state_after}
use Rattle.quiesce_laws.specs.Steps.{change_all}
use Rattle.quiesce_laws.specs.Work.{steps_of}
use Rattle.quiesce_laws.proofs.CarryingLaws.{allowed_at, graph_reopening, settled_at}
use Rattle.quiesce_core.proofs.RunLaws.{fronts_are_runs}
use Rattle.quiesce_laws.proofs.MemberLaws.{in_contains}
use Rattle.quiesce_laws.proofs.TurningLaws.{live_port}
use Rattle.quiesce_laws.proofs.committing.commits_can_not_fail.Goals as goal

pub returns-clause-allowed : goal.returns-clause-allowed
returns-clause-allowed c = λ es more_ left e new touched noted w links ports run drained k live is.
    allowed_at es new (λ n. IsTrue (touched n)) noted w links (fronts_are_runs es more_ run) k drained ports (λ p i. live_port (change_all (state_after es).config (steps_of w links)) p (live p (in_contains ports p i))) more_ left e run is

pub returns-clause-settled : goal.returns-clause-settled
returns-clause-settled c = λ es more_ left new touched noted w links n run drained k is touched_ live.
    settled_at es new (λ n. IsTrue (touched n)) noted w links (fronts_are_runs es more_ run) k drained more_ left n run is touched_ live

pub returns-clause-graph : goal.returns-clause-graph
returns-clause-graph c = λ es more_ done left new touched noted w links ports run k live is parts.
    graph_reopening es new (λ n. IsTrue (touched n)) noted w links run k ports (λ p i. live_port (change_all (state_after es).config (steps_of w links)) p (live p (in_contains ports p i))) more_ done left is parts
