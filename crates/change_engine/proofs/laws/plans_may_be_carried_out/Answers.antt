use Rattle.std.proofs.Common.{[], map}
use Rattle.std.proofs.lemmas.List.{append-nil}
use Rattle.quiesce_core.specs.declared.event.Event.TheVariants.{Reopen}
use Rattle.quiesce_core.specs.Runs.{state_after}
use Rattle.change_plan_laws.specs.Commit.{reopened_ports}
use Rattle.txn_records.specs.Records.{events}
use Rattle.change_engine.proofs.Planning.{all_change, may_all, may_commit, new_graph_there}
use Rattle.change_engine.proofs.laws.plans_may_be_carried_out.Goals as goal

pub returns-clause-may : goal.returns-clause-may
returns-clause-may c = λ old new moves plan r h x.
    let m = h.moments in
    may_all old new moves plan r m h.is_of x
    (c.commits_can_not_fail.ensures.by_the_configuration old new moves plan (events m) (may_commit old new moves plan r m h.is_of x))

pub returns-clause-graph : goal.returns-clause-graph
returns-clause-graph c = λ old new moves plan r h x.
    let m = h.moments in
    let may_ = may_commit old new moves plan r m h.is_of x in
    let all = all_change old new moves plan r m h.is_of x (c.commits_can_not_fail.ensures.by_the_configuration old new moves plan (events m) may_) in
    let ports = map Reopen (reopened_ports old new plan (state_after (events m)).config) in
    new_graph_there old new moves plan r m h.is_of x all
    (c.commits_leave_the_new_graph.ensures.reopening old new moves plan (events m) _ ports [] may_ all (append-nil ports))
