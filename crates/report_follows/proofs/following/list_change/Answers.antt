use Rattle.std.proofs.Common.{◌≡◌, ◌<◌, All, sym, subst}
use Rattle.std.specs.Prelude.{IfOk}
use Rattle.change_plan.specs.declared.plan_data.Plan.{Plan}
use Rattle.change_plan.specs.declared.plan_data.Shift.{Shift}
use Rattle.change_lists.specs.Lists.{commit_by, places_after}
use Rattle.change_lists.proofs.PlanInLaws.{moves_in, plan_in}
use Rattle.report_follows.proofs.StandingLemmas.{plan_from}
use Rattle.report_follows.proofs.following.list_change.Goals as goal

pub of-requires : goal.of-requires
of-requires c =
    let w = c.requires.here in
    let old = c.args.old.now in
    let change = c.args.change.now in
    let is_plan = plan_from w.0 w.1 old c.args.layout.now change w.2 w.3 in
    let places = plan_in old change.graph change.moves change.plan w.3.is_graph w.2.is_graph is_plan in
    record {
      freeze = subst (λ n. All (λ i. i < n) change.plan.freeze) (sym c.node_count.ensures.count) places.freeze;
      remove = subst (λ n. All (λ i. i < n) change.plan.remove) (sym c.node_count.ensures.count) places.remove;
      moves = subst (λ n. All (λ (s : Shift). s.new < n) change.plan.moves) (sym c.node_count-2.ensures.count) (moves_in old change.graph change.moves change.plan is_plan);
    }

pub returns-clause-events : goal.returns-clause-events
returns-clause-events c =
    let old = c.args.old.now in
    let new = c.args.change.now.graph in
    let l = c.args.layout.now in
    subst (λ (p : Plan). IfOk c.list_by.result (λ x. x.commit.events.items ≡ commit_by old new p l.places.items l.ports.items)) c.in_ok-plan.ensures c.list_by.ensures.events

pub returns-clause-places : goal.returns-clause-places
returns-clause-places c =
    let old = c.args.old.now in
    let new = c.args.change.now.graph in
    let l = c.args.layout.now in
    subst (λ (p : Plan). IfOk c.list_by.result (λ x. x.commit.next.places.items ≡ places_after old new p l.places.items)) c.in_ok-plan.ensures c.list_by.ensures.places
