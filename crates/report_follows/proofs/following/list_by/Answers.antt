use Rattle.std.proofs.Common.{◌<◌, All, length, sym, ap, subst, arith}
use Rattle.change_spec.specs.Scene.{config_after}
use Rattle.change_plan.specs.declared.plan_data.Plan.{Plan}
use Rattle.change_lists.specs.Lists.{ports_after}
use Rattle.change_lists.proofs.PlanInLaws.{plan_in}
use Rattle.change_lists.proofs.RangeLaws.{places_below}
use Rattle.report_follows.proofs.StandingLemmas.{places_long, plan_from, ports_long}
use Rattle.report_follows.proofs.following.list_by.Goals as goal

pub list_commit-requires-clause-few : goal.list_commit-requires-clause-few
list_commit-requires-clause-few c =
    let w = c.requires.here in
    let long = places_long w.0 w.1 c.args.old.now c.args.layout.now c.args.change.now w.2 w.3 in
    let same = ap (λ (p : Plan). length p.create) w.4 in
    let fit = w.2.can_plan.room.nodes_fit in
    omega (arith, long, same, fit)

pub list_commit-requires-clause-few_ports : goal.list_commit-requires-clause-few_ports
list_commit-requires-clause-few_ports c =
    let w = c.requires.here in
    let l = c.args.layout.now in
    let long = ports_long w.0 w.1 c.args.old.now l c.args.change.now w.2 w.3 in
    let same = ap (λ (p : Plan). length (ports_after c.args.change.now.graph p l.places.items l.ports.items)) w.4 in
    let fit = w.2.can_plan.room.ports_fit in
    omega (arith, long, same, fit)

pub list_commit-requires-clause-within : goal.list_commit-requires-clause-within
list_commit-requires-clause-within c =
    let w = c.requires.here in
    let old = c.args.old.now in
    let change = c.args.change.now in
    subst (λ (p : Plan). All (λ j. j < length change.graph.nodes) p.create) (sym w.4)
    (plan_in old change.graph change.moves change.plan w.3.is_graph w.2.is_graph (plan_from w.0 w.1 old c.args.layout.now change w.2 w.3)).create

pub list_commit-requires-clause-places : goal.list_commit-requires-clause-places
list_commit-requires-clause-places c =
    let w = c.requires.here in
    places_below c.args.layout.now (config_after w.1) c.args.old.now w.3.layout_is
