use Rattle.std.proofs.Common.{[]}
use Rattle.quiesce_core.specs.Runs.{state_after}
use Rattle.quiesce_laws.specs.Starts.{start_of}
use Rattle.change_apply.proofs.BeginLemmas.{graph_there, layout_there, stands_first}
use Rattle.change_apply.proofs.session.Session.begin.Goals as goal

pub returns-clause-stands : goal.returns-clause-stands
returns-clause-stands c =
    let r = c.args.request in
    let g = r.from.graph in
    let x = c.in_ok-ground.ground in
    let can = c.requires in
    let ground = c.in_ok-ground.ensures.ground in
    let reached = c.started_systems_are_reached.ensures g can.old_sound can.few_nodes can.few_ports in
    let graph = c.a_started_system_has_its_graph.ensures g can.old_sound can.few_nodes can.few_ports in
    let laid = c.layouts_tell_commits.ensures.started g x.layout can.old_graph ground.places ground.ports in
    stands_first r x reached.1 can ground graph laid reached.0
    (c.layouts_tell_commits.ensures.closed g r.to.graph [] r.plan (state_after (start_of g)).config x.layout can.old_graph can.new_graph can.is_plan
    (graph_there r x reached.1 can ground graph laid) (layout_there r x reached.1 can ground graph laid))
