use Rattle.std.proofs.Common.{◌∙◌, ◌++◌, ◌∷◌, [], append_assoc, map, sym, ap}
use Rattle.change_spec.specs.Follows.{start_lines}
use Rattle.quiesce_core.specs.Runs.{state_after}
use Rattle.quiesce_laws.specs.Starts.{start_of}
use Rattle.report_types.specs.declared.report.HistoryLine.TheVariants as to
use Rattle.change_apply.proofs.BeginLemmas.{graph_there, layout_there}
use Rattle.change_apply.proofs.session.tell_opening.Goals as goal

pub returns-clause-lines : goal.returns-clause-lines
returns-clause-lines c =
    let r = c.args.request.now in
    let g = r.from.graph in
    let x = c.in_ok-ground.ground in
    let can = c.requires in
    let ground = c.in_ok-ground.ensures in
    let reached = c.started_systems_are_reached.ensures g can.old_sound can.few_nodes can.few_ports in
    let graph = c.a_started_system_has_its_graph.ensures g can.old_sound can.few_nodes can.few_ports in
    let laid = c.layouts_tell_commits.ensures.started g x.layout can.old_graph ground.places ground.ports in
    let closing = c.layouts_tell_commits.ensures.closed g r.to.graph [] r.plan (state_after (start_of g)).config x.layout can.old_graph can.new_graph can.is_plan
    (graph_there r x reached.1 can ground graph laid) (layout_there r x reached.1 can ground graph laid) in
    let told = c.args.told.now.items in
    let first = start_lines r.from.name r.from.args g in
    c.in_ok-push_change.ensures
    ∙ ap (λ l. l ++ (to.Change r.to.name r.to.args ∷ map to.Close c.deref.result.now)) c.in_ok-push_start.ensures
    ∙ append_assoc told first (to.Change r.to.name r.to.args ∷ map to.Close c.deref.result.now)
    ∙ ap (λ ps. told ++ (first ++ (to.Change r.to.name r.to.args ∷ map to.Close ps))) (c.deref.ensures.value ∙ ground.closed ∙ sym closing)
