use Rattle.std.proofs.Common.{◌∙◌, ◌≤◌, ◌++◌, ◌∷◌, [], Some, ap, length, map, refl, set, subst, sym}
use Rattle.std.proofs.lemmas.List.{length-map}
use Rattle.node_gate.specs.Seats.{IsWithinLimits}
use Rattle.port_queue.specs.Plain.{box_of}
use Rattle.quiesce_core.specs.Runs.{Step}
use Rattle.quiesce_core.specs.declared.event.Event.TheVariants.{Make}
use Rattle.state_handover.specs.contracts.any_node.AnyNodeComponent.TheImpl.{ghosts}
use Rattle.step_board.specs.Entries.{Predecessor}
use Rattle.step_board.specs.declared.held.Held.TheVariants as held
use Rattle.step_board.proofs.MakeTable.{allowed_here, first_mapped, make_fits, make_limits, shown_from, source_is_node, source_kind, source_line, source_place, source_rests}
use Rattle.step_board.proofs.table.NodeTable.make_from.Goals as goal

pub take_out-old-requires-clause-node : goal.take_out-old-requires-clause-node
take_out-old-requires-clause-node c =
    let a = c.requires.allowed in
    source_is_node ghosts.state _ _ _ _ a.0 a.1 _ c.args.node c.args.source (allowed_here _ _ c.args.node (Some c.args.source) a.1.machine a.2)

pub host_from-host-requires-clause-rests : goal.host_from-host-requires-clause-rests
host_from-host-requires-clause-rests c =
    let a = c.requires.allowed in
    source_rests ghosts.state _ _ _ _ a.0 a.1 _ c.args.node c.args.source (allowed_here _ _ c.args.node (Some c.args.source) a.1.machine a.2) (held.Node c.take_out-old.result) _ c.take_out-old.ensures.was refl

pub host_from-host-requires-clause-fits : goal.host_from-host-requires-clause-fits
host_from-host-requires-clause-fits c =
    let a = c.requires.allowed in
    let may = allowed_here _ _ c.args.node (Some c.args.source) a.1.machine a.2 in
    make_fits c.args.self.now.gate.core.state (length c.args.self.now.gate.core.state.config.slots) c.args.node (Some c.args.source) _ (sym (source_kind ghosts.state _ _ _ _ a.0 a.1 _ c.args.node c.args.source may (held.Node c.take_out-old.result) _ c.take_out-old.ensures.was refl)) may

pub host_from-host-requires-clause-limits : goal.host_from-host-requires-clause-limits
host_from-host-requires-clause-limits c =
    let a = c.requires.allowed in
    let may = allowed_here _ _ c.args.node (Some c.args.source) a.1.machine a.2 in
    let kind = source_kind ghosts.state _ _ _ _ a.0 a.1 _ c.args.node c.args.source may (held.Node c.take_out-old.result) _ c.take_out-old.ensures.was refl in
    subst (λ i. IsWithinLimits (record { slot = i; kind = (ghosts.state c.take_out-old.result.inner).kind; first = c.made-made.result.ports })) (sym c.made-made.ensures.nodes)
    (subst (λ f. IsWithinLimits (record { slot = length c.args.self.now.gate.core.state.config.slots; kind = (ghosts.state c.take_out-old.result.inner).kind; first = f })) (sym c.made-made.ensures.ports)
    (make_limits c.args.self.now.gate.core.state c.args.node (Some c.args.source) _ (sym kind) may))

pub add-requires-clause-line : goal.add-requires-clause-line
add-requires-clause-line c =
    let a = c.requires.allowed in
    let may = allowed_here _ _ c.args.node (Some c.args.source) a.1.machine a.2 in
    let low = source_line ghosts.state _ _ _ _ a.0 a.1 _ c.args.node c.args.source may (held.Node c.take_out-old.result) _ c.take_out-old.ensures.was refl in
    let same = first_mapped (λ p. record { slot = p.slot; first = p.first_port; arg = p.arg; log = p.log.items }) (λ p. p.slot) c.take_out-old.result.past.items c.take_out-old.result.slot (λ p. refl) in
    subst (λ e. c.first_of_line-line.result ≤ length e.items) (sym c.take_out-old.ensures.others.2)
    (subst (λ k. k ≤ length c.args.self.now.line_ends.items) (sym c.first_of_line-line.ensures) (subst (λ k. k ≤ length c.args.self.now.line_ends.items) same low))

pub returns-clause-shows : goal.returns-clause-shows
returns-clause-shows c = λ w h.
    let a = c.requires.allowed in
    let may = allowed_here _ _ c.args.node (Some c.args.source) a.1.machine a.2 in
    let was = c.take_out-old.ensures in
    let host = c.host_from-host.ensures in
    let kind = source_kind ghosts.state _ _ _ _ a.0 a.1 _ c.args.node c.args.source may (held.Node c.take_out-old.result) _ was.was refl in
    let place = source_place ghosts.state _ _ _ _ a.0 a.1 _ c.args.node c.args.source may (held.Node c.take_out-old.result) _ was.was refl in
    let same = first_mapped (λ p. record { slot = p.slot; first = p.first_port; arg = p.arg; log = p.log.items }) (λ p. p.slot) c.take_out-old.result.past.items c.take_out-old.result.slot (λ p. refl) in
    shown_from ghosts.state c.args.self.now.gate.core.state c.make.new.self.state c.args.self.now.nodes.items c.add.new.self.nodes.items c.args.self.now.line_ends.items c.add.new.self.line_ends.items _ _ w c.args.node h
    (held.Node c.host_from-host.result) _ refl
    (record {
      place = host.place.0 ∙ c.made-made.ensures.nodes;
      first = host.place.1 ∙ c.made-made.ensures.ports;
      kind = ap (λ t. t.kind) host.state ∙ kind;
      arg = ap (λ t. t.arg) host.state;
      rests = ap (λ t. t.service) host.state;
      known = host.known;
      log = host.log;
    }) host.waiting _ (ap (λ g. g.core.state) c.add.ensures.others.0) (ap (λ b. λ n. Some (box_of b.inboxes.items n).held) (c.add.ensures.others.1 ∙ was.others.1)) c.host_from-host.result.slot c.first_of_line-line.result
    (host.place.0 ∙ c.made-made.ensures.nodes)
    c.args.source (held.Node c.take_out-old.result) _ _
    (subst (λ g. Step g.core.state (Make (length g.core.state.config.slots) c.args.node (Some c.args.source)) c.make.new.self.state) was.others.0 c.make.ensures.step)
    was.was refl
    (host.past ∙ ap (λ i. map {B = Predecessor} (λ p. record { slot = p.slot; first = p.first_port; arg = p.arg; log = p.log.items }) c.take_out-old.result.past.items ++ record { slot = i; first = c.take_out-old.result.first_port; arg = (ghosts.state c.take_out-old.result.inner).arg; log = c.take_out-old.result.log.items } ∷ []) place)
    host.state kind (sym same) (sym (length-map c.take_out-old.result.past.items (λ p. record { slot = p.slot; first = p.first_port; arg = p.arg; log = p.log.items })))
    (c.first_of_line-line.ensures ∙ sym same) (c.add.ensures.nodes ∙ ap (λ l. l ++ held.Node c.host_from-host.result ∷ []) was.nodes)
    (c.add.ensures.ends ∙ ap (λ e. set (e.items ++ c.host_from-host.result.slot ∷ []) c.first_of_line-line.result c.host_from-host.result.slot) was.others.2)
