use Rattle.std.proofs.Common.{rules, ◌∙◌, ◌+◌, ◌≤◌, ap, sym, refl, subst, map, length, nat_lt, vec_capacity, Some, None}
use Rattle.std.proofs.lemmas.List.{length-set}
use Rattle.std.proofs.lemmas.Result.{on_err_weaker, on_ok_weaker}
use Rattle.port_queue.specs.Inboxes.{no_counts}
use Rattle.port_queue.specs.Plain.{box_of}
use Rattle.step_board.specs.Seen.{seen}
use Rattle.step_board.specs.declared.held.Held.TheVariants as held
use Rattle.step_board.proofs.HostLemmas.{past_rooms_kept}
use Rattle.step_board.proofs.NodeTableLemmas.{at_slot, live_not_gone, seat_fits, seat_node, within_live}
use Rattle.step_board.proofs.TurnTable.{shows_err, shows_ok}
use Rattle.node_host.proofs.HostedLaws.{rests_told}
use Rattle.step_board.proofs.table.NodeTable.turn.Goals as goal

pub index_mut-requires : goal.index_mut-requires
index_mut-requires c = let low = within_live _ _ _ _ _ c.args.slot c.requires.live c.requires.some in search (rules, low)

pub turn-requires-clause-fits : goal.turn-requires-clause-fits
turn-requires-clause-fits c =
    seat_fits _ _ _ _ _ c.args.slot c.requires.live c.requires.some c.index_mut.result.now _
    (at_slot c.args.self.now.nodes.items c.args.slot c.index_mut.result.now c.index_mut.result.now (within_live _ _ _ _ _ _ c.requires.live c.requires.some) c.index_mut.ensures.value refl)
    (ap (seen _) c.in-Node.is) c.in-Node.node.seat.slot c.in-Node.node.hosted.of_slot

pub turn-requires-clause-node : goal.turn-requires-clause-node
turn-requires-clause-node c =
    seat_node _ _ _ _ _ c.args.slot c.requires.some c.index_mut.result.now _
    (at_slot c.args.self.now.nodes.items c.args.slot c.index_mut.result.now c.index_mut.result.now (within_live _ _ _ _ _ _ c.requires.live c.requires.some) c.index_mut.ensures.value refl)
    (ap (seen _) c.in-Node.is) c.in-Node.node.seat.slot c.in-Node.node.hosted.of_slot

pub invariant_of-self : goal.invariant_of-self
invariant_of-self c = record {
  node_room = subst (λ k. k + c.args.self.now.spare ≤ vec_capacity c.args.self.now.nodes) (sym (length-set c.args.self.now.nodes.items c.args.slot (held.Node c.turn.new.self))) c.args.self.now.node_room;
  end_room = c.args.self.now.end_room;
  sources_made = subst (λ k. c.args.self.now.sources ≤ k) (sym (length-set c.args.self.now.nodes.items c.args.slot (held.Node c.turn.new.self))) c.args.self.now.sources_made;
  past_room =
      past_rooms_kept c.args.self.now.nodes.items c.args.self.now.sources c.args.slot (held.Node c.in-Node.node) (held.Node c.turn.new.self) c.args.self.now.past_room
      (at_slot c.args.self.now.nodes.items c.args.slot c.index_mut.result.now (held.Node c.in-Node.node) (within_live _ _ _ _ _ _ c.requires.live c.requires.some) c.index_mut.ensures.value c.in-Node.is)
      (ap (λ p. nat_lt (length p.items) (vec_capacity p)) c.turn.ensures.acts.past);
}

pub unreachable-requires : goal.unreachable-requires
unreachable-requires c =
    live_not_gone _ _ _ _ _ c.args.slot c.requires.live c.requires.some c.index_mut.result.now c.in-Handed.field-0
    (at_slot c.args.self.now.nodes.items c.args.slot c.index_mut.result.now c.index_mut.result.now (within_live _ _ _ _ _ _ c.requires.live c.requires.some) c.index_mut.ensures.value refl)
    (ap (seen _) c.in-Handed.is)

pub returns-clause-shows : goal.returns-clause-shows
returns-clause-shows c =
    on_ok_weaker c.turn.result (λ p. λ w h. (p w h).0)
    (shows_ok _ _ _ c.args.self.now.nodes.items _ _ _ c.args.slot c.args.begins (held.Node c.in-Node.node) (held.Node c.turn.new.self) _ _
    (at_slot c.args.self.now.nodes.items c.args.slot c.index_mut.result.now (held.Node c.in-Node.node) (within_live _ _ _ _ _ _ c.requires.live c.requires.some) c.index_mut.ensures.value c.in-Node.is)
    refl refl c.requires.live _ _ _ _ c.turn.result _ _ refl refl c.turn.ensures.acts.moved c.turn.ensures.acts.place.0 c.turn.ensures.acts.place.1
    (ap (λ p. map (λ q. record { slot = q.slot; first = q.first_port; arg = q.arg; log = q.log.items }) p.items) c.turn.ensures.acts.past)
    c.turn.new.self.seat.slot (c.turn.new.self.hosted.of_slot ∙ c.turn.ensures.acts.place.0) c.turn.ensures.acts.fits (rests_told _ _ _ _ _ _ _ _ c.turn.new.self.hosted) c.turn.ensures.exact c.turn.ensures.hints)

pub returns-clause-event : goal.returns-clause-event
returns-clause-event c =
    on_ok_weaker c.turn.result (λ p. λ w h. (p w h).1)
    (shows_ok _ _ _ c.args.self.now.nodes.items _ _ _ c.args.slot c.args.begins (held.Node c.in-Node.node) (held.Node c.turn.new.self) _ _
    (at_slot c.args.self.now.nodes.items c.args.slot c.index_mut.result.now (held.Node c.in-Node.node) (within_live _ _ _ _ _ _ c.requires.live c.requires.some) c.index_mut.ensures.value c.in-Node.is)
    refl refl c.requires.live _ _ _ _ c.turn.result _ _ refl refl c.turn.ensures.acts.moved c.turn.ensures.acts.place.0 c.turn.ensures.acts.place.1
    (ap (λ p. map (λ q. record { slot = q.slot; first = q.first_port; arg = q.arg; log = q.log.items }) p.items) c.turn.ensures.acts.past)
    c.turn.new.self.seat.slot (c.turn.new.self.hosted.of_slot ∙ c.turn.ensures.acts.place.0) c.turn.ensures.acts.fits (rests_told _ _ _ _ _ _ _ _ c.turn.new.self.hosted) c.turn.ensures.exact c.turn.ensures.hints)

pub returns-clause-memory : goal.returns-clause-memory
returns-clause-memory c =
    shows_err _ _ _ c.args.self.now.nodes.items _ _ _ c.args.slot c.args.begins (held.Node c.in-Node.node) (held.Node c.turn.new.self) _ _
    (at_slot c.args.self.now.nodes.items c.args.slot c.index_mut.result.now (held.Node c.in-Node.node) (within_live _ _ _ _ _ _ c.requires.live c.requires.some) c.index_mut.ensures.value c.in-Node.is)
    refl refl c.requires.live (λ k. no_counts) (λ k. no_counts) None None c.turn.result _ _ refl refl c.turn.ensures.acts.moved c.turn.ensures.acts.place.0 c.turn.ensures.acts.place.1
    (ap (λ p. map (λ q. record { slot = q.slot; first = q.first_port; arg = q.arg; log = q.log.items }) p.items) c.turn.ensures.acts.past)
    (on_err_weaker c.turn.result (λ k. (k.0, ap (λ s. s.known) k.1, ap (λ g. g.core.state) k.2, ap (λ h. λ n. Some (box_of h.inboxes.items n).held) k.3)) c.turn.ensures.memory)
