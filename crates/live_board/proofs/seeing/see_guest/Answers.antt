use Rattle.std.proofs.Common.{◌∙◌, ◌++◌, List, ap, refl, subst, sym}
use Rattle.change_board.specs.Sights.{Sight}
use Rattle.component_trait.specs.Moves.{is_done}
use Rattle.live_board.specs.Lengths.{AreLengths}
use Rattle.live_board.specs.Seeing.{sights_of}
use Rattle.state_handover.specs.contracts.any_node.AnyNodeComponent.TheImpl.{ghosts}
use Rattle.txn_gate.specs.Seats.{node_in, record_of}
use Rattle.txn_spec.specs.declared.view.ChangeView.{ChangeView}
use Rattle.txn_records.specs.Entries.{config_of}
use Rattle.live_board.proofs.SightingLaws.{saw}
use Rattle.live_board.proofs.seeing.see_guest.Goals as goal

pub returns-then-done-clause-seen : goal.returns-then-done-clause-seen
returns-then-done-clause-seen c =
    let g = c.args.guest.now in
    let x = g.node in
    saw (λ p. node_in p.seat) (λ p. record { slot = p.slot; first = p.first_port; arg = p.arg; log = p.log.items }) (λ p. p.told _ refl) x.past.items (node_in x.seat) _ _
    (config_of (record_of c.args.seat.now)) (record_of c.args.seat.now) (record_of c.sight.new.seat) c.args.lengths.now.items c.note_line.new.lengths.items c.done-done.result
    c.if-done.true (x.hosted.tells _ refl) g.line x.hosted.folds c.sight.ensures.sighted.made (sym (c.done-done.ensures ∙ ap (λ y. is_done (ghosts.state y.node.inner)) c.guest-shown.ensures) ∙ c.if-done.true)
    (λ line seats. c.seats_tell_of_their_line.ensures.made (config_of (record_of c.args.seat.now)) _ line seats)
    (λ past. c.done_nodes_are_seen_as_done.ensures.done (record_of c.args.seat.now) _ past _ _ c.requires.known)
    (ap (λ (k : ChangeView). k.entries) c.sight.ensures.sighted.change)
    (subst (λ y. (before : List Sight) → AreLengths before c.args.lengths.now.items → AreLengths (before ++ sights_of y) c.note_line.new.lengths.items) c.guest-shown.ensures c.note_line.ensures.lengths)
