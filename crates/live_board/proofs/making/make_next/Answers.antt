use Rattle.std.proofs.Common.{◌≡◌, ◌∙◌, ◌++◌, ◌∷◌, [], Some, append_assoc, ap, arith, List, length, map, refl, subst, sym, ◌+◌}
use Rattle.std.specs.List.{AllByRecursion}
use Rattle.std.proofs.lemmas.List.{length-map}
use Rattle.atomic_table.specs.Seated.{TableId}
use Rattle.live_board.specs.Behind.{HasBehind}
use Rattle.live_board.specs.Making.{Made, SightsLine}
use Rattle.live_hall.specs.Sighting.{PastSeen, sight_of, views_of}
use Rattle.live_hall.proofs.PastLaws.{config_sights}
use Rattle.quiesce_core.specs.declared.event.Event.TheVariants.{Make}
use Rattle.quiesce_core.specs.declared.known.Known.{Known}
use Rattle.state_handover.specs.contracts.any_node.AnyNodeComponent.TheImpl.{ghosts}
use Rattle.txn_gate.specs.Calls.{made_node}
use Rattle.txn_gate.specs.Seats.{node_in, record_of, table_of_node}
use Rattle.txn_spec.specs.declared.view.ChangeView.{ChangeView}
use Rattle.txn_records.specs.Entries.{config_of}
use Rattle.txn_records.specs.declared.entry.Entry.{Entry}
use Rattle.txn_records.specs.declared.entry.Entry.TheVariants.{Did}
use Rattle.live_board.proofs.LineLaws.{line_behind}
use Rattle.live_board.proofs.MakeLemmas.{make_fits, make_limits, slot_below, source_behind, source_guest}
use Rattle.live_board.proofs.SightingLaws.{looked}
use Rattle.node_host.proofs.HostedLaws.{rests_told}
use Rattle.base.proofs.ListLaws.{rotated}
use Rattle.live_board.proofs.making.make_next.Goals as goal

pub handed-guest-requires-clause-rests : goal.handed-guest-requires-clause-rests
handed-guest-requires-clause-rests c =
    rw c.into_guest-old.ensures (
    let x = c.args.old.node in
    let f =
    source_guest (record_of c.args.seat.now) (record_of c.make_node-theirs.new.seat) c.args.node.now c.args.from (node_in x.seat) _ (ghosts.state x.inner) x.slot x.first_port c.requires.may
    (ap (λ (k : ChangeView). k.entries) c.make_node-theirs.ensures.made.change) c.args.old.at c.requires.fits.0 c.sight.ensures.sighted.made in
    ap (λ q. (ghosts.state q).service) c.sight.ensures.same.own.1
    ∙ rests_told x.slot x.first_port (ghosts.state x.inner) x.log.items _ x.known x.waiting _ x.hosted (ap (λ (w : Known). w.service) (sym x.seat.known_is) ∙ f.1))

pub handed-guest-requires-clause-fits : goal.handed-guest-requires-clause-fits
handed-guest-requires-clause-fits c =
    rw c.into_guest-old.ensures (
    let x = c.args.old.node in
    let f =
    source_guest (record_of c.args.seat.now) (record_of c.make_node-theirs.new.seat) c.args.node.now c.args.from (node_in x.seat) _ (ghosts.state x.inner) x.slot x.first_port c.requires.may
    (ap (λ (k : ChangeView). k.entries) c.make_node-theirs.ensures.made.change) c.args.old.at c.requires.fits.0 c.sight.ensures.sighted.made in
    make_fits (config_of (record_of c.args.seat.now)) c.args.node.now (Some c.args.from) c.requires.may _ (sym (ap (λ q. (ghosts.state q).kind) c.sight.ensures.same.own.1 ∙ f.0)))

pub handed-guest-requires-clause-limits : goal.handed-guest-requires-clause-limits
handed-guest-requires-clause-limits c =
    rw c.into_guest-old.ensures (
    let x = c.args.old.node in
    let f =
    source_guest (record_of c.args.seat.now) (record_of c.make_node-theirs.new.seat) c.args.node.now c.args.from (node_in x.seat) _ (ghosts.state x.inner) x.slot x.first_port c.requires.may
    (ap (λ (k : ChangeView). k.entries) c.make_node-theirs.ensures.made.change) c.args.old.at c.requires.fits.0 c.sight.ensures.sighted.made in
    make_limits (config_of (record_of c.args.seat.now)) c.args.node.now (Some c.args.from) c.requires.may _ c.made-made.result.nodes c.made-made.result.ports (sym (ap (λ q. (ghosts.state q).kind) c.sight.ensures.same.own.1 ∙ f.0))
    c.made-made.ensures.nodes c.made-made.ensures.ports)

pub handed-guest-requires-clause-room : goal.handed-guest-requires-clause-room
handed-guest-requires-clause-room c =
    let x = c.args.old.node in
    let r1 = record_of c.make_node-theirs.new.seat in
    let q = c.requires.room in
    let behind =
    line_behind (config_of r1) (ghosts.state x.inner).kind (λ p. node_in p.seat) (λ p. record { slot = p.slot; first = p.first_port; arg = p.arg }) (node_in x.seat)
    (record { slot = x.slot; first = x.first_port; arg = (ghosts.state x.inner).arg }) x.past.items c.args.old.line c.sight.ensures.sighted.made in
    let fewer =
    source_behind (record_of c.args.seat.now) r1 (record_of c.sight.new.seat) c.args.node.now c.args.from q.0 c.args.blank.room (length x.past.items) (views_of c.args.old) (ap (λ (k : ChangeView). k.entries) c.make_node-theirs.ensures.made.change)
    (ap (λ (k : ChangeView). k.entries) c.sight.ensures.sighted.change) c.sight.ensures.run q.3 q.2 q.1 (subst (λ i. HasBehind (config_of r1) i (length x.past.items)) c.requires.fits.0 behind) in
    let same = ap length c.sight.ensures.same.past in
    let one = length-map {B = PastSeen} c.sight.new.self.node.past.items (λ p. record { slot = p.slot; first = p.first_port; arg = p.arg; log = p.log.items; view = node_in p.seat; table = table_of_node p.seat }) in
    let two = length-map {B = PastSeen} x.past.items (λ p. record { slot = p.slot; first = p.first_port; arg = p.arg; log = p.log.items; view = node_in p.seat; table = table_of_node p.seat }) in
    let taken = ap (λ y. length y.node.past.items) c.into_guest-old.ensures in
    omega (arith, fewer, same, one, two, taken, c.args.blank.has_room)

pub handed-guest-requires-clause-seat : goal.handed-guest-requires-clause-seat
handed-guest-requires-clause-seat c =
    rw c.into_guest-old.ensures (
    let x = c.args.old.node in
    let f =
    source_guest (record_of c.args.seat.now) (record_of c.make_node-theirs.new.seat) c.args.node.now c.args.from (node_in x.seat) _ (ghosts.state x.inner) x.slot x.first_port c.requires.may
    (ap (λ (k : ChangeView). k.entries) c.make_node-theirs.ensures.made.change) c.args.old.at c.requires.fits.0 c.sight.ensures.sighted.made in
    let made = c.made-made.ensures in (
      c.args.node.now,
      c.make_node-theirs.ensures.node ∙ (λ i. made_node (sym made.nodes i) (sym made.ports i) c.args.node.now (Some (sym (c.sight.ensures.same.slot ∙ c.requires.fits.0) i))),
      sym (ap (λ q. (ghosts.state q).kind) c.sight.ensures.same.own.1 ∙ f.0),
      refl,
    ))

pub returns : goal.returns
returns c =
    let r = record_of c.args.seat.now in
    let at = λ (t : TableId). t ≡ c.args.gates.now.words.shared.table_id in
    let tables = subst (AllByRecursion at) (sym c.sight.ensures.same.tables) c.requires.fits.1 in
    let make = Did (Make (length (config_of r).slots) c.args.node.now (Some c.args.from)) in
    let x = c.args.old.node in
    let seen = ap (λ (k : ChangeView). k.entries) c.sight.ensures.sighted.change in
    let looked_at =
    looked (λ p. node_in p.seat) (λ p. record { slot = p.slot; first = p.first_port; arg = p.arg; log = p.log.items }) (ghosts.state x.inner).kind (λ p. p.told _ refl) (node_in x.seat)
    (record { slot = x.slot; first = x.first_port; arg = (ghosts.state x.inner).arg; log = x.log.items }) (x.hosted.tells _ refl) x.past.items (config_of (record_of c.make_node-theirs.new.seat)) c.args.old.line c.sight.ensures.sighted.made
    (λ line seats. c.seats_tell_of_their_line.ensures.made (config_of (record_of c.make_node-theirs.new.seat)) _ line seats) in
    record {
      made = subst (Made c.args.gates.now c.args.seat.now c.sight.new.seat c.args.node.now (Some c.args.from)) (sym c.take_in.ensures) (record {
        here = c.sight.ensures.sighted.here ∙ c.make_node-theirs.ensures.made.here;
        entries = record {
          sights = looked_at.0;
          adds = seen ∙ ap (λ (k : ChangeView). k.entries ++ map sight_of (views_of c.args.old)) c.make_node-theirs.ensures.made.change ∙ append_assoc r (make ∷ []) (map sight_of (views_of c.args.old))
              ∙ ap (λ (es : List Entry). r ++ make ∷ es) looked_at.2;
          of_source = subst (λ n. SightsLine (config_of (record_of c.sight.new.seat)) n looked_at.0) c.requires.fits.0
              (subst (λ d. SightsLine d x.slot looked_at.0) (sym (ap config_of seen ∙ config_sights (record_of c.make_node-theirs.new.seat) (views_of c.args.old))) looked_at.1);
        };
        nodes = c.sight.ensures.sighted.nodes ∙ c.make_node-theirs.ensures.made.nodes;
        spare = ap (λ k. k + 1) c.sight.ensures.sighted.spare ∙ c.make_node-theirs.ensures.made.spare;
        fits = (
          c.handed-guest.ensures.place.0 ∙ c.made-made.ensures.nodes,
          (
            ap table_of_node c.handed-guest.ensures.seat ∙ c.make_node-theirs.ensures.here ∙ c.requires.here,
            subst (AllByRecursion at) (sym (c.handed-guest.ensures.past ∙ ap (λ y. map (λ p. table_of_node p.seat) y.node.past.items ++ table_of_node y.node.seat ∷ []) c.into_guest-old.ensures)) (rotated at (table_of_node c.sight.new.self.node.seat) _ tables),
          ),
        );
        below = slot_below (config_of r) c.args.node.now (Some c.args.from) c.requires.may;
      });
    }
