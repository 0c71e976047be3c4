use Rattle.std.proofs.Common.{◌∙◌, ◌+◌, ◌&&◌, ap, length, refl, subst, sym}
use Rattle.quiesce_core.specs.State.{Configuration, is_live}
use Rattle.state_handover.specs.contracts.any_node.AnyNodeComponent.TheImpl.{ghosts}
use Rattle.txn_gate.specs.Seats.{collected_in, record_of, table_of_change}
use Rattle.txn_gate.specs.declared.change_seat.ChangeSeat.{ChangeSeat}
use Rattle.txn_records.specs.Entries.{config_of}
use Rattle.txn_records.specs.Records.{IsRecord}
use Rattle.live_board.specs.Seeing.{SeesNode}
use Rattle.live_board.proofs.QuietLaws.{config_then}
use Rattle.live_board.proofs.SeenLaws.{saw_as, saw_none, saw_nothing, saw_one}
use Rattle.live_board.proofs.seeing.see_nodes.Goals as goal
use Rattle.live_board.proofs.seeing.see_nodes.Goals.{then-is_live, else-is_live}

pub loop-slot-init : goal.loop-slot-init
loop-slot-init g c = record {
  here = refl;
  known = c.requires.known;
  nodes = refl;
  spare = refl;
  count = refl;
  seen = saw_nothing ghosts.state g.J.Named.gates (config_of (record_of c.args.seat.now)) (record_of c.args.seat.now) c.args.lengths.now.items c.args.door.now c.requires.fresh;
}

pub loop-slot-preserved : goal.loop-slot-preserved
loop-slot-preserved g c =
    let i = c.loop-slot.invariant in
    let r = record_of c.args.seat.now in
    let n = c.loop-slot.slot in
    let gates = g.J.Named.gates in
    let config = config_then r (record_of c.loop-slot.seat) i.seen.sights i.seen.adds in
    elim c.if-is_live.branch [
      | then-is_live w ↦
          let e = w.see_node-seen.ensures in
          let live = ap (λ (d : Configuration). is_live d n) (sym config) ∙ sym c.is_live.ensures ∙ w.if-is_live.true in
          record {
            here = ap table_of_change w.seat-is ∙ e.seat.here ∙ i.here;
            known = subst (λ (s : ChangeSeat). IsRecord (record_of s)) (sym w.seat-is) e.seat.known;
            nodes = ap collected_in w.seat-is ∙ e.seat.nodes ∙ i.nodes;
            spare = ap (λ (s : ChangeSeat). s.spare) w.seat-is ∙ e.seat.spare ∙ i.spare;
            count = ap (λ v. length v.items) w.lengths-is ∙ e.count ∙ i.count;
            seen = saw_as ghosts.state gates (config_of r) r (record_of w.see_node-seen.new.seat) (record_of c.if-is_live.seat) w.see_node-seen.new.lengths.items c.if-is_live.lengths.items c.args.door.now w.see_node-seen.new.door c.if-is_live.door (n + 1) (c.loop-slot.done && w.see_node-seen.result) c.if-is_live.done
                (ap record_of w.seat-is) (ap (λ v. v.items) w.lengths-is) w.door-is w.done-is
                (saw_one ghosts.state gates (config_of r) r (record_of c.loop-slot.seat) (record_of w.see_node-seen.new.seat) c.loop-slot.lengths.items w.see_node-seen.new.lengths.items c.args.door.now c.loop-slot.door w.see_node-seen.new.door n c.loop-slot.done i.seen
                (λ k j past other last final m. c.lines_share_no_node.ensures.apart r k j past other last final m c.requires.known)
                (λ k past last m. c.live_nodes_end_their_lines.ensures.ends r k past last m c.requires.known) live w.see_node-seen.result
                (subst (λ d. SeesNode d (record_of c.loop-slot.seat) (record_of w.see_node-seen.new.seat) c.loop-slot.lengths.items w.see_node-seen.new.lengths.items n w.see_node-seen.result) config e.seen) e.looked);
          }
      | else-is_live w ↦
          let gone = ap (λ (d : Configuration). is_live d n) (sym config) ∙ sym c.is_live.ensures ∙ w.if-is_live.false in
          record {
            here = ap table_of_change w.seat-is ∙ i.here;
            known = subst (λ (s : ChangeSeat). IsRecord (record_of s)) (sym w.seat-is) i.known;
            nodes = ap collected_in w.seat-is ∙ i.nodes;
            spare = ap (λ (s : ChangeSeat). s.spare) w.seat-is ∙ i.spare;
            count = ap (λ v. length v.items) w.lengths-is ∙ i.count;
            seen = saw_as ghosts.state gates (config_of r) r (record_of c.loop-slot.seat) (record_of c.if-is_live.seat) c.loop-slot.lengths.items c.if-is_live.lengths.items c.args.door.now c.loop-slot.door c.if-is_live.door (n + 1) c.loop-slot.done c.if-is_live.done
                (ap record_of w.seat-is) (ap (λ v. v.items) w.lengths-is) w.door-is w.done-is
                (saw_none ghosts.state gates (config_of r) r (record_of c.loop-slot.seat) (record_of c.loop-slot.seat) c.loop-slot.lengths.items c.loop-slot.lengths.items c.args.door.now c.loop-slot.door c.loop-slot.door n c.loop-slot.done i.seen gone);
          }
    ]
