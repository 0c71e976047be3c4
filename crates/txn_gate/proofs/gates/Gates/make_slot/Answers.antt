use Rattle.std.proofs.Common.{◌∙◌, length, refl, sym}
use Rattle.txn_records.specs.Entries.{config_of}
use Rattle.txn_spec.specs.Views.{change_of}
use Rattle.txn_gate.proofs.NextTables.{room_of}
use Rattle.txn_gate.proofs.Sizes.{given_change, given_node, given_seats, given_tables, given_within, may_give}
use Rattle.txn_gate.proofs.gates.Gates.make_slot.Goals as goal

pub new_seat-new-requires-clause-made : goal.new_seat-new-requires-clause-made
new_seat-new-requires-clause-made g c =
    let s = c.args.seat.now in
    let ports = length (config_of (change_of s.seat.me.0).entries).gates in
    may_give s.seat.me c.make-2.new.seat.me c.args.slot ports c.args.node.now c.args.from _ c.requires.event c.make-2.ensures.me (s.seats_are ∙ sym c.requires.slot) (sym c.requires.slot) refl

pub invariant_of-seat : goal.invariant_of-seat
invariant_of-seat g c =
    let s = c.args.seat.now in
    let r = (change_of s.seat.me.0).entries in
    let ports = length (config_of r).gates in
    let seats = s.seats_are ∙ sym c.requires.slot in
    let m1 = c.make-2.new.seat.me in
    let m2 = c.new_seat-new.new.seat.me in
    let room = room_of (config_of r) c.args.slot c.args.node.now c.args.from c.requires.may in
    record {
      is_change = given_change s.seat.me m1 c.args.slot ports c.args.node.now c.args.from _ c.requires.event c.make-2.ensures.me seats (sym c.requires.slot) refl m2 c.new_seat-new.ensures.me;
      tables_are = given_tables s.seat.me m1 c.args.slot ports c.args.node.now c.args.from _ c.requires.event c.make-2.ensures.me seats (sym c.requires.slot) refl m2 c.new_seat-new.ensures.me
          c.make.new.self (c.make.ensures r c.args.slot s.tables_are);
      seats_are = given_seats s.seat.me m1 c.args.slot ports c.args.node.now c.args.from _ c.requires.event c.make-2.ensures.me seats (sym c.requires.slot) refl m2 c.new_seat-new.ensures.me;
      ports_within = given_within s.seat.me m1 c.args.slot ports c.args.node.now c.args.from _ c.requires.event c.make-2.ensures.me seats (sym c.requires.slot) refl m2 c.new_seat-new.ensures.me room.ports;
    }

pub returns-clause-node : goal.returns-clause-node
returns-clause-node g c =
    let s = c.args.seat.now in
    let ports = length (config_of (change_of s.seat.me.0).entries).gates in
    given_node s.seat.me c.make-2.new.seat.me c.args.slot ports c.args.node.now c.args.from _ c.requires.event c.make-2.ensures.me (s.seats_are ∙ sym c.requires.slot) (sym c.requires.slot) refl
    c.new_seat-new.result.me c.new_seat-new.ensures.node
