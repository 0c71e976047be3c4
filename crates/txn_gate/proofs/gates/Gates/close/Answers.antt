use Rattle.txn_records.specs.declared.entry.Entry.TheVariants.{Did}
use Rattle.txn_spec.specs.Views.{change_of}
use Rattle.quiesce_core.specs.declared.event.Event.TheVariants.{Close}
use Rattle.txn_gate.proofs.Sizes.{closed_nodes, closed_ports, still_change, still_seats, still_tables, still_within}
use Rattle.txn_gate.proofs.gates.Gates.close.Goals as goal

pub invariant_of-seat : goal.invariant_of-seat
invariant_of-seat c =
    let s = c.args.seat.now in
    let new = c.close-2.new.seat.me in
    let is = c.close-2.ensures.me in
    let r = (change_of s.seat.me.0).entries in
    let x = Did (Close c.args.port) in
    record {
      is_change = still_change s.seat.me new x is;
      tables_are = still_tables s.seat.me new x is c.close.new.self (c.close.ensures r s.tables_are);
      seats_are = still_seats s.seat.me new x is (closed_nodes r c.args.port) s.seats_are;
      ports_within = still_within s.seat.me new x is (closed_ports r c.args.port) s.ports_within;
    }
