use Rattle.txn_records.specs.declared.entry.Entry.TheVariants.{Did}
use Rattle.txn_spec.specs.Views.{change_of}
use Rattle.quiesce_core.specs.declared.event.Event.TheVariants.{Unlink}
use Rattle.txn_gate.proofs.Sizes.{unlinked_nodes, unlinked_ports, still_change, still_seats, still_tables, still_within}
use Rattle.txn_gate.proofs.gates.Gates.unlink.Goals as goal

pub invariant_of-seat : goal.invariant_of-seat
invariant_of-seat c =
    let s = c.args.seat.now in
    let new = c.unlink.new.seat.me in
    let is = c.unlink.ensures.me in
    let r = (change_of s.seat.me.0).entries in
    let x = Did (Unlink c.args.port) in
    record {
      is_change = still_change s.seat.me new x is;
      tables_are = still_tables s.seat.me new x is c.unlink-was.new.self (c.unlink-was.ensures.tables r s.tables_are);
      seats_are = still_seats s.seat.me new x is (unlinked_nodes r c.args.port) s.seats_are;
      ports_within = still_within s.seat.me new x is (unlinked_ports r c.args.port) s.ports_within;
    }
