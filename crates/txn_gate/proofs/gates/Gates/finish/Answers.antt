use Rattle.txn_records.specs.declared.entry.Entry.TheVariants.{Looked}
use Rattle.txn_spec.specs.Views.{change_of}
use Rattle.txn_gate.proofs.Sizes.{looked_nodes, looked_ports, still_change, still_seats, still_tables, still_within}
use Rattle.txn_gate.proofs.gates.Gates.finish.Goals as goal

pub invariant_of-seat : goal.invariant_of-seat
invariant_of-seat c =
    let s = c.args.seat.now in
    let new = c.merge-word.new.seat.me in
    let is = c.merge-word.ensures.did.me in
    let r = (change_of s.seat.me.0).entries in
    let x = Looked 0 c.merge-word.result in
    record {
      is_change = still_change s.seat.me new x is;
      tables_are = still_tables s.seat.me new x is c.look.new.self (c.look.ensures r s.tables_are);
      seats_are = still_seats s.seat.me new x is (looked_nodes r 0 c.merge-word.result) s.seats_are;
      ports_within = still_within s.seat.me new x is (looked_ports r 0 c.merge-word.result) s.ports_within;
    }
