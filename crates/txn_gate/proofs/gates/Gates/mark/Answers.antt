use Rattle.std.proofs.Common.{length, ap}
use Rattle.txn_spec.specs.Views.{change_of}
use Rattle.txn_gate.proofs.Marked.{marked_config, marked_tables}
use Rattle.txn_gate.proofs.Sizes.{still_change, still_seats, still_tables, still_within}
use Rattle.txn_gate.proofs.gates.Gates.mark.Goals as goal

pub invariant_of-seat : goal.invariant_of-seat
invariant_of-seat c =
    let s = c.args.seat.now in
    let new = c.mark.new.seat.me in
    let is = c.mark.ensures.did.me in
    let r = (change_of s.seat.me.0).entries in
    record {
      is_change = still_change s.seat.me new _ is;
      tables_are = still_tables s.seat.me new _ is s.tables (marked_tables s.tables r _ _ s.tables_are);
      seats_are = still_seats s.seat.me new _ is (ap (λ k. length k.slots) (marked_config r _ _)) s.seats_are;
      ports_within = still_within s.seat.me new _ is (ap (λ k. length k.gates) (marked_config r _ _)) s.ports_within;
    }
