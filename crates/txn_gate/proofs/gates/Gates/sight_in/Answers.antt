use Rattle.std.proofs.Common.{subst, ◌∙◌, ◌∷◌, length, refl, sym, ap}
use Rattle.txn_spec.specs.Merging.{IsOfRecord}
use Rattle.txn_spec.specs.Steps.{Seat}
use Rattle.txn_records.specs.declared.entry.Entry.TheVariants.{Sighted}
use Rattle.txn_spec.specs.Views.{change_of, node_of}
use Rattle.txn_gate.proofs.NextTables.{seen_tables}
use Rattle.txn_gate.proofs.Sighted.{config_seen, holds_sight, learned, sighted, sighted_run}
use Rattle.txn_gate.proofs.Sizes.{still_change, still_seats, still_tables, still_within}
use Rattle.txn_gate.proofs.gates.Gates.sight_in.Goals as goal

pub meet-requires-clause-some : goal.meet-requires-clause-some
meet-requires-clause-some c = (_, holds_sight c.args.seat.now.seat.me c.leave-theirs.result.me c.sight.new.seat.me c.sight.ensures.me)

pub give_out-requires-clause-some : goal.give_out-requires-clause-some
give_out-requires-clause-some c = (_, ap (λ m. m.0.nodes) c.meet.ensures.did.me ∙ holds_sight c.args.seat.now.seat.me c.leave-theirs.result.me c.sight.new.seat.me c.sight.ensures.me ∙ ap (λ m. node_of m.0 ∷ c.args.seat.now.seat.me.0.nodes) (sym c.meet.ensures.did.me))

pub invariant_of-seat : goal.invariant_of-seat
invariant_of-seat c =
    let me = c.args.seat.now.seat.me in
    let n = node_of c.leave-theirs.result.me.0 in
    let x = Sighted n.slot n.log in
    let new = c.give_out.new.seat.me in
    let is = sighted me c.leave-theirs.result.me c.sight.new.seat.me c.sight.ensures.me c.meet.new.seat.me new c.meet.ensures.did.me c.give_out.ensures.me in
    let same = config_seen (change_of me.0).entries x refl in
    let s = c.args.seat.now in
    record {
      is_change = still_change me new x is;
      tables_are = still_tables me new x is s.tables (seen_tables s.tables (change_of me.0).entries n.slot n.log s.tables_are);
      seats_are = still_seats me new x is (ap (λ k. length k.slots) same) s.seats_are;
      ports_within = still_within me new x is (ap (λ k. length k.gates) same) s.ports_within;
    }

pub returns-clause-learned : goal.returns-clause-learned
returns-clause-learned c =
    subst (λ (k : Seat). IsOfRecord (change_of c.args.seat.now.seat.me.0).entries (node_of k.0)) c.leave-theirs.ensures.node
    (learned c.args.seat.now.seat.me c.leave-theirs.result.me c.sight.new.seat.me c.sight.ensures.me c.meet.ensures.learned)

pub returns-clause-run : goal.returns-clause-run
returns-clause-run c =
    sighted_run c.args.seat.now.seat.me c.leave-theirs.result.me c.sight.new.seat.me c.sight.ensures.me c.meet.new.seat.me c.give_out.new.seat.me c.meet.ensures.did.me c.give_out.ensures.me c.meet.ensures.run
