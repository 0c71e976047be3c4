use Rattle.std.proofs.Common.{◌∙◌, ◌<◌, arith, length, sym}
use Rattle.live_board.specs.Lengths.{is_alike, length_at}
use Rattle.txn_gate.specs.Seats.{record_of}
use Rattle.txn_records.specs.Entries.{config_of}
use Rattle.live_board.proofs.ScanLaws.{each_live_one, one_fails}
use Rattle.live_board.proofs.comparing.are_same.Goals as goal

pub returns-then-not-is_same : goal.returns-then-not-is_same
returns-then-not-is_same c =
    let r = config_of (record_of c.args.seat.now) in
    let k = c.loop-slot.slot in
    let few : k < length r.slots = omega (arith, c.loop-slot-test.true, c.loop-slot.invariant.all) in
    sym (one_fails r (λ n. is_alike (length_at c.args.first.now.items n) (length_at c.args.lengths.now.items n)) k few (sym c.is_live.ensures ∙ c.if-is_live.true)
    (sym ((λ i. is_alike (c.length_of.ensures i) (c.length_of-then-is_live.ensures i))) ∙ sym c.is_same.ensures ∙ c.if-not-is_same.true))

pub returns : goal.returns
returns c =
    let r = config_of (record_of c.args.seat.now) in
    sym (each_live_one r (λ n. is_alike (length_at c.args.first.now.items n) (length_at c.args.lengths.now.items n)) (λ n few live. c.loop-slot.invariant.alike n (omega (arith, few, c.loop-slot-test.false, c.loop-slot.invariant.all)) live))
