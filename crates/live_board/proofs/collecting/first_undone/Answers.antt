use Rattle.std.proofs.Common.{◌∙◌, ◌<◌, ap, arith, length, not, sym, true}
use Rattle.std.specs.Prelude.{slice_index_or}
use Rattle.quiesce_core.specs.State.{is_live}
use Rattle.txn_gate.specs.Seats.{record_of}
use Rattle.txn_records.specs.Entries.{config_of}
use Rattle.live_board.proofs.PlaceLemmas.{find_first, find_none}
use Rattle.base.proofs.PlaceLaws.{read_entry}
use Rattle.live_board.proofs.collecting.first_undone.Goals as goal

pub returns-then-not-index : goal.returns-then-not-index
returns-then-not-index c =
    let r = config_of (record_of c.args.seat.now) in
    let i = c.loop-slot.invariant in
    let k = c.loop-slot.slot in
    let few : k < length r.slots = omega (arith, c.loop-slot-test.true, i.all) in
    sym (find_first (is_live r) (λ n. not (slice_index_or c.args.dones.now.items n true)) (length r.slots) k few (sym c.is_live.ensures ∙ c.if-is_live.true) (ap not (read_entry c.args.dones.now.items k c.index.result.now true (omega (arith, few, c.requires)) c.index.ensures ∙ c.if-not-index.true)) (λ n low live. ap not (i.done n low live)))

pub returns : goal.returns
returns c =
    let r = config_of (record_of c.args.seat.now) in
    let i = c.loop-slot.invariant in
    sym (find_none (is_live r) (λ n. not (slice_index_or c.args.dones.now.items n true)) (length r.slots) (λ n few live. ap not (i.done n (omega (arith, few, c.loop-slot-test.false, i.all)) live)))
