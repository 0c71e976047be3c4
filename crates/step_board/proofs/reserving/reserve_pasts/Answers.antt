use Rattle.std.proofs.Common.{rules, ◌∙◌, ◌<◌, length}
use Rattle.std.proofs.lemmas.Option.{slice_get_within}
use Rattle.step_board.proofs.RoomLemmas.{one_kept, one_room, one_seen}
use Rattle.step_board.proofs.reserving.reserve_pasts.Goals as goal

pub returns-in_err-reserve_past-clause-seen : goal.returns-in_err-reserve_past-clause-seen
returns-in_err-reserve_past-clause-seen c = λ states.
    let low : c.loop-slot.slot < length c.loop-slot.nodes = search rules in
    one_seen states c.loop-slot.nodes c.loop-slot.slot _ c.reserve_past.new.held low (c.reserve_past.ensures.seen states) ∙ c.loop-slot.invariant.seen states

pub returns-in_err-reserve_past-clause-kept : goal.returns-in_err-reserve_past-clause-kept
returns-in_err-reserve_past-clause-kept c =
    let low : c.loop-slot.slot < length c.loop-slot.nodes = search rules in
    one_kept c.args.nodes.now c.loop-slot.nodes c.loop-slot.slot _ c.reserve_past.new.held low c.reserve_past.ensures.kept c.loop-slot.invariant.kept

pub loop-slot-preserved : goal.loop-slot-preserved
loop-slot-preserved c =
    let low : c.loop-slot.slot < length c.loop-slot.nodes = search rules in
    record {
      seen = λ states. one_seen states c.loop-slot.nodes c.loop-slot.slot _ c.reserve_past.new.held low (c.reserve_past.ensures.seen states) ∙ c.loop-slot.invariant.seen states;
      room = one_room c.loop-slot.nodes c.loop-slot.slot c.reserve_past.new.held low c.in_ok-reserve_past.ensures.room c.loop-slot.invariant.room;
      kept = one_kept c.args.nodes.now c.loop-slot.nodes c.loop-slot.slot _ c.reserve_past.new.held low c.reserve_past.ensures.kept c.loop-slot.invariant.kept;
    }

pub returns-clause-room : goal.returns-clause-room
returns-clause-room c = λ k h at.
    let below = slice_get_within c.loop-slot.nodes k h at in c.loop-slot.invariant.room k h (search (rules, below)) at
