use Rattle.std.proofs.Common.{cond, get_or, Some, None, sym, ap, ◌∙◌}
use Rattle.std.specs.Option.{option_or}
use Rattle.change_lists.specs.Layouts.{is_place}
use Rattle.change_lists.proofs.LookupLemmas.{position_more}
use Rattle.change_lists.proofs.lookups.list_slots.Goals as goal

pub loop-slot-preserved : goal.loop-slot-preserved
loop-slot-preserved c =
    let places = c.args.places.now in
    let k = c.loop-slot.slot in
    record {
      count = c.note_slot.ensures.count ∙ c.loop-slot.invariant.count;
      noted = λ i. c.note_slot.ensures.noted i ∙ ap (λ o. option_or o (cond (is_place i (get_or places k None)) (Some k) None)) (c.loop-slot.invariant.noted i) ∙ sym (position_more (is_place i) places k None c.loop-slot-test.true);
    }
