use Rattle.std.proofs.Common.{cond, eqb, get_or, Some, None, sym, ap, ◌∙◌}
use Rattle.std.specs.Option.{option_or}
use Rattle.std.proofs.lemmas.List.{take_all}
use Rattle.change_lists.proofs.LookupLemmas.{old_of}
use Rattle.change_plan.specs.declared.plan_data.Shift.{Shift}
use Rattle.change_lists.proofs.LookupLemmas.{source_more}
use Rattle.change_lists.proofs.lookups.list_sources.Goals as goal

pub loop-shift-preserved : goal.loop-shift-preserved
loop-shift-preserved c =
    let moves = c.args.moves.now in
    let k = c.loop-shift.shift-index in
    let d : Shift = record { old = 0; new = 0 } in
    record {
      count = c.note_first.ensures.count ∙ c.loop-shift.invariant.count;
      noted = λ j. c.note_first.ensures.noted j ∙ ap (λ o. option_or o (cond (eqb (get_or moves k d).new j) (Some (get_or moves k d).old) None)) (c.loop-shift.invariant.noted j) ∙ sym (source_more moves k j d c.loop-shift-test.true);
    }

pub returns : goal.returns
returns c = λ j. c.loop-shift.invariant.noted j ∙ ap (λ ms. old_of ms j) (take_all c.loop-shift.shift-index c.args.moves.now c.loop-shift-test.false)
