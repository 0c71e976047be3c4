use Rattle.std.proofs.Common.{◌≢◌, ◌∙◌, ◌-◌, get_or, sym, arith, length}
use Rattle.std.proofs.lemmas.Bool.{eqb-false, eqb-true}
use Rattle.std.proofs.lemmas.Option.{slice_get-get_or}
use Rattle.change_parts.proofs.PartingLemmas.{stage_last, stage_none}
use Rattle.change_parts.proofs.parting.last_stage.Goals as goal

pub returns-then-is_empty : goal.returns-then-is_empty
returns-then-is_empty c = sym (stage_none c.args.old.now c.args.parts.now (eqb-true (length c.args.parts.now) 0 (sym c.is_empty.ensures ∙ c.if-is_empty.true)))

pub returns : goal.returns
returns c =
    let parts = c.args.parts.now in
    let some_ : length parts ≢ 0 = eqb-false (length parts) 0 (sym c.is_empty.ensures ∙ c.if-is_empty.false) in
    let part = get_or parts (length parts - 1) c.index-parts-parts.result in
    sym (stage_last c.args.old.now parts (length parts - 1) part (slice_get-get_or parts (length parts - 1) c.index-parts-parts.result (omega (arith, some_))) (omega (arith, some_)))
