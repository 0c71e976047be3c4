use Rattle.std.proofs.Common.{◌≡◌, ◌∙◌, ◌∷◌, ◌+◌, ◌<◌, ℕ, List, add-one, ap, get_or, length, sym, subst, drop, drop-cons}
use Rattle.change_parts.specs.Parts.{ArePlansWithin}
use Rattle.change_parts.specs.declared.part.Part.{Part}
use Rattle.rows_machine.proofs.part_rows.push_parts.Goals as goal

-- the rest from one place on begins with what stands there
rest_from : (parts : List Part) (i : ℕ) (p : Part) → i < length parts → p ≡ get_or parts i p → drop i parts ≡ p ∷ drop (i + 1) parts
rest_from parts i p inside is =
    drop-cons parts i p inside ∙ (λ q. sym is q ∷ drop (sym (add-one i) q) parts)

pub planned-requires : goal.planned-requires
planned-requires c =
    let parts = c.args.parts.now in
    let i = c.loop-index.index in
    let part = c.index-parts-index.result in
    (subst (ArePlansWithin c.loop-index.before.now) (rest_from parts i part c.loop-index-test.true c.index-parts-index.is) c.loop-index.invariant).0

pub loop-index-preserved : goal.loop-index-preserved
loop-index-preserved c =
    let parts = c.args.parts.now in
    let i = c.loop-index.index in
    let part = c.index-parts-index.result in
    (subst (ArePlansWithin c.loop-index.before.now) (rest_from parts i part c.loop-index-test.true c.index-parts-index.is) c.loop-index.invariant).1
