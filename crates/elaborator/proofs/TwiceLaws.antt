-- Elements by their places in lists that are put together.
use Rattle.std.proofs.Common.{◌≡◌, ◌∙◌, ℕ, zero, suc, ◌+◌, ◌<◌, List, [], ◌∷◌, ◌++◌, length, length-append, append_assoc, Some, refl, sym, ap, subst, arith}
use Rattle.std.specs.List.{slice_get}
use Rattle.std.proofs.lemmas.Option.{none-some, same_Some}
use Rattle.elaborator.specs.Faults.{Twice}
use Rattle.elaborator.specs.Faults.Twice.{twice}
use Rattle.base.proofs.PlaceLaws.{slice_get-behind, slice_get-front, split_at}

pub twice_there : {A : Type 0} (y : A) (xs : List A) (x : A) → Twice xs x → Twice (y ∷ xs) x
twice_there y xs x (twice before between after is) = twice (y ∷ before) between after (ap (λ zs. y ∷ zs) is)

pub twice_before : {A : Type 0} (xs ys : List A) (x : A) → Twice xs x → Twice (xs ++ ys) x
twice_before xs ys x (twice before between after is) = twice before between (after ++ ys) (ap (λ zs. zs ++ ys) is ∙ append_assoc (before ++ x ∷ between) (x ∷ after) ys)

pub twice_at : {A : Type 0} (xs : List A) (a b : ℕ) (x : A) → a < b → slice_get xs a ≡ Some x → slice_get xs b ≡ Some x → Twice xs x
twice_at [] a b x lt at at' = absurd (none-some x at)
twice_at (y ∷ xs) a zero x lt at at' = absurd (omega arith)
twice_at (y ∷ xs) zero (suc b) x lt at at' =
    let w = split_at xs b x at' in
    twice [] w.0 w.1 (ap (λ z. z ∷ xs) (same_Some y x at) ∙ ap (λ zs. x ∷ zs) w.2)
twice_at (y ∷ xs) (suc a) (suc b) x lt at at' = twice_there y xs x (twice_at xs a b x (omega arith) at at')

pub twice_places : {A : Type 0} (xs : List A) (x : A) → Twice xs x → (a : ℕ) × (b : ℕ) × (a < b) × (slice_get xs a ≡ Some x) × (slice_get xs b ≡ Some x)
twice_places xs x (twice before between after is) =
    let front = before ++ x ∷ between in
    let one = slice_get-front front (x ∷ after) (length before + 0) x (slice_get-behind before (x ∷ between) 0 x refl) in
    let other = slice_get-behind front (x ∷ after) 0 x refl in (
      length before + 0,
      length front + 0,
      omega (arith, length-append before (x ∷ between)),
      subst (λ zs. slice_get zs (length before + 0) ≡ Some x) (sym is) one,
      subst (λ zs. slice_get zs (length front + 0) ≡ Some x) (sym is) other,
    )
