-- Tests that decide, of lists and of parts of lists.
use Rattle.std.proofs.Common.{◌≡◌, ℕ, zero, suc, ◌+◌, ◌<◌, get_or, Bool, true, false, cond, List, [], ◌∷◌, filter, refl, subst, arith, Decides}
use Rattle.std.specs.Prelude.{nat_lt}
use Rattle.std.specs.List.{range_with_len}
use Rattle.std.specs.List.Sorted.{IsStrictlyIncreasing}
use Rattle.std.proofs.lemmas.Bool.{and_parts, both_ways, ltb-true}
use Rattle.std.proofs.lemmas.List.FromFn.{get_or-range_with_len, length-range_with_len}
use Rattle.change_plan.specs.Selects.{Selects}
use Rattle.change_plan.specs.Selects.Selects.{ends, skips, takes}
use Rattle.change_spec.specs.Planning.{rises}

-- those of a list that pass are those that have what the test decides
pub selects_by : {A : Type 0} (P : A → Type 0) (p : A → Bool) → ((x : A) → Decides (p x) (P x)) → (xs : List A) → Selects P xs (filter p xs)
selects_by P p decides [] = ends
selects_by {A} P p decides (x ∷ xs) = by (p x) refl (selects_by P p decides xs)
  where
    by : (b : Bool) → p x ≡ b → Selects P xs (filter p xs) → Selects P (x ∷ xs) (cond b (x ∷ filter p xs) (filter p xs))
    by true e rest = takes ((decides x).0 e) rest
    by false e rest = skips (λ has. both_ways (p x) e ((decides x).1 has)) rest

-- numbers that rise
pub rise_if : (xs : List ℕ) → rises xs ≡ true → IsStrictlyIncreasing xs
rise_if [] h = λ k low. absurd (omega (arith, low))
rise_if (a ∷ []) h = λ k low. absurd (omega (arith, low))
rise_if (a ∷ (b ∷ xs)) h = by (rise_if (b ∷ xs) (and_parts (nat_lt a b) (rises (b ∷ xs)) h).1)
  where
    by : IsStrictlyIncreasing (b ∷ xs) → IsStrictlyIncreasing (a ∷ (b ∷ xs))
    by rest zero low = ltb-true a b (and_parts (nat_lt a b) (rises (b ∷ xs)) h).0
    by rest (suc k) low =
        let f : suc (k + 1) ≡ suc k + 1 = omega arith in
        let here : get_or (b ∷ xs) k 0 < get_or (b ∷ xs) (k + 1) 0 = rest k (omega (arith, low)) in
        subst (λ n. get_or (b ∷ xs) k 0 < get_or (a ∷ (b ∷ xs)) n 0) f here

pub range_rises : (a n : ℕ) → IsStrictlyIncreasing (range_with_len a n)
range_rises a n k low =
    let below : k + 1 < n = omega (arith, low, length-range_with_len a n) in
    omega (arith, get_or-range_with_len a n k 0 (omega (arith, below)), get_or-range_with_len a n (k + 1) 0 below)
