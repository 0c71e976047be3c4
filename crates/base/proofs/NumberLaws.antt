-- The test that two numbers are one.
use Rattle.std.proofs.Common.{◌≡◌, ◌∙◌, ℕ, true, eqb, refl, sym, ⊎_elim, ◌<◌, Bool, false, arith, ◌≤◌, nat_le, suc, ◌⊎◌, inl, inr, zero, ◌+◌, ap}
use Rattle.std.specs.Prelude.{◌==◌, nat_lt}
use Rattle.std.proofs.lemmas.Bool.{cases_eq, eq-eqb, ne_eqb, eqb-true, false_from_ne_true, leb-true, ltb-true}
use Rattle.std.proofs.lemmas.Bool.Decides.{nat_tests}

pub same_number : (n : ℕ) → (n == n) ≡ true
same_number n = eq-eqb n n refl

pub eqb_flips : (x y : ℕ) → eqb x y ≡ eqb y x
eqb_flips x y = ⊎_elim
    (λ (same : x ≡ y). eq-eqb x y same ∙ sym (eq-eqb y x (sym same)))
    (λ (other : x ≡ y → ⊥). ne_eqb x y other ∙ sym (ne_eqb y x (λ e. other (sym e)))) (cases_eq x y)

pub other_number : (a b : ℕ) → a < b → (a == b) ≡ false
other_number a b low = by (a == b) refl
  where
    by : (x : Bool) → (a == b) ≡ x → x ≡ false
    by false e = refl
    by true e = absurd (omega (arith, low, eqb-true a b e))

pub at_most : (n most : ℕ) → nat_le n most ≡ true → n ≤ most
at_most n most is = grind (arith, nat_tests)

pub above : (n most : ℕ) → nat_le n most ≡ false → most < n
above n most is = grind (arith, nat_tests)

pub not_zero : (n : ℕ) → (suc n == 0) ≡ false
not_zero n = grind (arith, nat_tests)

-- a place before the one at hand, or that one
pub earlier_or_same : (m k : ℕ) → m < k + 1 → (m < k) ⊎ (m ≡ k)
earlier_or_same zero zero lt = inr refl
earlier_or_same zero (suc k) lt = inl (omega arith)
earlier_or_same (suc m) zero lt = absurd (omega (arith, lt))
earlier_or_same (suc m) (suc k) lt =
    elim (earlier_or_same m k (omega (arith, lt))) [ inl before ↦ inl (omega (arith, before)) | inr same ↦ inr (ap suc same) ]

pub above_number : (a b : ℕ) → b < a → (a == b) ≡ false
above_number a b low = by (a == b) refl
  where
    by : (x : Bool) → (a == b) ≡ x → x ≡ false
    by false e = refl
    by true e = absurd (omega (arith, low, eqb-true a b e))

-- ---- what a done node wants

pub not_below : (a b : ℕ) → nat_le b a ≡ true → nat_lt a b ≡ false
not_below a b h = false_from_ne_true (nat_lt a b) (λ low. let past = leb-true b a h in let less = ltb-true a b low in absurd (omega (arith, past, less)))
