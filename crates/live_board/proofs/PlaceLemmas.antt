-- Lists by their places.
use Rattle.std.proofs.Common.{◌≡◌, ◌∙◌, ℕ, zero, suc, ◌+◌, ◌<◌, Bool, true, false, cond, ◌∷◌, ◌≤◌, ⊎_elim, Some, None, refl, ap, arith}
use Rattle.std.specs.Prelude.{filter, find}
use Rattle.std.specs.List.{range_with_len}
use Rattle.std.proofs.lemmas.Bool.{cases_Bool, cases_eq}

find_from : (live p q : ℕ → Bool) (a n : ℕ) → ((i : ℕ) → i < a + n → live i ≡ true → p i ≡ q i) → find p (filter live (range_with_len a n)) ≡ find q (filter live (range_with_len a n))
find_from live p q a zero h = refl
find_from live p q a (suc n) h = by (find_from live p q (a + 1) n (λ i few. h i (omega (arith, few)))) (live a) refl
  where
    by : find p (filter live (range_with_len (a + 1) n)) ≡ find q (filter live (range_with_len (a + 1) n)) → (t : Bool) → live a ≡ t
        → find p (cond t (a ∷ filter live (range_with_len (a + 1) n)) (filter live (range_with_len (a + 1) n))) ≡ find q (cond t (a ∷ filter live (range_with_len (a + 1) n)) (filter live (range_with_len (a + 1) n)))
    by rest true is = (λ i. cond (h a (omega arith) is i) (Some a) (rest i))
    by rest false is = rest

pub find_same : (live p q : ℕ → Bool) (n : ℕ) → ((i : ℕ) → i < n → live i ≡ true → p i ≡ q i) → find p (filter live (range_with_len 0 n)) ≡ find q (filter live (range_with_len 0 n))
find_same live p q n h = find_from live p q 0 n (λ i few. h i (omega (arith, few)))

module _ (live p : ℕ → Bool) where
  one_more : (a n : ℕ) (live_is p_is : Bool) → live a ≡ live_is → p a ≡ p_is → find p (filter live (range_with_len a (suc n))) ≡ cond live_is (cond p_is (Some a) (find p (filter live (range_with_len (a + 1) n)))) (find p (filter live (range_with_len (a + 1) n)))
  one_more a n true p_is on is = ap (λ t. find p (cond t (a ∷ filter live (range_with_len (a + 1) n)) (filter live (range_with_len (a + 1) n)))) on ∙ ap (λ t. cond t (Some a) (find p (filter live (range_with_len (a + 1) n)))) is
  one_more a n false p_is on is = ap (λ t. find p (cond t (a ∷ filter live (range_with_len (a + 1) n)) (filter live (range_with_len (a + 1) n)))) on

  find_from_first : (a n k : ℕ) → a ≤ k → k < a + n → live k ≡ true → p k ≡ true → ((i : ℕ) → i < k → live i ≡ true → p i ≡ false) → find p (filter live (range_with_len a n)) ≡ Some k
  find_from_first a zero k low few on is before = absurd (omega (arith, low, few))
  find_from_first a (suc n) k low few on is before = ⊎_elim
      (λ (same : a ≡ k). one_more a n true true (ap live same ∙ on) (ap p same ∙ is) ∙ ap Some same)
      (λ (other : a ≡ k → ⊥).
      let less : a < k = omega (arith, low, other) in
      let rest = find_from_first (a + 1) n k (omega (arith, less)) (omega (arith, few)) on is before in
      ⊎_elim
      (λ (yes_ : live a ≡ true). one_more a n true false yes_ (before a less yes_) ∙ rest)
      (λ (no_ : live a ≡ false). one_more a n false (p a) no_ refl ∙ rest)
      (cases_Bool (live a)))
      (cases_eq a k)

  find_from_none : (a n : ℕ) → ((i : ℕ) → i < a + n → live i ≡ true → p i ≡ false) → find p (filter live (range_with_len a n)) ≡ None
  find_from_none a zero all = refl
  find_from_none a (suc n) all =
      let rest = find_from_none (a + 1) n (λ i few. all i (omega (arith, few))) in ⊎_elim
      (λ (yes_ : live a ≡ true). one_more a n true false yes_ (all a (omega arith) yes_) ∙ rest)
      (λ (no_ : live a ≡ false). one_more a n false (p a) no_ refl ∙ rest)
      (cases_Bool (live a))

  -- the first live one that passes
  pub find_first : (n k : ℕ) → k < n → live k ≡ true → p k ≡ true → ((i : ℕ) → i < k → live i ≡ true → p i ≡ false) → find p (filter live (range_with_len 0 n)) ≡ Some k
  find_first n k few on is before = find_from_first 0 n k (omega arith) (omega (arith, few)) on is before

  pub find_none : (n : ℕ) → ((i : ℕ) → i < n → live i ≡ true → p i ≡ false) → find p (filter live (range_with_len 0 n)) ≡ None
  find_none n all = find_from_none 0 n (λ i few. all i (omega (arith, few)))
