-- A part of a list that has a property is there, though nothing may tell which: that there is none can't be.
use Rattle.std.proofs.Common.{◌≡◌, ◌<◌, ◌≤◌, ◌⊎◌, inl, inr, ℕ, zero, suc, List, [], ◌∷◌, ◌++◌, sym, subst, arith, Contains, get_or}
use Rattle.std.specs.List.Sorted.{IsStrictlyIncreasing}
use Rattle.std.proofs.lemmas.Bool.{cases_lt}
use Rattle.std.proofs.lemmas.List.Elements.{All-contains_itself, Contains-append_left, Contains-append_right, Contains-append_cases}
use Rattle.base.proofs.ContainsLaws.{Contains-here, Contains-one, Contains-nil}
use Rattle.base.proofs.RisingLaws.{IsStrictlyIncreasing-push}
use Rattle.change_plan.specs.Selects.{Selects, ends, takes, skips}

-- that neither has it nor lacks it can't be
pub not_neither : (P : Type 0) → ¬ ¬ (P ⊎ (¬ P))
not_neither P none = none (inr (λ has. none (inl has)))

pub selected : {A : Type 0} (P : A → Type 0) (xs : List A) → ¬ ¬ ((ys : List A) × Selects P xs ys)
selected P [] none = none ([], ends)
selected {A = A} P (x ∷ xs) none = selected P xs (λ rest. not_neither (P x) (by rest))
  where
    by : (rest : (ys : List A) × Selects P xs ys) → P x ⊎ (¬ P x) → ⊥
    by rest (inl has) = none (x ∷ rest.0, takes has rest.1)
    by rest (inr lacks) = none (rest.0, skips lacks rest.1)

-- the numbers below n that have a property, in order
pub record Those (P : ℕ → Type 0) (n : ℕ) : Type 0 where
  pub items : List ℕ
  pub have : (i : ℕ) → Contains items i → (i < n) × P i
  pub all : (i : ℕ) → i < n → P i → Contains items i
  pub rise : IsStrictlyIncreasing items

none_below : (P : ℕ → Type 0) → Those P 0
none_below P = record {
  items = [];
  have = λ i there. absurd (Contains-nil i there);
  all = λ i low has. absurd (omega (arith, low));
  rise = λ k low. absurd (omega (arith, low));
}

below_more : (P : ℕ → Type 0) (n : ℕ) → Those P n → P n ⊎ (¬ P n) → Those P (suc n)
below_more P n t (inl has) = record {
  items = t.items ++ n ∷ [];
  have = λ i there. found i (Contains-append_cases t.items (n ∷ []) i there);
  all = all;
  rise = IsStrictlyIncreasing-push t.items n t.rise (λ k d low. (t.have (get_or t.items k d) (All-contains_itself t.items k d low)).0);
}
  where
    found : (i : ℕ) → Contains t.items i ⊎ Contains (n ∷ []) i → (i < suc n) × P i
    found i (inl there) = (omega (arith, (t.have i there).0), (t.have i there).1)
    found i (inr last) =
        let is : i ≡ n = Contains-one n i last in
        (omega (arith, is), subst P (sym is) has)

    by : (i : ℕ) → P i → i < suc n → (i < n) ⊎ (n ≤ i) → Contains (t.items ++ n ∷ []) i
    by i is low (inl less) = Contains-append_left t.items (n ∷ []) i (t.all i less is)
    by i is low (inr past) =
        let same : n ≡ i = omega (arith, low, past) in
        Contains-append_right t.items (n ∷ []) i (subst (Contains (n ∷ [])) same (Contains-here n []))

    all : (i : ℕ) → i < suc n → P i → Contains (t.items ++ n ∷ []) i
    all i low is = by i is low (cases_lt i n)
below_more P n t (inr lacks) = record {
  items = t.items;
  have = λ i there. (omega (arith, (t.have i there).0), (t.have i there).1);
  all = all;
  rise = t.rise;
}
  where
    by : (i : ℕ) → P i → i < suc n → (i < n) ⊎ (n ≤ i) → Contains t.items i
    by i is low (inl less) = t.all i less is
    by i is low (inr past) =
        let same : i ≡ n = omega (arith, low, past) in
        absurd (lacks (subst P same is))

    all : (i : ℕ) → i < suc n → P i → Contains t.items i
    all i low is = by i is low (cases_lt i n)

pub those : (P : ℕ → Type 0) (n : ℕ) → ¬ ¬ Those P n
those P zero none = none (none_below P)
those P (suc n) none = those P n (λ t. not_neither (P n) (λ which. none (below_more P n t which)))
