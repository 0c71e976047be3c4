-- What can't be missing, though nothing here computes it.
use Rattle.std.proofs.Common.{◌≡◌, ◌<◌, ◌+◌, ◌⊎◌, inl, inr, ℕ, zero, suc, List, [], ◌∷◌, sym, subst, arith, length, get_or, Contains}
use Rattle.std.specs.List.{range_with_len}
use Rattle.std.specs.List.Sorted.{IsStrictlyIncreasing}
use Rattle.std.specs.Prelude.{AllPairs}
use Rattle.std.proofs.lemmas.List.Elements.{Contains-get_or}
use Rattle.std.proofs.lemmas.List.FromFn.{get_or-range_with_len, length-range_with_len}
use Rattle.std.proofs.lemmas.List.Kept.{AllPairs-cons}
use Rattle.base.proofs.ContainsLaws.{Contains-cons_cases, Contains-here, Contains-nil, Contains-there}
use Rattle.change_plan.specs.Selects.{Selects}
use Rattle.change_plan.specs.Selects.Selects.{ends, takes, skips}
use Rattle.change_plan.proofs.SelectsLaws.{Selects-part}

-- that neither has it nor lacks it can't be
pub not_not : (P : Type 0) → ¬ (¬ (P ⊎ (¬ P)))
not_not P never = never (inr (λ p. never (inl p)))

-- the part of a list that has a property
pub some_part : {A : Type 0} (P : A → Type 0) (xs : List A) → ¬ (¬ ((ys : List A) × Selects P xs ys))
some_part P [] never = never ([], ends)
some_part {A = A} P (x ∷ xs) never = some_part P xs (λ rest. not_not (P x) (by rest))
  where
    by : (ys : List A) × Selects P xs ys → P x ⊎ (¬ P x) → ⊥
    by rest (inl has) = never (x ∷ rest.0, takes has rest.1)
    by rest (inr lacks) = never (rest.0, skips lacks rest.1)

-- what can't be missing of any element can't be missing of all
pub of_each : {A : Type 0} (P : A → Type 0) (xs : List A) → ((x : A) → Contains xs x → ¬ (¬ P x)) → ¬ (¬ ((x : A) → Contains xs x → P x))
of_each P [] each never = never (λ x held. absurd (Contains-nil x held))
of_each {A = A} P (x ∷ xs) each never =
    each x (Contains-here x xs)
    (λ first. of_each P xs (λ y held. each y (Contains-there x y xs held))
    (λ rest. never (λ y held. by first rest y (Contains-cons_cases x xs y held))))
  where
    by : P x → ((y : A) → Contains xs y → P y) → (y : A) → (y ≡ x) ⊎ Contains xs y → P y
    by first rest y (inl same) = subst P (sym same) first
    by first rest y (inr later) = rest y later

-- to what the elements of a list are related
pub record Related {A B : Type 0} (R : A → B → Type 0) (xs : List A) : Type 0 where
  pub items : List B
  pub have : (y : B) → Contains items y → (x : A) × Contains xs x × R x y
  pub all : (x : A) (y : B) → Contains xs x → R x y → Contains items y

pub all_related : {A B : Type 0} (R : A → B → Type 0) → ((x : A) (y z : B) → R x y → R x z → y ≡ z) → (xs : List A) → ¬ (¬ Related R xs)
all_related R one [] never = never (record { items = []; have = λ y held. absurd (Contains-nil y held); all = λ x y held. absurd (Contains-nil x held) })
all_related {A = A} {B = B} R one (x ∷ xs) never = all_related R one xs (λ rest. not_not ((y : B) × R x y) (by rest))
  where
    by : Related R xs → ((y : B) × R x y) ⊎ (¬ ((y : B) × R x y)) → ⊥
    by rest (inl (y, has)) = never (record {
      items = y ∷ rest.items;
      have = λ z held. elim (Contains-cons_cases y rest.items z held) [
        | inl same ↦ (x, Contains-here x xs, subst (R x) (sym same) has)
        | inr later ↦ let w = rest.have z later in (w.0, Contains-there x w.0 xs w.1, w.2)
      ];
      all = λ a z held is. elim (Contains-cons_cases x xs a held) [
        | inl same ↦ subst (Contains (y ∷ rest.items)) (one x y z has (subst (λ b. R b z) same is)) (Contains-here y rest.items)
        | inr later ↦ Contains-there y z rest.items (rest.all a z later is)
      ];
    })
    by rest (inr lacks) = never (record {
      items = rest.items;
      have = λ z held. let w = rest.have z held in (w.0, Contains-there x w.0 xs w.1, w.2);
      all = λ a z held is. elim (Contains-cons_cases x xs a held) [
        | inl same ↦ absurd (lacks (z, subst (λ b. R b z) same is))
        | inr later ↦ rest.all a z later is
      ];
    })

-- a part of numbers in order is in order
rises_in_part : (P : ℕ → Type 0) (a n : ℕ) (ys : List ℕ) → Selects P (range_with_len a n) ys → AllPairs (λ (i j : ℕ). i < j) ys
rises_in_part P a zero ys ends = λ i j d below within. absurd (omega (arith, within))
rises_in_part P a (suc n) ys (skips lacks s) = rises_in_part P (a + 1) n ys s
rises_in_part P a (suc n) _ (takes {ys = ys} has s) = AllPairs-cons (λ (i j : ℕ). i < j) a ys first (rises_in_part P (a + 1) n ys s)
  where
    above : (k : ℕ) → Contains (range_with_len (a + 1) n) k → a < k
    above k (i, low, is) =
        let inside : i < n = subst (λ m. i < m) (length-range_with_len (a + 1) n) low in
        omega (arith, sym (get_or-range_with_len (a + 1) n i k inside), is)

    first : (i : ℕ) (d : ℕ) → i < length ys → a < get_or ys i d
    first i d low = above (get_or ys i d) (Selects-part P (range_with_len (a + 1) n) ys s (get_or ys i d) (Contains-get_or ys i d low))

pub places_rise : (P : ℕ → Type 0) (n : ℕ) (ys : List ℕ) → Selects P (range_with_len 0 n) ys → IsStrictlyIncreasing ys
places_rise P n ys s k within = rises_in_part P 0 n ys s k (k + 1) 0 (omega arith) within
