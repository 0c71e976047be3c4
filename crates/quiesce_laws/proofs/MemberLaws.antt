-- Members of lists, and of lists that are selected from a range of numbers.
use Rattle.std.proofs.Common.{◌≡◌, ℕ, zero, suc, ◌+◌, ◌<◌, ◌≤◌, Bool, true, false, cond, List, [], ◌∷◌, get_or, Option, Some, None, refl, sym, ap, ◌∙◌, subst, inl, inr, ⊎_elim, arith, Contains}
use Rattle.std.specs.Prelude.{filter, filter_map}
use Rattle.std.specs.List.{AllPairs, range_with_len}
use Rattle.std.proofs.lemmas.List.Elements.{Contains-get_or}
use Rattle.std.proofs.lemmas.Bool.{both_ways, cases_Bool, cases_eq}
use Rattle.base.proofs.ContainsLaws.{Contains-here, Contains-there}
use Rattle.quiesce_laws.specs.Lists.{Apart, In}
use Rattle.quiesce_laws.specs.Commits.{Differ}

pub record Selected (f : ℕ → Bool) (a n p : ℕ) : Type 0 where
  pub from : a ≤ p
  pub below : p < a + n
  pub passes : f p ≡ true

selected_later : (f : ℕ → Bool) (a n p : ℕ) → Selected f (a + 1) n p → Selected f a (suc n) p
selected_later f a n p s = record { from = omega (arith, s.from); below = omega (arith, s.below); passes = s.passes }

pub selected : (f : ℕ → Bool) (a n p : ℕ) → In (filter f (range_with_len a n)) p → Selected f a n p
selected f a zero p h = absurd h
selected f a (suc n) p h = ⊎_elim
    (λ (e : f a ≡ true). ⊎_elim
    (λ (here : a ≡ p). record { from = omega (arith, here); below = omega (arith, here); passes = ap f (sym here) ∙ e })
    (λ (later : In (filter f (range_with_len (a + 1) n)) p). selected_later f a n p (selected f (a + 1) n p later))
    (subst (λ b. In (cond b (a ∷ filter f (range_with_len (a + 1) n)) (filter f (range_with_len (a + 1) n))) p) e h))
    (λ (e : f a ≡ false). selected_later f a n p (selected f (a + 1) n p (subst (λ b. In (cond b (a ∷ filter f (range_with_len (a + 1) n)) (filter f (range_with_len (a + 1) n))) p) e h)))
    (cases_Bool (f a))

pub select : (f : ℕ → Bool) (a n p : ℕ) → a ≤ p → p < a + n → f p ≡ true → In (filter f (range_with_len a n)) p
select f a zero p l u h = absurd (omega arith)
select f a (suc n) p l u h = ⊎_elim
    (λ (e : f a ≡ true). subst (λ b. In (cond b (a ∷ filter f (range_with_len (a + 1) n)) (filter f (range_with_len (a + 1) n))) p) (sym e)
    (⊎_elim (λ (same : a ≡ p). inl same) (λ (other : a ≡ p → ⊥). inr (select f (a + 1) n p (omega (arith, other)) (omega arith) h)) (cases_eq a p)))
    (λ (e : f a ≡ false). subst (λ b. In (cond b (a ∷ filter f (range_with_len (a + 1) n)) (filter f (range_with_len (a + 1) n))) p) (sym e)
    (⊎_elim (λ (same : a ≡ p). absurd (both_ways (f a) e (ap f same ∙ h))) (λ (other : a ≡ p → ⊥). select f (a + 1) n p (omega (arith, other)) (omega arith) h) (cases_eq a p)))
    (cases_Bool (f a))

pub select_apart : (f : ℕ → Bool) (a n : ℕ) → Apart Differ (filter f (range_with_len a n))
select_apart f a zero = tt
select_apart f a (suc n) = ⊎_elim
    (λ (e : f a ≡ true). subst (λ b. Apart Differ (cond b (a ∷ filter f (range_with_len (a + 1) n)) (filter f (range_with_len (a + 1) n)))) (sym e)
    (λ q i same. (let s = selected f (a + 1) n q i in absurd (omega (arith, s.from, same))), select_apart f (a + 1) n))
    (λ (e : f a ≡ false). subst (λ b. Apart Differ (cond b (a ∷ filter f (range_with_len (a + 1) n)) (filter f (range_with_len (a + 1) n)))) (sym e) (select_apart f (a + 1) n))
    (cases_Bool (f a))

-- what is made of a number of the range
pub record Mapped {A : Type 0} (f : ℕ → Option A) (a n : ℕ) (x : A) : Type 0 where
  pub at : ℕ
  pub from : a ≤ at
  pub below : at < a + n
  pub is : f at ≡ Some x

mapped_later : {A : Type 0} (f : ℕ → Option A) (a n : ℕ) (x : A) → Mapped f (a + 1) n x → Mapped f a (suc n) x
mapped_later f a n x s = record { at = s.at; from = omega (arith, s.from); below = omega (arith, s.below); is = s.is }

pub mapped : {A : Type 0} (f : ℕ → Option A) (a n : ℕ) (x : A) → In (filter_map f (range_with_len a n)) x → Mapped f a n x
mapped f a zero x h = absurd h
mapped {A} f a (suc n) x h = by (f a) refl h (mapped f (a + 1) n x)
  where
    by : (o : Option A) → f a ≡ o → In (filter_map f (range_with_len a (suc n))) x → (In (filter_map f (range_with_len (a + 1) n)) x → Mapped f (a + 1) n x) → Mapped f a (suc n) x
    by (Some y) e = rw e (λ h rest. ⊎_elim
        (λ (here : y ≡ x). record { at = a; from = omega arith; below = omega arith; is = e ∙ ap Some here })
        (λ (later : In (filter_map f (range_with_len (a + 1) n)) x). mapped_later f a n x (rest later)) h)
    by None e = rw e (λ h rest. mapped_later f a n x (rest h))

pub map_in : {A : Type 0} (f : ℕ → Option A) (a n p : ℕ) (x : A) → a ≤ p → p < a + n → f p ≡ Some x → In (filter_map f (range_with_len a n)) x
map_in f a zero p x l u h = absurd (omega arith)
map_in {A} f a (suc n) p x l u h = by (f a) refl (λ m. map_in f (a + 1) n p x (omega arith) (omega arith) h)
  where
    by : (o : Option A) → f a ≡ o → (a < p → In (filter_map f (range_with_len (a + 1) n)) x) → In (filter_map f (range_with_len a (suc n))) x
    by (Some y) e = rw e (λ later. ⊎_elim
        (λ (same : a ≡ p). let one : y ≡ x = cc (e, h, ap f same) in inl one)
        (λ (other : a ≡ p → ⊥). inr (later (omega (arith, other)))) (cases_eq a p))
    by None e = rw e (λ later. ⊎_elim
        (λ (same : a ≡ p). absurd (cc (e, h, ap f same)))
        (λ (other : a ≡ p → ⊥). later (omega (arith, other))) (cases_eq a p))

pub map_apart : {A : Type 0} (f : ℕ → Option A) (R : A → A → Type 0) → ((p q : ℕ) (x y : A) → p < q → f p ≡ Some x → f q ≡ Some y → R x y) → (a n : ℕ) → Apart R (filter_map f (range_with_len a n))
map_apart f R apart a zero = tt
map_apart {A} f R apart a (suc n) = by (f a) refl (map_apart f R apart (a + 1) n)
  where
    by : (o : Option A) → f a ≡ o → Apart R (filter_map f (range_with_len (a + 1) n)) → Apart R (filter_map f (range_with_len a (suc n)))
    by (Some x) e = rw e (λ rest. (λ y i. (let m = mapped f (a + 1) n y i in apart a m.at x y (omega (arith, m.from)) e m.is), rest))
    by None e = rw e (λ rest. rest)

-- members, and how they are apart, told twice

pub in_contains : {A : Type 0} (xs : List A) (x : A) → In xs x → Contains xs x
in_contains [] x h = absurd h
in_contains (y ∷ xs) x h = ⊎_elim
    (λ (here : y ≡ x). subst (Contains (y ∷ xs)) here (Contains-here y xs))
    (λ (later : In xs x). Contains-there y x xs (in_contains xs x later)) h

pub contains_in : {A : Type 0} (xs : List A) (x : A) → Contains xs x → In xs x
contains_in [] x h = absurd (omega (arith, h.1))
contains_in (y ∷ xs) x (zero, low, same) = inl same
contains_in (y ∷ xs) x (suc k, low, same) = inr (contains_in xs x (k, omega arith, same))

pub pairs_apart : {A : Type 0} (R : A → A → Type 0) (xs : List A) → AllPairs R xs → Apart R xs
pairs_apart R [] h = tt
pairs_apart R (x ∷ xs) h = (
  λ y there. let (k, low, same) = in_contains xs y there in subst (R x) same (h 0 (suc k) y (omega arith) (omega (arith, low))),
  pairs_apart R xs (λ i j d below low. h (suc i) (suc j) d (omega (arith, below)) (omega (arith, low))),
)

pub apart_pairs : {A : Type 0} (R : A → A → Type 0) (xs : List A) → Apart R xs → AllPairs R xs
apart_pairs R [] h i j d below low = absurd (omega (arith, low))
apart_pairs R (x ∷ xs) h zero zero d below low = absurd (omega (arith, below))
apart_pairs R (x ∷ xs) h zero (suc j) d below low =
    h.0 (get_or xs j d) (contains_in xs (get_or xs j d) (Contains-get_or xs j d (omega (arith, low))))
apart_pairs R (x ∷ xs) h (suc i) zero d below low = absurd (omega (arith, below))
apart_pairs R (x ∷ xs) h (suc i) (suc j) d below low = apart_pairs R xs h.1 i j d (omega (arith, below)) (omega (arith, low))
