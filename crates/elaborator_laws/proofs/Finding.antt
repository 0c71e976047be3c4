-- What look-ups find in a list and in a reordering of it.
use Rattle.std.proofs.Common.{◌≡◌, ◌∙◌, ℕ, ◌+◌, ◌<◌, ◌≤◌, Bool, true, false, cond, List, [], ◌∷◌, map, Option, Some, None, refl, ap, sym, subst, arith, inl, inr}
use Rattle.std.specs.List.{Contains, find, count_by}
use Rattle.std.proofs.lemmas.List.Recursion.{is_count_by}
use Rattle.std.proofs.lemmas.Option.{none-some}
use Rattle.elaborator_laws.specs.Reordering.{Reordered, no_elements, kept, swapped, through}
use Rattle.base.proofs.ContainsLaws.{Contains-cons_cases, Contains-nil}
use Rattle.base.proofs.FindLaws.{find-none, find-only, find-some}

-- both are there and alike, or neither is there
pub data Both {A B : Type 0} (Like : A → B → Type 0) : Option A → Option B → Type 0 where
  neither : Both Like None None
  both_there : (x : A) (y : B) → Like x y → Both Like (Some x) (Some y)

pub Both-sym : {A B : Type 0} (R : A → B → Type 0) (S : B → A → Type 0) → ((x : A) (y : B) → R x y → S y x) → (x : Option A) (y : Option B) → Both R x y → Both S y x
Both-sym R S turn _ _ neither = neither
Both-sym R S turn _ _ (both_there x y same) = both_there y x (turn x y same)

pub Both-refl : {A : Type 0} (R : A → A → Type 0) → ((x : A) → R x x) → (o : Option A) → Both R o o
Both-refl R alone None = neither
Both-refl R alone (Some x) = both_there x x (alone x)

Both-after : {A : Type 0} (R : A → A → Type 0) → ((x y z : A) → R x y → R y z → R x z) → (x y : A) (z : Option A) → R x y → Both R (Some y) z → Both R (Some x) z
Both-after R follow x y _ same (both_there _ z same') = both_there x z (follow x y z same same')

pub Both-trans : {A : Type 0} (R : A → A → Type 0) → ((x y z : A) → R x y → R y z → R x z) → (x y z : Option A) → Both R x y → Both R y z → Both R x z
Both-trans R follow _ _ z neither other = other
Both-trans R follow _ _ z (both_there x y same) other = Both-after R follow x y z same other

-- how many pass
abbrev pub hits : {A : Type 0} → (A → Bool) → List A → ℕ
hits p [] = 0
hits p (x ∷ xs) = cond (p x) (1 + hits p xs) (hits p xs)

hits-map : {A B : Type 0} (p : B → Bool) (f : A → B) (xs : List A) → hits p (map f xs) ≡ hits (λ x. p (f x)) xs
hits-map p f [] = refl
hits-map p f (x ∷ xs) = ap (λ n. cond (p (f x)) (1 + n) n) (hits-map p f xs)

pub hits-count : {A B : Type 0} (p : B → Bool) (f : A → B) (xs : List A) → count_by p (map f xs) ≡ hits (λ x. p (f x)) xs
hits-count p f xs = sym (is_count_by (hits p) p refl (λ x ys. refl) (map f xs)) ∙ hits-map p f xs

hits-grow : {A : Type 0} (p : A → Bool) (z : A) (xs : List A) (b : Bool) → p z ≡ b → hits p xs ≤ hits p (z ∷ xs)
hits-grow p z xs true is = rw is (omega arith)
hits-grow p z xs false is = rw is (omega arith)

one_hit : {A : Type 0} (p : A → Bool) (z : A) (xs : List A) → p z ≡ true → hits p (z ∷ xs) ≡ 1 + hits p xs
one_hit p z xs is = rw is refl

some_hit : {A : Type 0} (p : A → Bool) (xs : List A) (x : A) → Contains xs x → p x ≡ true → 0 < hits p xs
some_hit p [] x there is = absurd (Contains-nil x there)
some_hit p (z ∷ xs) x there is =
    elim (Contains-cons_cases z xs x there) [
      | inl first ↦ omega (arith, one_hit p z xs (ap p (sym first) ∙ is))
      | inr later ↦ omega (arith, hits-grow p z xs (p z) refl, some_hit p xs x later is)
    ]

-- where one passes at most, two that pass are one
pub passes_once : {A : Type 0} (p : A → Bool) (xs : List A) (x y : A) → hits p xs < 2 → Contains xs x → Contains xs y → p x ≡ true → p y ≡ true → x ≡ y
passes_once p [] x y few there there' is is' = absurd (Contains-nil x there)
passes_once p (z ∷ xs) x y few there there' is is' =
    elim (Contains-cons_cases z xs x there) [
      | inl first ↦
          elim (Contains-cons_cases z xs y there') [
            | inl other ↦ first ∙ sym other
            | inr later ↦ absurd (omega (arith, few, one_hit p z xs (ap p (sym first) ∙ is), some_hit p xs y later is'))
          ]
      | inr more ↦
          elim (Contains-cons_cases z xs y there') [
            | inl other ↦ absurd (omega (arith, few, one_hit p z xs (ap p (sym other) ∙ is'), some_hit p xs x more is))
            | inr later ↦ passes_once p xs x y (omega (arith, few, hits-grow p z xs (p z) refl)) more later is is'
          ]
    ]

-- as many pass in the other list, and the first that passes is alike
pub record Agree {A : Type 0} (R : A → A → Type 0) (p : A → Bool) (xs ys : List A) : Type 0 where
  pub count : hits p ys ≡ hits p xs
  pub found : Both R (find p xs) (find p ys)

agree_kept :
    {A : Type 0} (R : A → A → Type 0) (p : A → Bool) (x y : A) (xs ys : List A) (b : Bool) → p x ≡ b → p y ≡ b → R x y
    → (hits p xs < 2 → Agree R p xs ys) → hits p (x ∷ xs) < 2 → Agree R p (x ∷ xs) (y ∷ ys)
agree_kept R p x y xs ys true is is' same rest few =
    let fewer : 1 + hits p xs < 2 = rw is at few in
    record { count = rw (is, is') (ap (λ n. 1 + n) (rest (omega arith)).count); found = rw (is, is') (both_there x y same) }
agree_kept R p x y xs ys false is is' same rest few =
    let fewer : hits p xs < 2 = rw is at few in
    record { count = rw (is, is') (rest fewer).count; found = rw (is, is') (rest fewer).found }

agree_swapped :
    {A : Type 0} (R : A → A → Type 0) (p : A → Bool) (x y x' y' : A) (xs ys : List A) (a b : Bool) → p x ≡ a → p y ≡ b → p x' ≡ a → p y' ≡ b
    → R x x' → R y y' → (hits p xs < 2 → Agree R p xs ys) → hits p (x ∷ y ∷ xs) < 2 → Agree R p (x ∷ y ∷ xs) (y' ∷ x' ∷ ys)
agree_swapped R p x y x' y' xs ys true true is is' at at' same same' rest few =
    let fewer : 1 + (1 + hits p xs) < 2 = rw (is, is') at few in
    absurd (omega arith)
agree_swapped R p x y x' y' xs ys true false is is' at at' same same' rest few =
    let fewer : 1 + hits p xs < 2 = rw (is, is') at few in
    record { count = rw (is, is', at, at') (ap (λ n. 1 + n) (rest (omega arith)).count); found = rw (is, at, at') (both_there x x' same) }
agree_swapped R p x y x' y' xs ys false true is is' at at' same same' rest few =
    let fewer : 1 + hits p xs < 2 = rw (is, is') at few in
    record { count = rw (is, is', at, at') (ap (λ n. 1 + n) (rest (omega arith)).count); found = rw (is, is', at') (both_there y y' same') }
agree_swapped R p x y x' y' xs ys false false is is' at at' same same' rest few =
    let fewer : hits p xs < 2 = rw (is, is') at few in
    record { count = rw (is, is', at, at') (rest fewer).count; found = rw (is, is', at, at') (rest fewer).found }

-- where one element passes at most, it is found in each reordering
pub agree :
    {A : Type 0} (R : A → A → Type 0) (p : A → Bool) → ((x y z : A) → R x y → R y z → R x z) → ((x y : A) → R x y → p y ≡ p x) → (xs ys : List A)
    → Reordered R xs ys → hits p xs < 2 → Agree R p xs ys
agree R p follow fits _ _ no_elements few = record { count = refl; found = neither }
agree R p follow fits _ _ (kept x y xs ys same rest) few =
    agree_kept R p x y xs ys (p x) refl (fits x y same) same (agree R p follow fits xs ys rest) few
agree R p follow fits _ _ (swapped x y x' y' xs ys same same' rest) few =
    agree_swapped R p x y x' y' xs ys (p x) (p y) refl refl (fits x x' same) (fits y y' same') same same' (agree R p follow fits xs ys rest) few
agree R p follow fits _ _ (through xs ys zs first then_) few =
    let a = agree R p follow fits xs ys first few in
    let b = agree R p follow fits ys zs then_ (subst (λ n. n < 2) (sym a.count) few) in
    record { count = b.count ∙ a.count; found = Both-trans R follow (find p xs) (find p ys) (find p zs) a.found b.found }

-- ---- lists of which each element has its like in the other

-- each element has its like in the other list
pub record Covers {A B : Type 0} (R : A → B → Type 0) (xs : List A) (ys : List B) : Type 0 where
  pub like : (x : A) → Contains xs x → (y : B) × Contains ys y × R x y

found_none_step :
    {A : Type 0} (p : A → Bool) (z x : A) (xs : List A) (b : Bool) → p z ≡ b → (find p xs ≡ None → Contains xs x → p x ≡ false) → cond b (Some z) (find p xs) ≡ None
    → Contains (z ∷ xs) x → p x ≡ false
found_none_step p z x xs true is rest none there = absurd (none-some z (sym none))
found_none_step p z x xs false is rest none there =
    elim (Contains-cons_cases z xs x there) [ inl first ↦ ap p first ∙ is | inr later ↦ rest none later ]

-- where none is found, none passes
found_none : {A : Type 0} (p : A → Bool) (xs : List A) (x : A) → find p xs ≡ None → Contains xs x → p x ≡ false
found_none p [] x none there = absurd (Contains-nil x there)
found_none p (z ∷ xs) x none there = found_none_step p z x xs (p z) refl (found_none p xs x) none there

-- where one element passes at most, its like is found in the other list
pub Both-find :
    {A B : Type 0} (R : A → B → Type 0) (p : A → Bool) (q : B → Bool) → ((x : A) (y : B) → R x y → q y ≡ p x) → (xs : List A) (ys : List B)
    → Covers R xs ys → Covers (λ y x. R x y) ys xs → ((x x' : A) → Contains xs x → Contains xs x' → p x ≡ true → p x' ≡ true → x ≡ x')
    → Both R (find p xs) (find q ys)
Both-find {A} {B} R p q fits xs ys all all' one = by (find q ys) refl
  where
    by : (o : Option B) → find q ys ≡ o → Both R (find p xs) o
    by None none =
        rw (find-none p xs (λ x there. let w = all.like x there in sym (fits x w.0 w.2) ∙ found_none q ys w.0 none w.1)) neither
    by (Some y) some =
        let found = find-some q ys y some in
        let w = all'.like y found.0 in
        let passes : p w.0 ≡ true = sym (fits w.0 y w.2) ∙ found.1 in
        rw (find-only p xs w.0 w.1 passes (λ x there passes'. one x w.0 there w.1 passes' passes)) (both_there w.0 y w.2)
