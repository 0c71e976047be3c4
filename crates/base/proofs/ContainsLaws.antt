-- What lists contain that are put together, mapped and filtered.
use Rattle.std.proofs.Common.{◌≡◌, ℕ, zero, suc, Bool, true, false, cond, List, [], ◌∷◌, map, Option, Some, None, slice_get, refl, ap, sym, subst, ◌∙◌, arith, inl, inr, ◌⊎◌, ◌↔◌, ◌+◌, ◌++◌, take, All}
use Rattle.std.specs.List.{Contains, filter, flat_map, filter_map, cons_option, list_any}
use Rattle.std.proofs.lemmas.Bool.{false≢true, or_left, or_right, both_ways, eqb-true, or_cases}
use Rattle.std.proofs.lemmas.List.Elements.{Contains-append_left, Contains-append_right, Contains-append_cases, Contains-push, Contains-push_cases, Contains-get_or}
use Rattle.std.proofs.lemmas.Option.{slice_get-get_or, slice_get_within, get_or_from_slice_get}
use Rattle.std.proofs.Common.{drop, get_or, ◌<◌, length}
use Rattle.std.proofs.lemmas.List.{drop_more, take_more}
use Rattle.std.proofs.Math.Logic.{⊎_elim}
use Rattle.std.specs.Prelude.{◌==◌}
use Rattle.base.proofs.PlaceLaws.{any_there}

pub Contains-here : {A : Type 0} (x : A) (xs : List A) → Contains (x ∷ xs) x
Contains-here x xs = (0, omega arith, refl)

pub Contains-there : {A : Type 0} (x y : A) (xs : List A) → Contains xs y → Contains (x ∷ xs) y
Contains-there x y xs h = Contains-append_right (x ∷ []) xs y h

pub Contains-one : {A : Type 0} (x y : A) → Contains (x ∷ []) y → y ≡ x
Contains-one x y (zero, lt, is) = sym is
Contains-one x y (suc k, lt, is) = absurd (omega arith)

pub Contains-nil : {A : Type 0} (x : A) → Contains [] x → ⊥
Contains-nil x h = omega (arith, h.1)

pub Contains-cons_cases : {A : Type 0} (x : A) (xs : List A) (y : A) → Contains (x ∷ xs) y → (y ≡ x) ⊎ Contains xs y
Contains-cons_cases x xs y h = elim (Contains-append_cases (x ∷ []) xs y h) [ inl a ↦ inl (Contains-one x y a) | inr b ↦ inr b ]

pub Contains-map : {A B : Type 0} (f : A → B) (xs : List A) (x : A) → Contains xs x → Contains (map f xs) (f x)
Contains-map f [] x h = absurd (Contains-nil x h)
Contains-map f (y ∷ xs) x h =
    elim (Contains-cons_cases y xs x h) [
      | inl e ↦ subst (λ z. Contains (f y ∷ map f xs) (f z)) (sym e) (Contains-here (f y) (map f xs))
      | inr t ↦ Contains-there (f y) (f x) (map f xs) (Contains-map f xs x t)
    ]

pub Contains-from_map : {A B : Type 0} (f : A → B) (xs : List A) (y : B) → Contains (map f xs) y → (x : A) × Contains xs x × (y ≡ f x)
Contains-from_map f [] y h = absurd (Contains-nil y h)
Contains-from_map f (x ∷ xs) y h =
    elim (Contains-cons_cases (f x) (map f xs) y h) [
      | inl e ↦ (x, Contains-here x xs, e)
      | inr t ↦ let w = Contains-from_map f xs y t in (w.0, Contains-there x w.0 xs w.1, w.2)
    ]

filter_step : {A : Type 0} (b : Bool) (y x : A) (ys : List A) → (x ≡ y → b ≡ true) → (x ≡ y) ⊎ Contains ys x → Contains (cond b (y ∷ ys) ys) x
filter_step true y x ys passes (inl e) = subst (λ z. Contains (z ∷ ys) x) e (Contains-here x ys)
filter_step true y x ys passes (inr r) = Contains-there y x ys r
filter_step false y x ys passes (inl e) = absurd (false≢true (passes e))
filter_step false y x ys passes (inr r) = r

pub Contains-filter : {A : Type 0} (p : A → Bool) (xs : List A) (x : A) → Contains xs x → p x ≡ true → Contains (filter p xs) x
Contains-filter p [] x h t = h
Contains-filter p (y ∷ xs) x h t =
    filter_step (p y) y x (filter p xs) (λ e. ap p (sym e) ∙ t) (elim (Contains-cons_cases y xs x h) [ inl e ↦ inl e | inr r ↦ inr (Contains-filter p xs x r t) ])

from_filter_step : {A : Type 0} (p : A → Bool) (y : A) (xs ys : List A) (x : A) (b : Bool) → p y ≡ b → (Contains ys x → Contains xs x × (p x ≡ true)) → Contains (cond b (y ∷ ys) ys) x → Contains (y ∷ xs) x × (p x ≡ true)
from_filter_step p y xs ys x true t rest g =
    elim (Contains-cons_cases y ys x g) [
      | inl e ↦ (subst (λ z. Contains (z ∷ xs) x) e (Contains-here x xs), ap p e ∙ t)
      | inr r ↦ let w = rest r in (Contains-there y x xs w.0, w.1)
    ]
from_filter_step p y xs ys x false t rest g = let w = rest g in (Contains-there y x xs w.0, w.1)

pub Contains-from_filter : {A : Type 0} (p : A → Bool) (xs : List A) (x : A) → Contains (filter p xs) x → Contains xs x × (p x ≡ true)
Contains-from_filter p [] x h = absurd (Contains-nil x h)
Contains-from_filter p (y ∷ xs) x h = from_filter_step p y xs (filter p xs) x (p y) refl (Contains-from_filter p xs x) h

pub Contains-flat_map : {A B : Type 0} (f : A → List B) (xs : List A) (x : A) (y : B) → Contains xs x → Contains (f x) y → Contains (flat_map f xs) y
Contains-flat_map f [] x y h g = absurd (Contains-nil x h)
Contains-flat_map f (z ∷ xs) x y h g =
    elim (Contains-cons_cases z xs x h) [
      | inl e ↦ Contains-append_left (f z) (flat_map f xs) y (subst (λ w. Contains (f w) y) e g)
      | inr r ↦ Contains-append_right (f z) (flat_map f xs) y (Contains-flat_map f xs x y r g)
    ]

pub Contains-from_flat_map : {A B : Type 0} (f : A → List B) (xs : List A) (y : B) → Contains (flat_map f xs) y → (x : A) × Contains xs x × Contains (f x) y
Contains-from_flat_map f [] y h = absurd (Contains-nil y h)
Contains-from_flat_map f (x ∷ xs) y h =
    elim (Contains-append_cases (f x) (flat_map f xs) y h) [
      | inl a ↦ (x, Contains-here x xs, a)
      | inr t ↦ let w = Contains-from_flat_map f xs y t in (w.0, Contains-there x w.0 xs w.1, w.2)
    ]

-- ---- what a list contains

filter_map_step : {A B : Type 0} (h : A → Option B) (x : A) (xs : List A) (y : B) (o : Option B) → h x ≡ o → (Contains (filter_map h xs) y → (z : A) × Contains xs z × (h z ≡ Some y)) → Contains (cons_option o (filter_map h xs)) y → (z : A) × Contains (x ∷ xs) z × (h z ≡ Some y)
filter_map_step h x xs y None is rest c = let w = rest c in (w.0, Contains-there x w.0 xs w.1, w.2)
filter_map_step h x xs y (Some v) is rest c =
    elim (Contains-cons_cases v (filter_map h xs) y c) [
      | inl e ↦ (x, Contains-here x xs, is ∙ ap Some (sym e))
      | inr t ↦ let w = rest t in (w.0, Contains-there x w.0 xs w.1, w.2)
    ]

pub Contains-from_filter_map : {A B : Type 0} (h : A → Option B) (xs : List A) (y : B) → Contains (filter_map h xs) y → (x : A) × Contains xs x × (h x ≡ Some y)
Contains-from_filter_map h [] y c = absurd (Contains-nil y c)
Contains-from_filter_map h (x ∷ xs) y c = filter_map_step h x xs y (h x) refl (Contains-from_filter_map h xs y) c

pub Contains-filter_map : {A B : Type 0} (f : A → Option B) (xs : List A) (q : ℕ) (a : A) (b : B) → slice_get xs q ≡ Some a → f a ≡ Some b → Contains (filter_map f xs) b
Contains-filter_map f [] q a b h e = cc
Contains-filter_map {B = B} f (x ∷ xs) zero a b h e =
    let same : x ≡ a = cc in
    let here : f x ≡ Some b = ap f same ∙ e in
    subst (λ o. Contains (cons_option o (filter_map f xs)) b) (sym here) (Contains-here b (filter_map f xs))
Contains-filter_map {B = B} f (x ∷ xs) (suc q) a b h e = by (f x) (Contains-filter_map f xs q a b h e)
  where
    by : (o : Option B) → Contains (filter_map f xs) b → Contains (cons_option o (filter_map f xs)) b
    by None rest = rest
    by (Some y) rest = Contains-append_right (y ∷ []) (filter_map f xs) b rest

pub Contains-at : {A : Type 0} (xs : List A) (n : ℕ) (x : A) → slice_get xs n ≡ Some x → Contains xs x
Contains-at xs n x at = (n, slice_get_within xs n x at, get_or_from_slice_get xs n x x at)

pub at_some_place : {A : Type 0} (xs : List A) (x : A) → Contains xs x → (n : ℕ) × (slice_get xs n ≡ Some x)
at_some_place xs x there = (there.0, slice_get-get_or xs there.0 x there.1 ∙ ap Some there.2)

-- what is contained for an element, is contained in what is left of a loop over the list from that element on
pub Contains-from :
    {A B C : Type 0} (f : B → List C) (g : A → B) (xs : List A) (i : ℕ) (x : A) (whole : List C) → i < length xs → x ≡ get_or xs i x
    → whole ≡ flat_map f (map g (drop i xs)) → (e : C) → Contains (f (g x)) e → Contains whole e
Contains-from f g xs i x whole within is rest e has = rw (rest, drop_more xs i x within, ← is) (Contains-append_left _ _ e has)

-- a test passes somewhere in a list
pub any_if : {A : Type 0} (f : A → Bool) (xs : List A) (x : A) → Contains xs x → f x ≡ true → list_any f xs ≡ true
any_if f xs x there h = let w = at_some_place xs x there in at f xs w.0 x w.1 h
  where
    at : {A : Type 0} (f : A → Bool) (xs : List A) (i : ℕ) (x : A) → slice_get xs i ≡ Some x → f x ≡ true → list_any f xs ≡ true
    at f [] i x e h = absurd (cc)
    at f (y ∷ xs) zero x e h = let same : y ≡ x = cc in or_left (f y) (list_any f xs) (ap f same ∙ h)
    at f (y ∷ xs) (suc i) x e h = or_right (f y) (list_any f xs) (at f xs i x e h)

pub any_of : {A : Type 0} (f : A → Bool) (xs : List A) → list_any f xs ≡ true → (x : A) × Contains xs x × (f x ≡ true)
any_of f xs h = let w = any_there f xs h in (w.1, Contains-at xs w.0 w.1 w.2, w.3)

-- the elements of a list, one element more, and of a list as far as one place more
pub Contains-pushed : {A : Type 0} (xs : List A) (y x : A) → Contains (xs ++ y ∷ []) x ↔ (Contains xs x ⊎ (y ≡ x))
Contains-pushed xs y x =
    (Contains-push_cases xs y x, ⊎_elim (Contains-append_left xs (y ∷ []) x) (λ same. subst (Contains (xs ++ y ∷ [])) same (Contains-push xs y)))

pub Contains_more : {A : Type 0} (xs : List A) (i : ℕ) (d : A) → i < length xs → (x : A) → Contains (take (i + 1) xs) x ↔ (Contains (take i xs) x ⊎ (get_or xs i d ≡ x))
Contains_more xs i d low x =
    subst (λ l. Contains l x ↔ (Contains (take i xs) x ⊎ (get_or xs i d ≡ x))) (sym (take_more xs i d low)) (Contains-pushed (take i xs) (get_or xs i d) x)

pub All-from : {A : Type 0} (xs : List A) (P : A → Type 0) → ((x : A) → Contains xs x → P x) → All P xs
All-from xs P f k d low = f (get_or xs k d) (Contains-get_or xs k d low)

pub contained : (p : ℕ) (xs : List ℕ) → list_any (λ q. q == p) xs ≡ true → Contains xs p
contained p [] h = absurd (both_ways false refl h)
contained p (x ∷ xs) h = ⊎_elim
    (λ (same : (x == p) ≡ true). subst (λ y. Contains (x ∷ xs) y) (eqb-true x p same) (Contains-here x xs))
    (λ (later : list_any (λ q. q == p) xs ≡ true). Contains-there x p xs (contained p xs later))
    (or_cases (x == p) (list_any (λ q. q == p) xs) h)
