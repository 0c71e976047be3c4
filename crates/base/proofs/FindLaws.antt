-- What is found in a list, and where.
use Rattle.std.proofs.Common.{◌≡◌, ℕ, Bool, true, false, cond, List, [], ◌∷◌, length, map, position, nat_lt, ◌||◌, Option, Some, None, option_map, is_some, slice_get, refl, ap, sym, subst, ◌∙◌, arith, inl, inr, ◌≤◌, ltb, zero, suc, ◌<◌, get_or, ◌++◌, ⊎_elim, ◌+◌, take}
use Rattle.std.specs.List.{Contains, find, list_any, position_or_len, AllByRecursion, range_with_len, list_all, prefix_len}
use Rattle.std.specs.Option.{option_and_then, option_or}
use Rattle.std.proofs.lemmas.Option.{slice_get_past, none-some, same_Some, cond_some, get_or_from_slice_get, slice_get_within}
use Rattle.std.proofs.lemmas.List.Folds.{find_at, find-append}
use Rattle.std.proofs.lemmas.Bool.{false≢true, ltb-false, ltb-true, cond_both, cond-true, cond-false, lt-ltb, le-ltb, cases_lt, both_ways, and_parts}
use Rattle.std.proofs.lemmas.List.Elements.{Contains-append_right, Contains-get_or}
use Rattle.std.proofs.lemmas.Bool.Decides.{nat_tests}
use Rattle.std.specs.Prelude.{IfSome, filter, ◌&&◌, not, is_none}
use Rattle.std.proofs.lemmas.List.Sums.{fails_before_first}
use Rattle.std.proofs.lemmas.List.{take_more}
use Rattle.base.proofs.PlaceLaws.{slice_get-there}
use Rattle.base.proofs.ContainsLaws.{Contains-cons_cases, Contains-here, Contains-nil, Contains-there, Contains-at, Contains-filter, Contains-one}

pub find-map : {A B : Type 0} (p : B → Bool) (f : A → B) (xs : List A) → find p (map f xs) ≡ option_map f (find (λ x. p (f x)) xs)
find-map p f [] = refl
find-map {A} {B} p f (x ∷ xs) =
    elim (p (f x)) as (λ b. cond b (Some (f x)) (find p (map f xs)) ≡ option_map f (cond b (Some x) (find (λ y. p (f y)) xs)))
    [ true ↦ refl | false ↦ find-map p f xs ]

pub is_some-find : {A : Type 0} (p : A → Bool) (xs : List A) → is_some (find p xs) ≡ list_any p xs
is_some-find p [] = refl
is_some-find {A} p (x ∷ xs) =
    elim (p x) as (λ b. is_some (cond b (Some x) (find p xs)) ≡ (b || list_any p xs)) [ true ↦ refl | false ↦ is_some-find p xs ]

-- what is found stands at the place at which it is found
pub find-position : {A : Type 0} (p : A → Bool) (xs : List A) → find p xs ≡ option_and_then (slice_get xs) (position p xs)
find-position p xs = find_at p xs ∙ at_place (nat_lt (position_or_len p xs) (length xs)) refl
  where
    at_place : (b : Bool) → nat_lt (position_or_len p xs) (length xs) ≡ b → slice_get xs (position_or_len p xs) ≡ option_and_then (slice_get xs) (cond b (Some (position_or_len p xs)) None)
    at_place true h = refl
    at_place false h = slice_get_past xs (position_or_len p xs) (ltb-false (position_or_len p xs) (length xs) h)

-- a place is found exactly where an element passes
pub is_some-position : {A : Type 0} (p : A → Bool) (xs : List A) → is_some (position p xs) ≡ list_any p xs
is_some-position {A} p xs = by (ltb first (length xs)) refl ∙ ap is_some (sym (find_at p xs)) ∙ is_some-find p xs
  where
    first : ℕ
    first = position_or_len p xs

    by : (b : Bool) → ltb first (length xs) ≡ b → is_some (cond b (Some first) None) ≡ is_some (slice_get xs first)
    by true within = sym (ap is_some (slice_get-there xs first (ltb-true first (length xs) within)).1)
    by false past = sym (ap is_some (slice_get_past xs first (ltb-false first (length xs) past)))

-- ---- look-ups

pub find-none : {A : Type 0} (p : A → Bool) (xs : List A) → ((x : A) → Contains xs x → p x ≡ false) → find p xs ≡ None
find-none p [] h = refl
find-none p (x ∷ xs) h = rw (h x (Contains-here x xs)) (find-none p xs (λ y c. h y (Contains-there x y xs c)))

only_step : {A : Type 0} (p : A → Bool) (z x : A) (xs : List A) (b : Bool) → p z ≡ b → Contains (z ∷ xs) x → p x ≡ true → (p z ≡ true → z ≡ x) → (Contains xs x → find p xs ≡ Some x) → cond b (Some z) (find p xs) ≡ Some x
only_step p z x xs true t c px only rest = ap Some (only t)
only_step p z x xs false t c px only rest =
    elim (Contains-cons_cases z xs x c) [ inl e ↦ absurd (false≢true (sym t ∙ ap p (sym e) ∙ px)) | inr r ↦ rest r ]

-- the one element that passes is found
pub find-only : {A : Type 0} (p : A → Bool) (xs : List A) (x : A) → Contains xs x → p x ≡ true → ((y : A) → Contains xs y → p y ≡ true → y ≡ x) → find p xs ≡ Some x
find-only p [] x c px only = absurd (Contains-nil x c)
find-only p (z ∷ xs) x c px only =
    only_step p z x xs (p z) refl c px (only z (Contains-here z xs)) (λ r. find-only p xs x r px (λ y cy. only y (Contains-there z y xs cy)))

found_step : {A : Type 0} (p : A → Bool) (z x : A) (xs : List A) (b : Bool) → p z ≡ b → (find p xs ≡ Some x → Contains xs x × (p x ≡ true)) → cond b (Some z) (find p xs) ≡ Some x → Contains (z ∷ xs) x × (p x ≡ true)
found_step p z x xs true t rest e =
    let same = same_Some z x e in (subst (λ y. Contains (z ∷ xs) y) same (Contains-here z xs), ap p (sym same) ∙ t)
found_step p z x xs false t rest e = let w = rest e in (Contains-there z x xs w.0, w.1)

-- what is found is there and passes
pub find-some : {A : Type 0} (p : A → Bool) (xs : List A) (x : A) → find p xs ≡ Some x → Contains xs x × (p x ≡ true)
find-some p [] x e = absurd (none-some x e)
find-some p (z ∷ xs) x e = found_step p z x xs (p z) refl (find-some p xs x) e

-- what is found stands at the position
pub find-at_position : {A : Type 0} (p : A → Bool) (xs : List A) (k : ℕ) → position p xs ≡ Some k → find p xs ≡ slice_get xs k
find-at_position p xs k e = find_at p xs ∙ ap (slice_get xs) (cond_some _ (position_or_len p xs) k e).1

-- where there is no position nothing is found
pub find-no_position : {A : Type 0} (p : A → Bool) (xs : List A) → position p xs ≡ None → find p xs ≡ None
find-no_position p xs e = find_at p xs ∙ slice_get_past xs (position_or_len p xs) (past (position_or_len p xs) (length xs) e)
  where
    past : (m n : ℕ) → cond (ltb m n) (Some m) None ≡ None → n ≤ m
    past m n e = grind (arith, nat_tests)

pub found_any : {A : Type 0} (b : Bool) (x : A) (o : Option A) → (b ≡ true) → is_some (cond b (Some x) o) ≡ true
found_any true x o h = refl
found_any false x o h = absurd (false≢true h)

pub kept_any : {A : Type 0} (b : Bool) (x : A) (o : Option A) → is_some o ≡ true → is_some (cond b (Some x) o) ≡ true
kept_any true x o h = refl
kept_any false x o h = h

-- what passes and is there is found, or something before it
pub is_some-find_from : {A : Type 0} (p : A → Bool) (xs : List A) (y : A) → Contains xs y → p y ≡ true → is_some (find p xs) ≡ true
is_some-find_from p [] y h t = absurd (Contains-nil y h)
is_some-find_from p (x ∷ xs) y h t =
    elim (Contains-cons_cases x xs y h) [
      | inl e ↦ found_any (p x) x (find p xs) (ap p (sym e) ∙ t)
      | inr r ↦ kept_any (p x) x (find p xs) (is_some-find_from p xs y r t)
    ]

-- what `find` finds passes, and is in the list
pub find_passes : {A : Type 0} (p : A → Bool) (xs : List A) (x : A) → find p xs ≡ Some x → p x ≡ true
find_passes p [] x h = cc
find_passes p (y ∷ ys) x h = by (p y) refl (find_passes p ys x) h
  where
    by : (b : Bool) → p y ≡ b → (find p ys ≡ Some x → p x ≡ true) → cond b (Some y) (find p ys) ≡ Some x → p x ≡ true
    by true e rest f = let same : y ≡ x = cc in ap p (sym same) ∙ e
    by false e rest f = rest f

pub Contains-find : {A : Type 0} (p : A → Bool) (xs : List A) (x : A) → find p xs ≡ Some x → Contains xs x
Contains-find p [] x h = cc
Contains-find p (y ∷ ys) x h = by (p y) (Contains-find p ys x) h
  where
    by : (b : Bool) → (find p ys ≡ Some x → Contains ys x) → cond b (Some y) (find p ys) ≡ Some x → Contains (y ∷ ys) x
    by true rest f =
        let same : y ≡ x = cc in
        subst (Contains (y ∷ ys)) same (Contains-get_or (y ∷ ys) 0 y (omega arith))
    by false rest f = Contains-append_right (y ∷ []) ys x (rest f)

-- what is found has what all have
pub found_has : {A : Type 0} (P : A → Type 0) (test : A → Bool) (xs : List A) → AllByRecursion P xs → IfSome (find test xs) P
found_has P test [] all = tt
found_has {A} P test (x ∷ xs) all = by (test x) (found_has P test xs all.1)
  where
    by : (b : Bool) → IfSome (find test xs) P → IfSome (cond b (Some x) (find test xs)) P
    by true rest = all.0
    by false rest = rest

-- the first element that passes
pub find_first : {A : Type 0} (p : A → Bool) (xs : List A) (k : ℕ) (d : A) → k < length xs → p (get_or xs k d) ≡ true → ((j : ℕ) → j < k → p (get_or xs j d) ≡ false) → find p xs ≡ Some (get_or xs k d)
find_first p [] k d low passes before = absurd (omega arith)
find_first p (x ∷ xs) zero d low passes before = ap (λ b. cond b (Some x) (find p xs)) passes
find_first p (x ∷ xs) (suc k) d low passes before =
    ap (λ b. cond b (Some x) (find p xs)) (before 0 (omega arith)) ∙ find_first p xs k d (omega arith) passes (λ j h. before (suc j) (omega arith))

pub find_none : {A : Type 0} (p : A → Bool) (xs : List A) → ((k : ℕ) (d : A) → k < length xs → p (get_or xs k d) ≡ false) → find p xs ≡ None
find_none p [] h = refl
find_none p (y ∷ ys) h =
    ap (λ b. cond b (Some y) (find p ys)) (h 0 y (omega arith)) ∙ find_none p ys (λ k d l. h (suc k) d (omega arith))

-- `find` in a list with one element more
pub find_last : {A : Type 0} (p : A → Bool) (xs : List A) (x : A) → find p xs ≡ None → p x ≡ true → find p (xs ++ x ∷ []) ≡ Some x
find_last p xs x before here =
    find-append p xs (x ∷ []) ∙ ap (λ o. option_or o (find p (x ∷ []))) before ∙ ap (λ b. cond b (Some x) None) here

pub find_not_last : {A : Type 0} (p : A → Bool) (xs : List A) (x : A) → p x ≡ false → find p (xs ++ x ∷ []) ≡ find p xs
find_not_last {A = A} p xs x here =
    find-append p xs (x ∷ []) ∙ ap (λ b. option_or (find p xs) (cond b (Some x) None)) here ∙ or_none (find p xs)
  where
    or_none : (o : Option A) → option_or o None ≡ o
    or_none None = refl
    or_none (Some y) = refl

pub find_front : {X : Type 0} (test : X → Bool) (xs ys : List X) (x : X) → find test xs ≡ Some x → find test (xs ++ ys) ≡ Some x
find_front test [] ys x found = absurd (let no_way : ⊥ = cc in no_way)
find_front test (y ∷ xs) ys x found = cond_both (test y) (Some y) (find test xs) (λ o. o ≡ Some x → find test ((y ∷ xs) ++ ys) ≡ Some x)
    (λ passes is. cond-true _ _ _ passes ∙ is) (λ fails is. cond-false _ _ _ fails ∙ find_front test xs ys x is) found

pub find_fails : {X : Type 0} (test : X → Bool) (xs : List X) → find test xs ≡ None → AllByRecursion (λ x. test x ≡ false) xs
find_fails test [] none_found = tt
find_fails test (x ∷ xs) none_found = cond_both (test x) (Some x) (find test xs) (λ o. o ≡ None → AllByRecursion (λ x. test x ≡ false) (x ∷ xs))
    (λ passes is. absurd (let no_way : ⊥ = cc in no_way)) (λ fails is. (fails, find_fails test xs is)) none_found

pub position_within : {A : Type 0} (p : A → Bool) (xs : List A) (k : ℕ) → position p xs ≡ Some k → k < length xs
position_within p xs k is = by (position_or_len p xs) (length xs) is
  where
    by : (m n : ℕ) → cond (ltb m n) (Some m) None ≡ Some k → k < n
    by m n is = elim (cases_lt m n) [
      | inl lt ↦ subst (λ a. a < n) (same_Some m k (rw (lt-ltb m n lt) at is)) lt
      | inr le ↦ absurd (none-some k (rw (le-ltb m n le) at is))
    ]

pub position_some : {A : Type 0} (f : A → Bool) (xs : List A) (i : ℕ) (x : A) → slice_get xs i ≡ Some x → f x ≡ true → (k : ℕ) × (position f xs ≡ Some k)
position_some f xs i x e h = ⊎_elim
    (λ (low : position_or_len f xs < length xs). (position_or_len f xs, ap (λ b. cond b (Some (position_or_len f xs)) None) (lt-ltb (position_or_len f xs) (length xs) low)))
    (λ (high : length xs ≤ position_or_len f xs).
    let inside = slice_get_within xs i x e in
    absurd (both_ways (f (get_or xs i x)) (fails_before_first f xs i x (omega (arith, high, inside))) (ap f (get_or_from_slice_get xs i x x e) ∙ h)))
    (cases_lt (position_or_len f xs) (length xs))

-- a port that is found in a row stands there
pub found_in_range : (test : ℕ → Bool) (a n p : ℕ) → find test (range_with_len a n) ≡ Some p → (a ≤ p) × (p < a + n) × (test p ≡ true)
found_in_range test a zero p h = absurd (none-some p h)
found_in_range test a (suc n) p h = by (test a) refl (λ g. found_in_range test (a + 1) n p g) h
  where
    by : (b : Bool) → test a ≡ b → (find test (range_with_len (a + 1) n) ≡ Some p → (a + 1 ≤ p) × (p < a + 1 + n) × (test p ≡ true))
        → cond b (Some a) (find test (range_with_len (a + 1) n)) ≡ Some p → (a ≤ p) × (p < a + suc n) × (test p ≡ true)
    by true e later h = let same = same_Some a p h in (omega (arith, same), omega (arith, same), subst (λ i. test i ≡ true) same e)
    by false e later h = let w = later h in (omega (arith, w.0), omega (arith, w.1), w.2)

pub one_member : {A : Type 0} (xs : List A) → length xs ≡ 1 → (x : A) × (xs ≡ x ∷ [])
one_member [] is = absurd (omega arith)
one_member (x ∷ []) is = (x, let e : x ∷ [] ≡ x ∷ [] = cc in e)
one_member (x ∷ y ∷ more) is = absurd (omega arith)

-- what stands at a place and passes is found, where nothing else passes
pub only_found : {A : Type 0} (p : A → Bool) (xs : List A) (i : ℕ) (x : A) → length (filter p xs) ≡ 1 → slice_get xs i ≡ Some x → p x ≡ true → find p xs ≡ Some x
only_found p xs i x one at passes =
    let there = Contains-at xs i x at in
    let all = one_member (filter p xs) one in
    let is : (y : _) → Contains xs y → p y ≡ true → y ≡ all.0 = λ y has holds. Contains-one all.0 y (subst (λ l. Contains l y) all.1 (Contains-filter p xs y has holds)) in
    find-only p xs x there passes (λ y has holds. is y has holds ∙ sym (is x there passes))

-- ---- what stands at the ends

pub all_front : (p : ℕ → Bool) (xs ys : List ℕ) → list_all p xs ≡ true → prefix_len p (xs ++ ys) ≡ length xs + prefix_len p ys
all_front p [] ys all = let e : prefix_len p ys ≡ 0 + prefix_len p ys = omega arith in e
all_front p (x ∷ xs) ys all =
    let both = and_parts (p x) (list_all p xs) all in
    let rest = all_front p xs ys both.1 in
    cond-true _ _ _ both.0 ∙ (let e : 1 + prefix_len p (xs ++ ys) ≡ suc (length xs) + prefix_len p ys = omega arith in e)

-- one move more
pub find_more : {A : Type 0} (p : A → Bool) (xs : List A) (k : ℕ) (d : A) → k < length xs
    → find p (take (k + 1) xs) ≡ option_or (find p (take k xs)) (cond (p (get_or xs k d)) (Some (get_or xs k d)) None)
find_more p xs k d low = ap (find p) (take_more xs k d low) ∙ find-append p (take k xs) (get_or xs k d ∷ [])

-- ---- lists

pub find_agree : {A : Type 0} (f g : A → Bool) (xs : List A) → ((x : A) → f x ≡ g x) → find f xs ≡ find g xs
find_agree f g [] h = refl
find_agree f g (x ∷ xs) h = ap (λ b. cond b (Some x) (find f xs)) (h x) ∙ ap (λ o. cond (g x) (Some x) o) (find_agree f g xs h)

-- the first that passes of those that are kept
pub find_kept : {A : Type 0} (kept test : A → Bool) (xs : List A) → find test (filter kept xs) ≡ find (λ x. cond (kept x) (test x) false) xs
find_kept kept test [] = refl
find_kept {A} kept test (x ∷ xs) = by (kept x) (find_kept kept test xs)
  where
    by : (b : Bool) → find test (filter kept xs) ≡ find (λ y. cond (kept y) (test y) false) xs
        → find test (cond b (x ∷ filter kept xs) (filter kept xs)) ≡ cond (cond b (test x) false) (Some x) (find (λ y. cond (kept y) (test y) false) xs)
    by true rest = ap (λ o. cond (test x) (Some x) o) rest
    by false rest = rest

pub none_left : (f : ℕ → Bool) (xs : List ℕ) → list_all f xs ≡ is_none (find (λ n. not (f n)) xs)
none_left f [] = refl
none_left f (x ∷ xs) = by (f x) (none_left f xs)
  where
    by : (b : Bool) → list_all f xs ≡ is_none (find (λ n. not (f n)) xs) → (b && list_all f xs) ≡ is_none (cond (not b) (Some x) (find (λ n. not (f n)) xs))
    by true later = later
    by false later = refl
