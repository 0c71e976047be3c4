-- Lists by the tests that their elements pass: all of them, some, and how many.
use Rattle.std.proofs.Common.{◌≡◌, ◌∙◌, ◌++◌, ℕ, ◌+◌, ◌<◌, ◌≤◌, Bool, true, false, cond, ◌||◌, slice_get, Some, List, [], ◌∷◌, refl, sym, ap, subst, zero-add, ⊎_elim, arith, Contains, suc, zero, ◌&&◌, map}
use Rattle.std.specs.List.{count_by, list_all, list_any, AllByRecursion}
use Rattle.std.proofs.lemmas.Bool.{and_parts, both_ways, eqb-true, or_cases, or_parts, and_from, or_left, or_right}
use Rattle.std.proofs.lemmas.Option.{same_Some, none-some}
use Rattle.std.specs.Prelude.{◌==◌, All, filter, flat_map}
use Rattle.std.proofs.lemmas.List.Sums.{sum_by-cons}
use Rattle.std.proofs.lemmas.List.Elements.{All-cons, All-head, All-nil, All-tail}
use Rattle.std.specs.Cmp.{first_so, second_so}
use Rattle.std.proofs.lemmas.List.Folds.{list_any-append}
use Rattle.base.proofs.ContainsLaws.{Contains-at, Contains-cons_cases, Contains-here, Contains-nil, Contains-there}

-- each of a list passes
pub all_have : {A : Type 0} (p : A → Bool) (xs : List A) → list_all p xs ≡ true → (x : A) → Contains xs x → p x ≡ true
all_have p [] h x there = absurd (Contains-nil x there)
all_have p (y ∷ xs) h x there =
    let w = and_parts (p y) (list_all p xs) h in
    ⊎_elim (λ (here : x ≡ y). ap p here ∙ w.0) (λ (later : Contains xs x). all_have p xs w.1 x later) (Contains-cons_cases y xs x there)

-- where one test is passed by all that pass another, it is passed by all of a list that pass the other
pub list_all-weaker : {A : Type 0} (p q : A → Bool) → ((x : A) → p x ≡ true → q x ≡ true) → (xs : List A) → list_all p xs ≡ true → list_all q xs ≡ true
list_all-weaker p q each [] all = refl
list_all-weaker p q each (x ∷ xs) all =
    let both = and_parts (p x) (list_all p xs) all in
    and_from (q x) (list_all q xs) (each x both.0) (list_all-weaker p q each xs both.1)

pub count_by-one : {A : Type 0} (p : A → Bool) (x : A) → count_by p (x ∷ []) ≡ cond (p x) 1 0
count_by-one p x = zero-add (cond (p x) 1 0)

pub count_by-cons : {A : Type 0} (p : A → Bool) (x : A) (xs : List A) → count_by p (x ∷ xs) ≡ cond (p x) 1 0 + count_by p xs
count_by-cons p x xs = sum_by-cons (λ y. cond (p y) 1 0) x xs

pub count_by-none : {A : Type 0} (p : A → Bool) (xs : List A) → list_any p xs ≡ false → count_by p xs ≡ 0
count_by-none p [] h = refl
count_by-none p (x ∷ xs) h =
    let w = or_parts (p x) (list_any p xs) h in
    omega (arith, count_by-cons p x xs, ap {B = ℕ} (λ b. cond b 1 0) w.0, count_by-none p xs w.1)

pub count_by-some : {A : Type 0} (p : A → Bool) (xs : List A) → list_any p xs ≡ true → 1 ≤ count_by p xs
count_by-some p [] h = absurd (both_ways false refl h)
count_by-some p (x ∷ xs) h =
    let one = count_by-cons p x xs in
    ⊎_elim (λ (here : p x ≡ true). omega (arith, one, ap {B = ℕ} (λ b. cond b 1 0) here))
    (λ (later : list_any p xs ≡ true). omega (arith, one, count_by-some p xs later)) (or_cases (p x) (list_any p xs) h)

-- where some are counted, one passes
pub counted_there : {A : Type 0} (p : A → Bool) (xs : List A) → 0 < count_by p xs → (x : A) × Contains xs x × (p x ≡ true)
counted_there p [] some = absurd (omega (arith, some))
counted_there {A = A} p (x ∷ xs) some = by (p x) refl (counted_there p xs) (subst (λ n. 0 < n) (count_by-cons p x xs) some)
  where
    by :
        (b : Bool) → p x ≡ b → (0 < count_by p xs → (y : A) × Contains xs y × (p y ≡ true)) → 0 < cond b 1 0 + count_by p xs
        → (y : A) × Contains (x ∷ xs) y × (p y ≡ true)
    by true passes later more = (x, Contains-here x xs, passes)
    by false fails later more = let w = later (omega (arith, more)) in (w.0, Contains-there x w.0 xs w.1, w.2)

-- where tests refute every case but one, it is the one that isn't refuted
pub one_left :
    {C : Type 0} (cases : List C) (place : C → ℕ) → ((c : C) → slice_get cases (place c) ≡ Some c) → (clear : C → Bool) (c : C)
    → list_all (λ d. place d == place c || clear d) cases ≡ true → (d : C) → (clear d ≡ true → ⊥) → d ≡ c
one_left cases place at_place clear c left d refuted =
    ⊎_elim
    (λ (same : (place d == place c) ≡ true). same_Some d c (sym (at_place d) ∙ ap (slice_get cases) (eqb-true (place d) (place c) same) ∙ at_place c))
    (λ (holds : clear d ≡ true). absurd (refuted holds))
    (or_cases (place d == place c) (clear d) (all_have (λ e. place e == place c || clear e) cases left d (Contains-at cases (place d) d (at_place d))))

-- what each of two lists has, each has of both together
pub AllByRecursion-append : {A : Type 0} (P : A → Type 0) (xs ys : List A) → AllByRecursion P xs → AllByRecursion P ys → AllByRecursion P (xs ++ ys)
AllByRecursion-append P [] ys these those = those
AllByRecursion-append P (x ∷ xs) ys these those = (these.0, AllByRecursion-append P xs ys these.1 those)

pub AllByRecursion-push : {A : Type 0} (P : A → Type 0) (xs : List A) (x : A) → AllByRecursion P xs → P x → AllByRecursion P (xs ++ x ∷ [])
AllByRecursion-push P xs x these one = AllByRecursion-append P xs (x ∷ []) these (one, tt)

-- what holds of all elements of a list holds of the last and of those before it
pub All-last : (P : ℕ → Type 0) (xs : List ℕ) (x : ℕ) → All P (xs ++ x ∷ []) → P x
All-last P [] x all = all 0 x (omega arith)
All-last P (y ∷ xs) x all = All-last P xs x (λ k d low. all (suc k) d (omega arith))

pub All-before_last : (P : ℕ → Type 0) (xs : List ℕ) (x : ℕ) → All P (xs ++ x ∷ []) → All P xs
All-before_last P [] x all = λ k d low. absurd (omega arith)
All-before_last P (y ∷ xs) x all =
    All-cons P y xs (all 0 y (omega arith)) (All-before_last P xs x (λ k d low. all (suc k) d (omega arith)))

pub list_all-at : {A : Type 0} (p : A → Bool) (xs : List A) (k : ℕ) (x : A) → list_all p xs ≡ true → slice_get xs k ≡ Some x → p x ≡ true
list_all-at p [] k x all at = absurd (none-some x at)
list_all-at p (y ∷ ys) zero x all at = subst (λ z. p z ≡ true) (same_Some y x at) (first_so (p y) (list_all p ys) all)
list_all-at p (y ∷ ys) (suc k) x all at = list_all-at p ys k x (second_so (p y) (list_all p ys) all) at

-- ---- views

pub all_into : {A : Type 0} (P Q : A → Type 0) (xs : List A) → ((x : A) → P x → Q x) → AllByRecursion P xs → AllByRecursion Q xs
all_into P Q [] f all = tt
all_into P Q (x ∷ xs) f all = (f x all.0, all_into P Q xs f all.1)

-- what all of a list that is put together have
pub all_parts : {A : Type 0} (P : A → Type 0) (xs ys : List A) → All P (xs ++ ys) → All P xs × All P ys
all_parts P [] ys h = (All-nil P, h)
all_parts P (x ∷ xs) ys h = let w = all_parts P xs ys (All-tail P x (xs ++ ys) h) in (All-cons P x xs (All-head P x (xs ++ ys) h) w.0, w.1)

pub kept_here : {A : Type 0} (t u : A → Bool) (x : A) (xs left : List A) (b d : Bool) → t x ≡ b → u x ≡ d → (list_any (λ y. t y && u y) xs ≡ true → list_any u left ≡ true)
    → list_any (λ y. t y && u y) (x ∷ xs) ≡ true → list_any u (cond b (x ∷ left) left) ≡ true
kept_here t u x xs left true true e f rest h = ap (λ b. b || list_any u left) f
kept_here t u x xs left true false e f rest h =
    ap (λ b. b || list_any u left) f
    ∙ rest (sym (ap (λ b. (b && u x) || list_any (λ y. t y && u y) xs) e ∙ ap (λ b. b || list_any (λ y. t y && u y) xs) f) ∙ h)
kept_here t u x xs left false d e f rest h = rest (sym (ap (λ b. (b && u x) || list_any (λ y. t y && u y) xs) e) ∙ h)

pub any_kept : {A : Type 0} (t u : A → Bool) (xs : List A) → list_any (λ x. t x && u x) xs ≡ true → list_any u (filter t xs) ≡ true
any_kept t u [] h = absurd (both_ways false refl h)
any_kept t u (x ∷ xs) h = kept_here t u x xs (filter t xs) (t x) (u x) refl refl (any_kept t u xs) h

-- tests that none of a list passes

pub none_both : {A : Type 0} (t : A → Bool) (xs ys : List A) → list_any t xs ≡ false → list_any t ys ≡ false → list_any t (xs ++ ys) ≡ false
none_both t xs ys a b = list_any-append t xs ys ∙ (λ i. a i || b i)

pub any_of_none : {A B : Type 0} (t : B → Bool) (f : A → B) → ((x : A) → t (f x) ≡ false) → (xs : List A) → list_any t (map f xs) ≡ false
any_of_none t f h [] = refl
any_of_none t f h (x ∷ xs) = (λ i. h x i || list_any t (map f xs)) ∙ any_of_none t f h xs

pub list_all_if : {A : Type 0} (p : A → Bool) (xs : List A) → ((x : A) → Contains xs x → p x ≡ true) → list_all p xs ≡ true
list_all_if p [] h = refl
list_all_if p (x ∷ xs) h = and_from (p x) (list_all p xs) (h x (Contains-here x xs)) (list_all_if p xs (λ y there. h y (Contains-there x y xs there)))

pub none_kept : {A : Type 0} (test keep : A → Bool) (xs : List A) → list_any test xs ≡ false → list_any test (filter keep xs) ≡ false
none_kept test keep [] h = refl
none_kept test keep (x ∷ xs) h =
    let parts = or_parts (test x) (list_any test xs) h in
    by (keep x) parts.0 (none_kept test keep xs parts.1)
  where
    by : (b : Bool) → test x ≡ false → list_any test (filter keep xs) ≡ false → list_any test (cond b (x ∷ filter keep xs) (filter keep xs)) ≡ false
    by true here rest = ap (λ b. b || list_any test (filter keep xs)) here ∙ rest
    by false here rest = rest

pub All-weaker : {A : Type 0} (P Q : A → Type 0) (xs : List A) → ((x : A) → P x → Q x) → All P xs → All Q xs
All-weaker P Q [] f h = All-nil Q
All-weaker P Q (x ∷ xs) f h = All-cons Q x xs (f x (All-head P x xs h)) (All-weaker P Q xs f (All-tail P x xs h))

-- ---- the node that is handed over, as the seat of its own and its line tell it

pub last_of_all : {A : Type 0} (P : A → Type 0) (xs : List A) (y : A) → AllByRecursion P (xs ++ y ∷ []) → P y
last_of_all P [] y all = all.0
last_of_all P (x ∷ xs) y all = last_of_all P xs y all.1

pub rotated : {A : Type 0} (P : A → Type 0) (x : A) (xs : List A) → AllByRecursion P (x ∷ xs) → AllByRecursion P (xs ++ x ∷ [])
rotated P x [] all = all
rotated P x (y ∷ ys) all = (all.1.0, rotated P x ys (all.0, all.1.1))

-- what holds of all that lists come to holds of each list
pub each_of : {A B : Type 0} (P : B → Type 0) (f : A → List B) (xs : List A) (k : ℕ) (x : A) → slice_get xs k ≡ Some x → AllByRecursion P (flat_map f xs) → AllByRecursion P (f x)
each_of P f [] k x at all = absurd (cc)
each_of {B = B} P f (y ∷ xs) zero x at all = subst (λ z. AllByRecursion P (f z)) (same_Some y x at) (front (f y) (flat_map f xs) all)
  where
    front : (ys zs : List B) → AllByRecursion P (ys ++ zs) → AllByRecursion P ys
    front [] zs all = tt
    front (a ∷ ys) zs all = (all.0, front ys zs all.1)
each_of {B = B} P f (y ∷ xs) (suc k) x at all = each_of P f xs k x at (back (f y) (flat_map f xs) all)
  where
    back : (ys zs : List B) → AllByRecursion P (ys ++ zs) → AllByRecursion P zs
    back [] zs all = all
    back (a ∷ ys) zs all = back ys zs all.1

pub any_parts : {A : Type 0} (t : A → Bool) (a b : List A) → list_any t (a ++ b) ≡ false → (list_any t a ≡ false) × (list_any t b ≡ false)
any_parts t a b h = or_parts (list_any t a) (list_any t b) (sym (list_any-append t a b) ∙ h)

pub there : {A : Type 0} (t : A → Bool) (front : List A) (x : A) (back : List A) → t x ≡ true → list_any t (front ++ x ∷ back) ≡ true
there t front x back h =
    list_any-append t front (x ∷ back) ∙ or_right (list_any t front) (list_any t (x ∷ back)) (or_left (t x) (list_any t back) h)

pub not_there : {A : Type 0} (t : A → Bool) (xs front : List A) (x : A) (back : List A) → list_any t xs ≡ false → t x ≡ true → xs ≡ front ++ x ∷ back → ⊥
not_there t xs front x back none h are = both_ways (list_any t xs) none (ap (list_any t) are ∙ there t front x back h)

-- what stands before and behind a place passes no test that none of all passes
pub none_beside : {A : Type 0} (t : A → Bool) (xs front : List A) (x : A) (back : List A) → list_any t xs ≡ false → xs ≡ front ++ x ∷ back
    → (list_any t front ≡ false) × (list_any t back ≡ false)
none_beside t xs front x back none are =
    let w = or_parts (list_any t front) (list_any t (x ∷ back)) (sym (list_any-append t front (x ∷ back)) ∙ ap (list_any t) (sym are) ∙ none) in
    (w.0, (or_parts (t x) (list_any t back) w.1).1)
