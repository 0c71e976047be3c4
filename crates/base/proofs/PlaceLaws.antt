-- The elements of lists by their places, in lists that are put together, grow or change.
use Rattle.std.proofs.Common.{◌≡◌, ◌≢◌, ℕ, ◌≤◌, ◌<◌, zero, suc, List, [], ◌∷◌, ◌++◌, Some, length, set, refl, ap, sym, subst, ◌∙◌, arith, inl, inr, ◌⊎◌, ◌+◌, map, ◌-◌, get_or, replicate, ⊎_elim, add-zero, Bool, true, false, All, Option, None, IfSome}
use Rattle.std.proofs.Common.{take, drop}
use Rattle.std.proofs.lemmas.Grind.{common_steps}
use Rattle.std.specs.List.{slice_get, enumerate_from, list_any}
use Rattle.std.proofs.lemmas.Option.{none-some, same_Some, slice_get_within, get_or_from_slice_get, slice_get-get_or, slice_get_read}
use Rattle.std.proofs.lemmas.Bool.{cases_lt, both_ways, or_cases}
use Rattle.std.proofs.lemmas.List.{get_or_past, get_or_append_left, get_or-append_right, take_more, append-nil, drop_all, take_all, drop_more}

-- ---- elements by their places

-- lists that are the same begin with the same element, and go on alike
pub heads_are : {A : Type 0} (x y : A) (xs ys : List A) → x ∷ xs ≡ y ∷ ys → x ≡ y
heads_are x y xs ys is = cc

pub tails_are : {A : Type 0} (x y : A) (xs ys : List A) → x ∷ xs ≡ y ∷ ys → xs ≡ ys
tails_are x y xs ys is = cc

-- one place has one element
pub one_at : {A : Type 0} (xs : List A) (n : ℕ) (x y : A) → slice_get xs n ≡ Some x → slice_get xs n ≡ Some y → x ≡ y
one_at xs n x y is is' = same_Some x y (sym is ∙ is')

pub slice_get-front : {A : Type 0} (xs ys : List A) (a : ℕ) (x : A) → slice_get xs a ≡ Some x → slice_get (xs ++ ys) a ≡ Some x
slice_get-front [] ys a x at = absurd (none-some x at)
slice_get-front (y ∷ xs) ys zero x at = at
slice_get-front (y ∷ xs) ys (suc a) x at = slice_get-front xs ys a x at

pub slice_get-last : {A : Type 0} (xs : List A) (y : A) → slice_get (xs ++ y ∷ []) (length xs) ≡ Some y
slice_get-last [] y = refl
slice_get-last (x ∷ xs) y = slice_get-last xs y

-- past a list with one more there is nothing
pub slice_get-snoc : {A : Type 0} (xs : List A) (x y : A) (i : ℕ) → slice_get (xs ++ x ∷ []) i ≡ Some y → ((i < length xs) × (slice_get xs i ≡ Some y)) ⊎ ((i ≡ length xs) × (x ≡ y))
slice_get-snoc [] x y zero h = inr (refl, cc)
slice_get-snoc [] x y (suc i) h = absurd (cc)
slice_get-snoc (z ∷ xs) x y zero h = inl (omega arith, h)
slice_get-snoc (z ∷ xs) x y (suc i) h =
    elim (slice_get-snoc xs x y i h) [ inl before ↦ inl (omega (arith, before.0), before.1) | inr last ↦ inr (omega (arith, last.0), last.1) ]

pub slice_get-push_cases : {A : Type 0} (xs : List A) (y : A) (a : ℕ) (x : A) → slice_get (xs ++ y ∷ []) a ≡ Some x → (slice_get xs a ≡ Some x) ⊎ ((a ≡ length xs) × (y ≡ x))
slice_get-push_cases xs y a x at = elim (slice_get-snoc xs y x a at) [ inl before ↦ inl before.1 | inr last ↦ inr last ]

pub slice_get-set_same : {A : Type 0} (xs : List A) (k : ℕ) (v : A) → k < length xs → slice_get (set xs k v) k ≡ Some v
slice_get-set_same [] k v within = absurd (omega arith)
slice_get-set_same (x ∷ xs) zero v within = refl
slice_get-set_same (x ∷ xs) (suc k) v within = slice_get-set_same xs k v (omega arith)

pub slice_get-set_cases : {A : Type 0} (xs : List A) (k : ℕ) (v : A) (a : ℕ) (x : A) → slice_get (set xs k v) a ≡ Some x → ((a ≡ k) × (v ≡ x)) ⊎ (slice_get xs a ≡ Some x)
slice_get-set_cases [] k v a x at = inr at
slice_get-set_cases (y ∷ xs) zero v zero x at = inl (refl, same_Some v x at)
slice_get-set_cases (y ∷ xs) zero v (suc a) x at = inr at
slice_get-set_cases (y ∷ xs) (suc k) v zero x at = inr at
slice_get-set_cases (y ∷ xs) (suc k) v (suc a) x at =
    elim (slice_get-set_cases xs k v a x at) [ inl same ↦ inl (ap suc same.0, same.1) | inr there ↦ inr there ]

pub slice_get-set_other : {A : Type 0} (xs : List A) (k : ℕ) (v : A) (a : ℕ) → a ≢ k → slice_get (set xs k v) a ≡ slice_get xs a
slice_get-set_other [] k v a other = refl
slice_get-set_other (y ∷ xs) zero v zero other = absurd (other refl)
slice_get-set_other (y ∷ xs) zero v (suc a) other = refl
slice_get-set_other (y ∷ xs) (suc k) v zero other = refl
slice_get-set_other (y ∷ xs) (suc k) v (suc a) other = slice_get-set_other xs k v a (λ same. other (ap suc same))

pub slice_get-append_cases :
    {A : Type 0} (xs ys : List A) (a : ℕ) (x : A) → slice_get (xs ++ ys) a ≡ Some x
    → (slice_get xs a ≡ Some x) ⊎ ((b : ℕ) × (a ≡ length xs + b) × (slice_get ys b ≡ Some x))
slice_get-append_cases [] ys a x at = inr (a, omega arith, at)
slice_get-append_cases (z ∷ xs) ys zero x at = inl at
slice_get-append_cases (z ∷ xs) ys (suc a) x at =
    elim (slice_get-append_cases xs ys a x at) [ inl there ↦ inl there | inr more ↦ inr (more.0, omega (arith, more.1), more.2) ]

pub slice_get-there : {A : Type 0} (xs : List A) (a : ℕ) → a < length xs → (x : A) × (slice_get xs a ≡ Some x)
slice_get-there [] a within = absurd (omega (arith, within))
slice_get-there (x ∷ xs) zero within = (x, refl)
slice_get-there (x ∷ xs) (suc a) within = slice_get-there xs a (omega (arith, within))

pub slice_get-before : {A : Type 0} (xs ys : List A) (a : ℕ) (x : A) → a < length xs → slice_get (xs ++ ys) a ≡ Some x → slice_get xs a ≡ Some x
slice_get-before xs ys a x within at =
    elim (slice_get-append_cases xs ys a x at) [ inl there ↦ there | inr more ↦ absurd (omega (arith, more.1)) ]

pub slice_get-after : {A : Type 0} (xs ys : List A) (a b : ℕ) (x : A) → a ≡ length xs + b → slice_get (xs ++ ys) a ≡ Some x → slice_get ys b ≡ Some x
slice_get-after xs ys a b x is at =
    elim (slice_get-append_cases xs ys a x at) [
      | inl there ↦ absurd (omega (arith, slice_get_within xs a x there))
      | inr more ↦ subst (λ c. slice_get ys c ≡ Some x) (omega (arith, more.1)) more.2
    ]

pub slice_get-behind : {A : Type 0} (xs ys : List A) (b : ℕ) (x : A) → slice_get ys b ≡ Some x → slice_get (xs ++ ys) (length xs + b) ≡ Some x
slice_get-behind [] ys b x at = subst (λ c. slice_get ys c ≡ Some x) (omega arith) at
slice_get-behind (z ∷ xs) ys b x at = subst (λ c. slice_get (z ∷ xs ++ ys) c ≡ Some x) (shifted (length xs) b) (slice_get-behind xs ys b x at)
  where
    shifted : (n b : ℕ) → suc (n + b) ≡ suc n + b
    shifted n b = omega arith

pub slice_get-map_some : {A B : Type 0} (f : A → B) (xs : List A) (a : ℕ) (y : B) → slice_get (map f xs) a ≡ Some y → (x : A) × (slice_get xs a ≡ Some x) × (f x ≡ y)
slice_get-map_some f [] a y at = absurd (none-some y at)
slice_get-map_some f (x ∷ xs) zero y at = (x, refl, same_Some (f x) y at)
slice_get-map_some f (x ∷ xs) (suc a) y at = slice_get-map_some f xs a y at

pub slice_get-map_at : {A B : Type 0} (f : A → B) (xs : List A) (a : ℕ) (x : A) → slice_get xs a ≡ Some x → slice_get (map f xs) a ≡ Some (f x)
slice_get-map_at f [] a x at = absurd (none-some x at)
slice_get-map_at f (y ∷ xs) zero x at = ap Some (ap f (same_Some y x at))
slice_get-map_at f (y ∷ xs) (suc a) x at = slice_get-map_at f xs a x at

pub slice_get-append_front : {A : Type 0} (xs ys : List A) (i : ℕ) → i < length xs → slice_get (xs ++ ys) i ≡ slice_get xs i
slice_get-append_front [] ys i h = absurd (omega arith)
slice_get-append_front (x ∷ xs) ys zero h = refl
slice_get-append_front (x ∷ xs) ys (suc i) h = slice_get-append_front xs ys i (omega arith)

-- what is made is fresh, as what was not made is

replicated : {A : Type 0} (x : A) (k q : ℕ) → get_or (replicate k x) q x ≡ x
replicated x zero q = refl
replicated x (suc k) zero = refl
replicated x (suc k) (suc q) = replicated x k q

pub fresh_behind : {A : Type 0} (xs : List A) (x : A) (k q : ℕ) → get_or (xs ++ replicate k x) q x ≡ get_or xs q x
fresh_behind xs x k q = ⊎_elim
    (λ (within : q < length xs). get_or_append_left xs (replicate k x) x q within)
    (λ (past : length xs ≤ q).
    get_or-append_right xs (replicate k x) (length xs) q x refl past ∙ replicated x k (q - length xs) ∙ sym (get_or_past xs q x past))
    (cases_lt q (length xs))

-- what the code's `&xs[i..]` is
pub rest_is : (xs : List ℕ) (i : ℕ) → i ≤ length xs → take (length xs - i) (drop i xs) ≡ drop i xs
rest_is xs i within = grind (arith, common_steps)

-- one more of the numbers at the front of a list
pub taken_more : (xs ys : List ℕ) (i x : ℕ) → slice_get xs i ≡ Some x → ys ≡ take i xs → ys ++ x ∷ [] ≡ take (i + 1) xs
taken_more xs ys i x there so_far =
    ap (λ zs. zs ++ x ∷ []) so_far ∙ ap (λ y. take i xs ++ y ∷ []) (sym (get_or_from_slice_get xs i x x there)) ∙ sym (take_more xs i x (slice_get_within xs i x there))

-- ---- places of a list

pub own_place : {A : Type 0} (ys xs : List A) (x : A) → slice_get (ys ++ x ∷ xs) (length ys) ≡ Some x
own_place ys xs x =
    let e : length ys + 0 ≡ length ys = omega arith in
    ap (slice_get (ys ++ x ∷ xs)) (sym e) ∙ slice_get-behind ys (x ∷ xs) 0 x refl

-- what is read at the places of a move
pub read_entry : {A : Type 0} (xs : List A) (i : ℕ) (x d : A) → i < length xs → x ≡ get_or xs i x → get_or xs i d ≡ x
read_entry xs i x d low x_is = get_or_from_slice_get xs i x d (slice_get-get_or xs i x low ∙ ap Some (sym x_is))

pub slice_get-append_back : {A : Type 0} (xs ys : List A) (i j : ℕ) → i ≡ length xs + j → slice_get (xs ++ ys) i ≡ slice_get ys j
slice_get-append_back [] ys i j h = let e : i ≡ j = omega arith in ap (slice_get ys) e
slice_get-append_back (x ∷ xs) ys zero j h = absurd (omega arith)
slice_get-append_back (x ∷ xs) ys (suc i) j h = slice_get-append_back xs ys i j (omega arith)

-- ---- an element that stands twice

pub split_at : {A : Type 0} (xs : List A) (a : ℕ) (x : A) → slice_get xs a ≡ Some x → (before : List A) × (after : List A) × (xs ≡ before ++ x ∷ after)
split_at [] a x at = absurd (none-some x at)
split_at (y ∷ xs) zero x at = ([], xs, ap (λ z. z ∷ xs) (same_Some y x at))
split_at (y ∷ xs) (suc a) x at = let w = split_at xs a x at in (y ∷ w.0, w.1, ap (λ zs. y ∷ zs) w.2)

-- a value that the code read
pub value_read : {A : Type 0} (xs : List A) (k : ℕ) (v : A) → k < length xs → v ≡ get_or xs k v → slice_get xs k ≡ Some v
value_read xs k v within read = slice_get_read xs _ k v refl within read

pub get_numbered : {A : Type 0} (k : ℕ) (xs : List A) (i : ℕ) (x : A) → slice_get xs i ≡ Some x → slice_get (enumerate_from k xs) i ≡ Some (k + i, x)
get_numbered k [] i x h = absurd (cc)
get_numbered k (y ∷ xs) zero x h = let e : y ≡ x = cc in rw (add-zero, e) refl
get_numbered k (y ∷ xs) (suc i) x h = get_numbered (k + 1) xs i x h ∙ ap (λ j. Some (j, x)) (omega arith)

pub any_there : {A : Type 0} (f : A → Bool) (xs : List A) → list_any f xs ≡ true → (i : ℕ) × (x : A) × (slice_get xs i ≡ Some x) × (f x ≡ true)
any_there f [] h = absurd (both_ways false refl h)
any_there f (x ∷ xs) h = ⊎_elim
    (λ (here : f x ≡ true). (0, x, refl, here))
    (λ (later : list_any f xs ≡ true). let w = any_there f xs later in (suc w.0, w.1, w.2, w.3))
    (or_cases (f x) (list_any f xs) h)

-- lists that grow at their end

pub numbered_snoc : {A : Type 0} (k : ℕ) (xs : List A) (x : A) → enumerate_from k (xs ++ x ∷ []) ≡ enumerate_from k xs ++ (k + length xs, x) ∷ []
numbered_snoc k [] x = ap (λ i. (i, x) ∷ []) (omega arith)
numbered_snoc k (y ∷ xs) x =
    ap (λ ys. (k, y) ∷ ys) (numbered_snoc (k + 1) xs x ∙ ap (λ i. enumerate_from (k + 1) xs ++ (i, x) ∷ []) (omega arith))

-- what each element has, an element that is read has
pub IfSome-read : {A : Type 0} (P : A → Type 0) (xs : List A) (i : ℕ) (r : Option A) → r ≡ slice_get xs i → All P xs → IfSome r P
IfSome-read P xs i None e all = tt
IfSome-read P xs i (Some x) e all =
    subst P (get_or_from_slice_get xs i x x (sym e)) (all i x (slice_get_within xs i x (sym e)))

-- an element that is read from a copy of a list
pub read_at : {A : Type 0} (copy xs : List A) (i : ℕ) (x : A) → copy ≡ xs → i < length copy → x ≡ get_or copy i x → slice_get xs i ≡ Some x
read_at copy xs i x copy_is low x_is =
    ap (λ l. slice_get l i) (sym copy_is) ∙ slice_get-get_or copy i x low ∙ ap Some (sym x_is)

-- an element of a list that is put together stands in the first part or in the second
pub parted_at : {A : Type 0} (x : List A) (e : A) (y b a : List A) → x ++ e ∷ y ≡ b ++ a → ((z : List A) × (b ≡ x ++ e ∷ z)) ⊎ ((z : List A) × (a ≡ z ++ e ∷ y) × (x ≡ b ++ z))
parted_at [] e y [] a h = inr ([], sym h, refl)
parted_at [] e y (c ∷ b) a h = inl (b, ap (λ k. k ∷ b) (sym (heads_are e c y (b ++ a) h)))
parted_at (d ∷ x) e y [] a h = inr (d ∷ x, sym h, refl)
parted_at {A} (d ∷ x) e y (c ∷ b) a h = by (heads_are d c (x ++ e ∷ y) (b ++ a) h) (parted_at x e y b a (tails_are d c (x ++ e ∷ y) (b ++ a) h))
  where
    by : d ≡ c → ((z : List A) × (b ≡ x ++ e ∷ z)) ⊎ ((z : List A) × (a ≡ z ++ e ∷ y) × (x ≡ b ++ z))
        → ((z : List A) × (c ∷ b ≡ (d ∷ x) ++ e ∷ z)) ⊎ ((z : List A) × (a ≡ z ++ e ∷ y) × (d ∷ x ≡ (c ∷ b) ++ z))
    by same (inl (z, is)) = inl (z, ap (λ k. k ∷ b) (sym same) ∙ ap (λ ks. d ∷ ks) is)
    by same (inr (z, is, front)) = inr (z, is, ap (λ k. k ∷ x) same ∙ ap (λ ks. c ∷ ks) front)

pub next_of : {A : Type 0} (xs : List A) (i : ℕ) (x : A) → slice_get xs i ≡ Some x → take (i + 1) xs ≡ take i xs ++ x ∷ []
next_of xs i x at = take_more xs i x (slice_get_within xs i x at) ∙ ap (λ z. take i xs ++ z ∷ []) (get_or_from_slice_get xs i x x at)

pub took_more : {A : Type 0} (xs : List A) (i : ℕ) (x : A) (old new : List A) → slice_get xs i ≡ Some x → old ≡ take i xs → new ≡ old ++ x ∷ [] → new ≡ take (i + 1) xs
took_more xs i x old new at so_far grown = grown ∙ ap (λ zs. zs ++ x ∷ []) so_far ∙ sym (next_of xs i x at)

pub slice_get-take : {A : Type 0} (xs : List A) (n i : ℕ) (x : A) → i < n → slice_get xs i ≡ Some x → slice_get (take n xs) i ≡ Some x
slice_get-take [] n i x low at = absurd (none-some x at)
slice_get-take (y ∷ xs) zero i x low at = absurd (omega (arith, low))
slice_get-take (y ∷ xs) (suc n) zero x low at = at
slice_get-take (y ∷ xs) (suc n) (suc i) x low at = slice_get-take xs n i x (omega (arith, low)) at

pub slice_get-from_take : {A : Type 0} (xs : List A) (n i : ℕ) (x : A) → slice_get (take n xs) i ≡ Some x → (i < n) × (slice_get xs i ≡ Some x)
slice_get-from_take [] zero i x at = absurd (none-some x at)
slice_get-from_take [] (suc n) i x at = absurd (none-some x at)
slice_get-from_take (y ∷ xs) zero i x at = absurd (none-some x at)
slice_get-from_take (y ∷ xs) (suc n) zero x at = (omega arith, at)
slice_get-from_take (y ∷ xs) (suc n) (suc i) x at = let w = slice_get-from_take xs n i x at in (omega (arith, w.0), w.1)

-- a list that begins with two lists, of which one is longer
pub front_of_parts : {A : Type 0} (xs xs' ys ys' : List A) → xs ++ xs' ≡ ys ++ ys' → length xs ≤ length ys → take (length xs) ys ≡ xs
front_of_parts [] xs' ys ys' same few = refl
front_of_parts (x ∷ xs) xs' [] ys' same few = absurd (omega (arith, few))
front_of_parts (x ∷ xs) xs' (y ∷ ys) ys' same few = let head : x ≡ y = cc in let tail : xs ++ xs' ≡ ys ++ ys' = cc in
    ap (λ z. z ∷ take (length xs) ys) (sym head) ∙ ap (λ zs. x ∷ zs) (front_of_parts xs xs' ys ys' tail (omega (arith, few)))

pub parts_are : {A : Type 0} (xs xs' ys ys' : List A) → xs ++ xs' ≡ ys ++ ys' → length xs ≡ length ys → (xs ≡ ys) × (xs' ≡ ys')
parts_are [] xs' [] ys' same long = (refl, same)
parts_are [] xs' (y ∷ ys) ys' same long = absurd (omega (arith, long))
parts_are (x ∷ xs) xs' [] ys' same long = absurd (omega (arith, long))
parts_are (x ∷ xs) xs' (y ∷ ys) ys' same long = let head : x ≡ y = cc in let tail : xs ++ xs' ≡ ys ++ ys' = cc in
    let w = parts_are xs xs' ys ys' tail (omega (arith, long)) in ((λ n. head n ∷ w.0 n), w.1)

-- a list that is written back where it was
pub written_back : {A : Type 0} (new old : List A) (len : ℕ) → length new ≡ length old → len ≡ length old → take len (new ++ drop (length new) old) ≡ new
written_back {A = A} new old len long len_is =
    ap (λ (zs : List A). take len (new ++ zs)) (drop_all (length new) old (omega (arith, long))) ∙ ap (take len) (append-nil new) ∙ take_all len new (omega (arith, long, len_is))

pub take_front : {A : Type 0} (xs ys : List A) → take (length xs) (xs ++ ys) ≡ xs
take_front [] ys = refl
take_front (x ∷ xs) ys = ap (λ zs. x ∷ zs) (take_front xs ys)

-- a list, parted at one of its members
pub parted : {A : Type 0} (xs : List A) (n : ℕ) (x : A) → slice_get xs n ≡ Some x → take n xs ++ x ∷ drop (suc n) xs ≡ xs
parted [] zero x e = absurd (cc e)
parted [] (suc n) x e = absurd (cc e)
parted (y ∷ xs) zero x e = let same : x ≡ y = cc e in λ i. same i ∷ xs
parted (y ∷ xs) (suc n) x e = ap (λ zs. y ∷ zs) (parted xs n x e)

pub parted_at_last : {A : Type 0} (xs : List A) (n : ℕ) (x : A) → slice_get xs n ≡ Some x → length xs ≡ n + 1 → (earlier : List A) × (xs ≡ earlier ++ x ∷ [])
parted_at_last [] n x is long = absurd (none-some x is)
parted_at_last (y ∷ []) zero x is long = ([], ap (λ z. z ∷ []) (same_Some y x is))
parted_at_last (y ∷ z ∷ zs) zero x is long = absurd (omega (arith, long))
parted_at_last (y ∷ ys) (suc n) x is long = let rest = parted_at_last ys n x is (omega (arith, long)) in (y ∷ rest.0, ap (λ zs. y ∷ zs) rest.1)

-- ---- in either order

pub set-set_other : {A : Type 0} (xs : List A) (n m : ℕ) (a b : A) → (n ≡ m → ⊥) → set (set xs n a) m b ≡ set (set xs m b) n a
set-set_other [] n m a b two = refl
set-set_other (x ∷ xs) zero zero a b two = absurd (two refl)
set-set_other (x ∷ xs) zero (suc m) a b two = refl
set-set_other (x ∷ xs) (suc n) zero a b two = refl
set-set_other (x ∷ xs) (suc n) (suc m) a b two = ap (λ ys. x ∷ ys) (set-set_other xs n m a b (λ e. two (ap suc e)))

-- ---- what is told behind a place

pub front_at : {X : Type 0} (xs : List X) (i : ℕ) (x : X) → slice_get xs i ≡ Some x → drop i xs ≡ x ∷ drop (i + 1) xs
front_at xs i x at =
    drop_more xs i x (slice_get_within xs i x at) ∙ ap (λ y. y ∷ drop (i + 1) xs) (get_or_from_slice_get xs i x x at)

pub empty_behind : {X : Type 0} (xs : List X) (i : ℕ) → slice_get xs i ≡ None → drop i xs ≡ []
empty_behind xs i none =
    ⊎_elim (λ (low : i < length xs). let there = slice_get-there xs i low in let two : ◌≡◌ {A = Option _} (Some there.0) None = sym there.1 ∙ none in absurd (cc))
    (λ (le : length xs ≤ i). drop_all i xs le) (cases_lt i (length xs))
