-- Lemmas on the part of a list that has a property.
use Rattle.std.proofs.Common.{◌≡◌, ℕ, zero, suc, ◌+◌, ◌<◌, ◌≤◌, List, [], ◌∷◌, ◌++◌, length, take, get_or, refl, sym, ap, subst, arith, sum_by, All, Contains, inl, inr}
use Rattle.std.specs.List.{range_with_len}
use Rattle.std.proofs.lemmas.List.{take_more}
use Rattle.std.proofs.lemmas.List.Elements.{All-cons, All-nil, Contains-append_right, Contains-get_or}
use Rattle.std.proofs.lemmas.List.Sums.{sum_by-cons}
use Rattle.change_plan.specs.Selects.{Selects}
use Rattle.change_plan.specs.Selects.Selects.{ends, takes, skips}
use Rattle.base.proofs.RisingLaws.{places_more}
use Rattle.base.specs.Telling.{CanTell}

-- one element more, which has the property
pub Selects-push : {A : Type 0} (P : A → Type 0) (x : A) → P x → (xs ys : List A) → Selects P xs ys → Selects P (xs ++ x ∷ []) (ys ++ x ∷ [])
Selects-push P x has all part ends = takes has ends
Selects-push P x has all part (takes {xs = xs} {ys = ys} h s) = takes h (Selects-push P x has xs ys s)
Selects-push P x has all part (skips {xs = xs} {ys = ys} h s) = skips h (Selects-push P x has xs ys s)

-- one element more, which lacks
pub Selects-pass : {A : Type 0} (P : A → Type 0) (x : A) → ¬ P x → (xs ys : List A) → Selects P xs ys → Selects P (xs ++ x ∷ []) ys
Selects-pass P x lacks all part ends = skips lacks ends
Selects-pass P x lacks all part (takes {xs = xs} {ys = ys} h s) = takes h (Selects-pass P x lacks xs ys s)
Selects-pass P x lacks all part (skips {xs = xs} {ys = ys} h s) = skips h (Selects-pass P x lacks xs ys s)

-- the first places, and one more
pub places_push : (P : ℕ → Type 0) (n : ℕ) (ys : List ℕ) → P n → Selects P (range_with_len 0 n) ys → Selects P (range_with_len 0 (n + 1)) (ys ++ n ∷ [])
places_push P n ys has s = subst (λ xs. Selects P xs (ys ++ n ∷ [])) (sym (places_more n)) (Selects-push P n has (range_with_len 0 n) ys s)

pub places_pass : (P : ℕ → Type 0) (n : ℕ) (ys : List ℕ) → ¬ P n → Selects P (range_with_len 0 n) ys → Selects P (range_with_len 0 (n + 1)) ys
places_pass P n ys lacks s = subst (λ xs. Selects P xs ys) (sym (places_more n)) (Selects-pass P n lacks (range_with_len 0 n) ys s)

-- the first elements, and one more
pub elements_push : {A : Type 0} (P : A → Type 0) (xs ys : List A) (n : ℕ) (d : A) → n < length xs → P (get_or xs n d) → Selects P (take n xs) ys → Selects P (take (n + 1) xs) (ys ++ get_or xs n d ∷ [])
elements_push P xs ys n d low has s =
    subst (λ zs. Selects P zs (ys ++ get_or xs n d ∷ [])) (sym (take_more xs n d low)) (Selects-push P (get_or xs n d) has (take n xs) ys s)

pub elements_pass : {A : Type 0} (P : A → Type 0) (xs ys : List A) (n : ℕ) (d : A) → n < length xs → ¬ P (get_or xs n d) → Selects P (take n xs) ys → Selects P (take (n + 1) xs) ys
elements_pass P xs ys n d low lacks s =
    subst (λ zs. Selects P zs ys) (sym (take_more xs n d low)) (Selects-pass P (get_or xs n d) lacks (take n xs) ys s)

-- the sum over a part is at most that over the whole
pub sum_by-Selects : {A : Type 0} (P : A → Type 0) (f : A → ℕ) (xs ys : List A) → Selects P xs ys → sum_by f ys ≤ sum_by f xs
sum_by-Selects P f all part ends = omega arith
sum_by-Selects P f all part (takes {x = x} {xs = xs} {ys = ys} h s) =
    let rest = sum_by-Selects P f xs ys s in
    omega (arith, rest, sum_by-cons f x xs, sum_by-cons f x ys)
sum_by-Selects P f all part (skips {x = x} {xs = xs} {ys = ys} h s) =
    let rest = sum_by-Selects P f xs ys s in
    omega (arith, rest, sum_by-cons f x xs)

-- a list has one part that has a property
pub Selects-one : {A : Type 0} (P : A → Type 0) (xs ys zs : List A) → Selects P xs ys → Selects P xs zs → ys ≡ zs
Selects-one P all ys zs ends ends = refl
Selects-one P all ys zs (takes {x = x} {xs = xs} {ys = us} has s) (takes {ys = ws} also t) =
    ap (λ vs. x ∷ vs) (Selects-one P xs us ws s t)
Selects-one P all ys zs (takes has s) (skips lacks t) = absurd (lacks has)
Selects-one P all ys zs (skips lacks s) (takes has t) = absurd (lacks has)
Selects-one P all ys zs (skips {xs = xs} lacks s) (skips also t) = Selects-one P xs ys zs s t

-- what a part has
pub Selects-only : {A : Type 0} (P : A → Type 0) (xs ys : List A) → Selects P xs ys → All P ys
Selects-only P all part ends = All-nil P
Selects-only P all part (takes {x = x} {xs = xs} {ys = ys} has s) = All-cons P x ys has (Selects-only P xs ys s)
Selects-only P all part (skips {xs = xs} {ys = ys} lacks s) = Selects-only P xs ys s

pub Selects-has : {A : Type 0} (P : A → Type 0) (xs ys : List A) → Selects P xs ys → (x : A) → Contains xs x → P x → Contains ys x
Selects-has P all part ends x there has = absurd (omega (arith, there.1))
Selects-has P all part (takes {x = y} {xs = xs} {ys = ys} first s) x (zero, low, same) has =
    subst (Contains (y ∷ ys)) same (Contains-get_or (y ∷ ys) 0 y (omega arith))
Selects-has P all part (takes {x = y} {xs = xs} {ys = ys} first s) x (suc k, low, same) has =
    Contains-append_right (y ∷ []) ys x (Selects-has P xs ys s x (k, omega arith, same) has)
Selects-has P all part (skips {x = y} lacks s) x (zero, low, same) has = absurd (lacks (subst P (sym same) has))
Selects-has P all part (skips {xs = xs} {ys = ys} lacks s) x (suc k, low, same) has = Selects-has P xs ys s x (k, omega arith, same) has

pub Selects-part : {A : Type 0} (P : A → Type 0) (xs ys : List A) → Selects P xs ys → (x : A) → Contains ys x → Contains xs x
Selects-part P all part ends x there = absurd (omega (arith, there.1))
Selects-part P all part (takes {x = y} {xs = xs} {ys = ys} first s) x (zero, low, same) =
    subst (Contains (y ∷ xs)) same (Contains-get_or (y ∷ xs) 0 y (omega arith))
Selects-part P all part (takes {x = y} {xs = xs} {ys = ys} first s) x (suc k, low, same) =
    Contains-append_right (y ∷ []) xs x (Selects-part P xs ys s x (k, omega arith, same))
Selects-part P all part (skips {x = y} {xs = xs} {ys = ys} lacks s) x there =
    Contains-append_right (y ∷ []) xs x (Selects-part P xs ys s x there)

-- a selection is no longer than what it is of
pub Selects-shorter : {A : Type 0} (P : A → Type 0) (xs ys : List A) → Selects P xs ys → length ys ≤ length xs
Selects-shorter P all part ends = omega arith
Selects-shorter P all part (takes {xs = xs} {ys = ys} has s) = let rest = Selects-shorter P xs ys s in omega (arith, rest)
Selects-shorter P all part (skips {xs = xs} {ys = ys} lacks s) = let rest = Selects-shorter P xs ys s in omega (arith, rest)

-- which elements of a list have a property that can be told
pub those_told : {A : Type 0} (P : A → Type 0) → ((x : A) → CanTell (P x)) → (xs : List A) → (ys : List A) × Selects P xs ys
those_told P tell [] = ([], ends)
those_told P tell (x ∷ xs) =
    let w = those_told P tell xs in
    elim (tell x) [ inl has ↦ (x ∷ w.0, takes has w.1) | inr lacks ↦ (w.0, skips lacks w.1) ]
