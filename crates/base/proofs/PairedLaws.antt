-- Lists stay paired while they grow, and where an element of the second changes.
use Rattle.std.proofs.Common.{◌≡◌, ◌∙◌, ℕ, zero, suc, ◌+◌, ◌<◌, List, [], ◌∷◌, ◌++◌, length, map, replicate, set, Some, sym, ap, refl, subst, arith}
use Rattle.std.specs.Prelude.{slice_get, slice_index_or}
use Rattle.std.proofs.lemmas.List.{map-append, replicate-append-replicate}
use Rattle.std.proofs.lemmas.Option.{same_Some, slice_get_within}
use Rattle.std.proofs.Math.Seq.{map-set_same}
use Rattle.base.proofs.PlaceLaws.{one_at}
use Rattle.base.specs.Paired.{Paired}

-- what is found at a place within the list is there
pub found_is_there : {X : Type 0} (xs : List X) (k : ℕ) (x : X) → k < length xs → x ≡ slice_index_or xs k x → slice_get xs k ≡ Some x
found_is_there [] k x within is = absurd (omega arith)
found_is_there (y ∷ ys) zero x within is = ap Some (sym is)
found_is_there (y ∷ ys) (suc k) x within is = found_is_there ys k x (omega arith) is

pub paired_set : {X Y : Type 0} (P : ℕ → X → Y → Type 0) (xs : List X) (ys : List Y) (n : ℕ) (new : Y) → Paired P xs ys → ((x : X) → slice_get xs n ≡ Some x → P n x new) → Paired P xs (set ys n new)
paired_set P xs [] n new h p k x y e e' = absurd (cc)
paired_set P [] (z ∷ zs) n new h p k x y e e' = absurd (cc)
paired_set P (w ∷ ws) (z ∷ zs) zero new h p zero x y e e' = subst (P 0 x) (same_Some new y e') (p x e)
paired_set P (w ∷ ws) (z ∷ zs) zero new h p (suc k) x y e e' = h (suc k) x y e e'
paired_set P (w ∷ ws) (z ∷ zs) (suc n) new h p zero x y e e' = h zero x y e e'
paired_set P (w ∷ ws) (z ∷ zs) (suc n) new h p (suc k) x y e e' = paired_set (λ j. P (suc j)) ws zs n new (λ j a b f f'. h (suc j) a b f f') p k x y e e'

pub paired_both : {X Y : Type 0} (P : ℕ → X → Y → Type 0) (xs : List X) (ys : List Y) (a : X) (b : Y) → length xs ≡ length ys → Paired P xs ys → P (length xs) a b → Paired P (xs ++ a ∷ []) (ys ++ b ∷ [])
paired_both P [] [] a b l h p zero x y e e' = subst (λ v. P 0 v y) (same_Some a x e) (subst (P 0 a) (same_Some b y e') p)
paired_both P [] [] a b l h p (suc k) x y e e' = absurd (cc)
paired_both P [] (z ∷ zs) a b l h p k x y e e' = absurd (omega arith)
paired_both P (w ∷ ws) [] a b l h p k x y e e' = absurd (omega arith)
paired_both P (w ∷ ws) (z ∷ zs) a b l h p zero x y e e' = h zero x y e e'
paired_both P (w ∷ ws) (z ∷ zs) a b l h p (suc k) x y e e' = paired_both (λ j. P (suc j)) ws zs a b (omega arith) (λ j u v f f'. h (suc j) u v f f') p k x y e e'

-- the second one longer, beside a first that reaches further
pub paired_second : {X Y : Type 0} (P : ℕ → X → Y → Type 0) (xs : List X) (ys : List Y) (a : X) (b : Y) → slice_get xs (length ys) ≡ Some a → Paired P xs ys → P (length ys) a b → Paired P xs (ys ++ b ∷ [])
paired_second P [] ys a b is h p k x y e e' = absurd (cc)
paired_second P (w ∷ ws) [] a b is h p zero x y e e' = subst (λ v. P 0 v y) (one_at (w ∷ ws) 0 a x is e) (subst (P 0 a) (same_Some b y e') p)
paired_second P (w ∷ ws) [] a b is h p (suc k) x y e e' = absurd (cc)
paired_second P (w ∷ ws) (z ∷ zs) a b is h p zero x y e e' = h zero x y e e'
paired_second P (w ∷ ws) (z ∷ zs) a b is h p (suc k) x y e e' = paired_second (λ j. P (suc j)) ws zs a b is (λ j u v f f'. h (suc j) u v f f') p k x y e e'

-- what is found at one place of both
module _ {X Y : Type 0} (P : ℕ → X → Y → Type 0) (xs : List X) (ys : List Y) (n : ℕ) (x : X) (y : Y) (h : Paired P xs ys) (within : n < length xs) (within' : n < length ys)
    (at : x ≡ slice_index_or xs n x) (at' : y ≡ slice_index_or ys n y) where
  pub here : P n x y
  here = h n x y (found_is_there xs n x within at) (found_is_there ys n y within' at')

  pub after : (new : Y) → P n x new → Paired P xs (set ys n new)
  after new p = paired_set P xs ys n new h (λ z e. subst (λ v. P n v new) (one_at xs n x z (found_is_there xs n x within at) e) p)

-- an element becomes one of which the same is seen
pub seen_same : {A B : Type 0} (see : A → B) (xs : List A) (n : ℕ) (x new : A) → x ≡ slice_index_or xs n x → see new ≡ see x → map see (set xs n new) ≡ map see xs
seen_same see xs n x new at same = map-set_same see xs n new x (same ∙ ap see at)

-- one element more of which the same is seen as of all others
pub seen_more : {A B : Type 0} (see : A → B) (u : B) (xs : List A) (x : A) (n : ℕ) → map see xs ≡ replicate n u → see x ≡ u → map see (xs ++ x ∷ []) ≡ replicate (n + 1) u
seen_more see u xs x n was is = map-append see xs (x ∷ []) ∙ (λ i. was i ++ is i ∷ []) ∙ replicate-append-replicate n 1 u

pub all_more : {A : Type 0} (u : A) (xs : List A) (x : A) (n : ℕ) → xs ≡ replicate (length xs) u → x ≡ u → length xs + 1 ≡ n → xs ++ x ∷ [] ≡ replicate n u
all_more u xs x n was is count = (λ i. was i ++ is i ∷ []) ∙ replicate-append-replicate (length xs) 1 u ∙ ap (λ k. replicate k u) count
