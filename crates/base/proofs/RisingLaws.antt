-- Ranges of numbers, and numbers that rise.
use Rattle.std.proofs.Common.{◌≡◌, ℕ, zero, suc, ◌+◌, ◌<◌, List, [], ◌∷◌, ◌++◌, length, get_or, ◌∙◌, ap, add-one, arith, inl, inr, All, subst}
use Rattle.std.specs.List.{range_with_len}
use Rattle.std.specs.List.Sorted.{IsStrictlyIncreasing}
use Rattle.std.proofs.lemmas.Bool.{cases_lt}
use Rattle.std.proofs.lemmas.List.{get_or_append_left, get_or_push, length-append}
use Rattle.std.specs.Prelude.{Contains}
use Rattle.std.proofs.lemmas.List.Kept.{AllPairs-from_increasing}
use Rattle.base.proofs.OrderedLaws.{one_order}

-- the first places, and one more
range_more : (a n : ℕ) → range_with_len a (suc n) ≡ range_with_len a n ++ (a + n) ∷ []
range_more a zero = let e : a ≡ a + 0 = omega arith in ap (λ x. x ∷ []) e
range_more a (suc n) =
    let shift : (a + 1) + n ≡ a + suc n = omega arith in
    ap (λ t. a ∷ t) (range_more (a + 1) n ∙ ap (λ x. range_with_len (a + 1) n ++ x ∷ []) shift)

pub places_more : (n : ℕ) → range_with_len 0 (n + 1) ≡ range_with_len 0 n ++ n ∷ []
places_more n =
    let here : 0 + n ≡ n = omega arith in
    ap (range_with_len 0) (add-one n) ∙ range_more 0 n ∙ ap (λ k. range_with_len 0 n ++ k ∷ []) here

-- numbers that rise, and a greater one behind them
pub IsStrictlyIncreasing-push : (xs : List ℕ) (y : ℕ) → IsStrictlyIncreasing xs → All (λ x. x < y) xs → IsStrictlyIncreasing (xs ++ y ∷ [])
IsStrictlyIncreasing-push xs y rise below k h =
    let low : k + 1 < length xs + 1 = rw length-append at h in
    let here : get_or (xs ++ y ∷ []) k 0 ≡ get_or xs k 0 = get_or_append_left xs (y ∷ []) 0 k (omega arith) in
    elim (cases_lt (k + 1) (length xs)) [
      | inl inside ↦ rw (here, get_or_append_left xs (y ∷ []) 0 (k + 1) inside) (rise k inside)
      | inr last ↦
          let end : length xs ≡ k + 1 = omega arith in
          rw (here, get_or_push xs y 0 (k + 1) end) (below k 0 (omega arith))
    ]

pub rise_tail : (a : ℕ) (xs : List ℕ) → IsStrictlyIncreasing (a ∷ xs) → IsStrictlyIncreasing xs
rise_tail a xs h k low =
    let f : suc k + 1 ≡ suc (k + 1) = omega arith in
    subst (λ n. get_or xs k 0 < get_or (a ∷ xs) n 0) f (h (suc k) (omega (arith, low)))

pub rise_more : (a b : ℕ) (xs : List ℕ) → a < b → IsStrictlyIncreasing (b ∷ xs) → IsStrictlyIncreasing (a ∷ (b ∷ xs))
rise_more a b xs first rest zero low = first
rise_more a b xs first rest (suc k) low =
    let f : suc (k + 1) ≡ suc k + 1 = omega arith in
    let here : get_or (b ∷ xs) k 0 < get_or (b ∷ xs) (k + 1) 0 = rest k (omega (arith, low)) in
    subst (λ n. get_or (b ∷ xs) k 0 < get_or (a ∷ (b ∷ xs)) n 0) f here

pub rise_first : (a b : ℕ) (xs : List ℕ) → IsStrictlyIncreasing (a ∷ (b ∷ xs)) → a < b
rise_first a b xs h = h 0 (omega arith)

-- numbers that rise are told by which they are
pub one_rising :
    (xs ys : List ℕ) → IsStrictlyIncreasing xs → IsStrictlyIncreasing ys → ((n : ℕ) → Contains xs n → Contains ys n)
    → ((n : ℕ) → Contains ys n → Contains xs n) → xs ≡ ys
one_rising xs ys rise rise' all all' =
    one_order (λ (x y : ℕ). x < y) (λ x y low high. omega (arith, low, high)) xs ys (AllPairs-from_increasing xs rise) (AllPairs-from_increasing ys rise') all all'
