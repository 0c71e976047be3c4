-- Parts of rising lists have no member twice.
use Rattle.std.proofs.Common.{◌≡◌, ℕ, zero, suc, ◌+◌, ◌≤◌, List, [], ◌∷◌, ⊎_elim, arith}
use Rattle.std.specs.List.{range_with_len}
use Rattle.change_plan.specs.Selects.{Selects}
use Rattle.change_plan.specs.Selects.Selects.{ends, takes, skips}
use Rattle.quiesce_laws.specs.Commits.{Differ}
use Rattle.quiesce_laws.specs.Lists.{Apart, In}

abbrev Rising : ℕ → List ℕ → Type 0
Rising a [] = Unit {0}
Rising a (x ∷ xs) = (a ≤ x) × Rising (x + 1) xs

rising_range : (a n : ℕ) → Rising a (range_with_len a n)
rising_range a zero = tt
rising_range a (suc n) = (omega arith, rising_range (a + 1) n)

rising_from : (a b : ℕ) (xs : List ℕ) → a ≤ b → Rising b xs → Rising a xs
rising_from a b [] l h = tt
rising_from a b (x ∷ xs) l h = (let k = h.0 in omega arith, h.1)

rising_part : (P : ℕ → Type 0) (xs ys : List ℕ) → Selects P xs ys → (a : ℕ) → Rising a xs → Rising a ys
rising_part P all part ends a h = tt
rising_part P all part (takes {x = x} {xs = xs} {ys = ys} has s) a h = (h.0, rising_part P xs ys s (x + 1) h.1)
rising_part P all part (skips {x = x} {xs = xs} {ys = ys} lacks s) a h = rising_part P xs ys s a (rising_from a (x + 1) xs (let k = h.0 in omega arith) h.1)

rising_above : (a : ℕ) (xs : List ℕ) → Rising a xs → (y : ℕ) → In xs y → a ≤ y
rising_above a [] h y i = absurd i
rising_above a (x ∷ xs) h y i = ⊎_elim
    (λ (here : x ≡ y). let k = h.0 in omega (arith, here))
    (λ (later : In xs y). let m = rising_above (x + 1) xs h.1 y later in let k = h.0 in omega arith) i

rising_apart : (a : ℕ) (xs : List ℕ) → Rising a xs → Apart Differ xs
rising_apart a [] h = tt
rising_apart a (x ∷ xs) h = (λ y i same. (let m = rising_above (x + 1) xs h.1 y i in absurd (omega (arith, same))), rising_apart (x + 1) xs h.1)

pub selects_apart : (P : ℕ → Type 0) (n : ℕ) (js : List ℕ) → Selects P (range_with_len 0 n) js → Apart Differ js
selects_apart P n js s = rising_apart 0 js (rising_part P (range_with_len 0 n) js s 0 (rising_range 0 n))
