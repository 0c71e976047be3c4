-- The made script of each number of lanes is one, with the statements that are meant: each number is tried.
use Rattle.std.proofs.Common.{◌≡◌, ◌≤◌, ◌<◌, ◌⊎◌, inl, inr, ℕ, zero, suc, refl, subst, arith}
use Rattle.std.proofs.lemmas.Bool.{cases_lt}
use Rattle.std.specs.Char.{encode_utf8}
use Rattle.std.specs.Fmt.{digits}
use Rattle.std.specs.Str.{chars, is_utf8}
use Rattle.command_words.specs.BigFiles.{script}
use Rattle.change_script.specs.ScriptFiles.{IsScript}
use Rattle.command_spec.specs.MadeScripts.{made_script}

-- it holds of each number from 1 on
abbrev pub From1 : (ℕ → Type 0) → ℕ → Type 0
From1 P zero = Unit {0}
From1 P (suc n) = P (suc n) × From1 P n

one_of : (P : ℕ → Type 0) (n k : ℕ) → From1 P n → 1 ≤ k → k ≤ n → P k
one_of P zero k all low high = absurd (omega (arith, low, high))
one_of P (suc n) k all low high = by (λ less. one_of P n k all.1 low less) (cases_lt k (suc n))
  where
    by : (k ≤ n → P k) → (k < suc n) ⊎ (suc n ≤ k) → P k
    by below (inl less) = below (omega (arith, less))
    by below (inr last) = let same : suc n ≡ k = omega (arith, last, high) in subst P same all.0

-- it is such a script
abbrev pub IsMade : ℕ → Type 0
IsMade lanes = IsScript (script lanes) (made_script lanes)

-- one number more
one_more : (n : ℕ) → IsMade (suc n) → From1 IsMade n → From1 IsMade (suc n)
one_more n here below = (here, below)

up_to_10 : From1 IsMade 10
unfolding is_utf8 chars encode_utf8 digits
up_to_10 = one_more 9 (refl, refl) (one_more 8 (refl, refl) (one_more 7 (refl, refl) (one_more 6 (refl, refl) (one_more 5 (refl, refl) (one_more 4 (refl, refl) (one_more 3 (refl, refl) (one_more 2 (refl, refl) (one_more 1 (refl, refl) (one_more 0 (refl, refl) tt)))))))))

up_to_20 : From1 IsMade 20
unfolding is_utf8 chars encode_utf8 digits
up_to_20 = one_more 19 (refl, refl) (one_more 18 (refl, refl) (one_more 17 (refl, refl) (one_more 16 (refl, refl) (one_more 15 (refl, refl) (one_more 14 (refl, refl) (one_more 13 (refl, refl) (one_more 12 (refl, refl) (one_more 11 (refl, refl) (one_more 10 (refl, refl) up_to_10)))))))))

up_to_30 : From1 IsMade 30
unfolding is_utf8 chars encode_utf8 digits
up_to_30 = one_more 29 (refl, refl) (one_more 28 (refl, refl) (one_more 27 (refl, refl) (one_more 26 (refl, refl) (one_more 25 (refl, refl) (one_more 24 (refl, refl) (one_more 23 (refl, refl) (one_more 22 (refl, refl) (one_more 21 (refl, refl) (one_more 20 (refl, refl) up_to_20)))))))))

all_made : From1 IsMade 40
unfolding is_utf8 chars encode_utf8 digits
all_made = one_more 39 (refl, refl) (one_more 38 (refl, refl) (one_more 37 (refl, refl) (one_more 36 (refl, refl) (one_more 35 (refl, refl) (one_more 34 (refl, refl) (one_more 33 (refl, refl) (one_more 32 (refl, refl) (one_more 31 (refl, refl) (one_more 30 (refl, refl) up_to_30)))))))))

pub made : (lanes : ℕ) → 1 ≤ lanes → lanes ≤ 40 → IsScript (script lanes) (made_script lanes)
made lanes low high = one_of IsMade 40 lanes all_made low high
