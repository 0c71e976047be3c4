-- The integers of a range, the first taken off.
use Rattle.std.proofs.Common.{◌≡◌, ◌∙◌, ℕ, zero, suc, ℤ, pos, negsuc, ◌+ℤ◌, ◌-ℤ◌, ◌≤ℤ◌, ◌∷◌, length, refl, ap, arith}
use Rattle.std.proofs.Math.IntN.{suc_ℤ, +ℤ_one}
use Rattle.std.proofs.lemmas.Int.{ints}
use Rattle.std.specs.Int.{int_gap}
use Rattle.darwin_walk.specs.Reached.{integers_from, integers_to}

gap-suc_ℤ : (a b : ℤ) → a ≤ℤ b → int_gap a (suc_ℤ b) ≡ suc (int_gap (suc_ℤ a) (suc_ℤ b))
gap-suc_ℤ (pos a) (pos b) le = omega (arith, ints)
gap-suc_ℤ (pos a) (negsuc b) le = absurd (omega (arith, ints))
gap-suc_ℤ (negsuc zero) (pos b) le = omega arith
gap-suc_ℤ (negsuc zero) (negsuc zero) le = omega arith
gap-suc_ℤ (negsuc zero) (negsuc (suc b)) le = absurd (omega (arith, ints))
gap-suc_ℤ (negsuc (suc a)) (pos b) le = omega arith
gap-suc_ℤ (negsuc (suc a)) (negsuc zero) le = omega arith
gap-suc_ℤ (negsuc (suc a)) (negsuc (suc b)) le = omega (arith, ints)

gap-one : (a b : ℤ) → a ≤ℤ b → int_gap a (b +ℤ pos 1) ≡ suc (int_gap (a +ℤ pos 1) (b +ℤ pos 1))
gap-one a b le = rw (+ℤ_one a, +ℤ_one b) (gap-suc_ℤ a b le)

pub integers_to-first : (a b : ℤ) → a ≤ℤ b → integers_to a b ≡ a ∷ integers_to (a +ℤ pos 1) b
integers_to-first a b le = ap (integers_from a) (gap-one a b le)

length-integers_from : (a : ℤ) (n : ℕ) → length (integers_from a n) ≡ n
length-integers_from a zero = refl
length-integers_from a (suc n) = ap suc (length-integers_from (a +ℤ pos 1) n)

gap-length : (a b : ℤ) → a ≤ℤ b → pos (int_gap a (suc_ℤ b)) ≡ b -ℤ a +ℤ pos 1
gap-length (pos a) (pos b) le = omega (arith, ints)
gap-length (pos a) (negsuc b) le = absurd (omega (arith, ints))
gap-length (negsuc a) (pos b) le = omega (arith, ints)
gap-length (negsuc a) (negsuc zero) le = omega (arith, ints)
gap-length (negsuc a) (negsuc (suc b)) le = omega (arith, ints)

-- how many integers a range has
pub integers_to-length : (a b : ℤ) → a ≤ℤ b → pos (length (integers_to a b)) ≡ b -ℤ a +ℤ pos 1
integers_to-length a b le =
    ap pos (length-integers_from a (int_gap a (b +ℤ pos 1)) ∙ ap (int_gap a) (+ℤ_one b)) ∙ gap-length a b le
