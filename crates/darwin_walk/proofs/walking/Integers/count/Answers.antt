use Rattle.std.proofs.Common.{◌≡◌, ℤ, pos, negsuc, ◌+ℤ◌, ◌-ℤ◌, ◌≤ℤ◌, FitsSigned, length, sym, ap, arith, rules}
use Rattle.std.proofs.Math.IntN.{nat_abs}
use Rattle.std.specs.Int.{w64, cast_signed, cast_unsigned}
use Rattle.std.proofs.lemmas.Int.{to_z-of_z, ints}
use Rattle.darwin_walk.specs.Reached.{integers_to}
use Rattle.darwin_walk.proofs.IntegerLemmas.{integers_to-length}
use Rattle.darwin_walk.proofs.walking.Integers.count.Goals as goal

-- the ends and their difference fit their type
counted :
    (low high : ℤ) → negsuc 2147483647 ≤ℤ low → high ≤ℤ pos 2147483647 → low ≤ℤ high
    → nat_abs (cast_signed w64 (cast_unsigned w64 (cast_signed w64 (cast_unsigned w64 (cast_signed w64 (cast_unsigned w64 high) -ℤ cast_signed w64 (cast_unsigned w64 low))) +ℤ pos 1)))
    ≡ length (integers_to low high)
counted low high above below le =
    let wide_low : FitsSigned w64 low = omega (arith, ints) in
    let wide_high : FitsSigned w64 high = omega (arith, ints) in
    let apart : FitsSigned w64 (high -ℤ low) = omega (arith, ints) in
    let more : FitsSigned w64 (high -ℤ low +ℤ pos 1) = omega (arith, ints) in
    rw (to_z-of_z w64 low wide_low, to_z-of_z w64 high wide_high, to_z-of_z w64 (high -ℤ low) apart, to_z-of_z w64 (high -ℤ low +ℤ pos 1) more)
    (ap nat_abs (sym (integers_to-length low high le)))

pub returns-else-self : goal.returns-else-self
returns-else-self c =
    counted _ _ c.args.self.now.above c.args.self.now.below (search (rules, ints, to_z-of_z))
