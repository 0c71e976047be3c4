use Rattle.std.proofs.Common.{◌≡◌, ℤ, pos, negsuc, ◌+ℤ◌, ◌≤ℤ◌, ◌∷◌, FitsSigned, arith, rules}
use Rattle.std.specs.Int.{w32, w64, cast_signed, cast_unsigned}
use Rattle.std.proofs.lemmas.Int.{to_z-of_z, ints}
use Rattle.darwin_walk.specs.Reached.{integers_to}
use Rattle.darwin_walk.proofs.IntegerLemmas.{integers_to-first}
use Rattle.darwin_walk.proofs.walking.Integers.take_next.Goals as goal

-- the first integer and the ends fit their types
taken :
    (low high : ℤ) → negsuc 2147483647 ≤ℤ low → high ≤ℤ pos 2147483647 → low ≤ℤ high
    → integers_to low high
    ≡ cast_signed w32 (cast_unsigned w32 (cast_signed w64 (cast_unsigned w64 low)))
    ∷ integers_to (cast_signed w64 (cast_unsigned w64 (cast_signed w64 (cast_unsigned w64 low) +ℤ pos 1))) high
taken low high above below le =
    let narrow : FitsSigned w32 low = omega (arith, ints) in
    let wide : FitsSigned w64 low = omega (arith, ints) in
    let after : FitsSigned w64 (low +ℤ pos 1) = omega (arith, ints) in
    rw (to_z-of_z w64 low wide, to_z-of_z w32 low narrow, to_z-of_z w64 (low +ℤ pos 1) after) (integers_to-first low high le)

pub returns-clause-taken : goal.returns-clause-taken
returns-clause-taken c =
    taken _ _ c.args.self.now.above c.args.self.now.below (search (rules, ints, to_z-of_z))
