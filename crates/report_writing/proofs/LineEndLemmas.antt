-- The bytes of a line, put from the last to the first.
use Rattle.std.proofs.Common.{◌≡◌, ℕ, ◌+◌, ◌-◌, ◌^◌, ◌<◌, ◌≤◌, List, ◌∷◌, length, drop, decimal, slice_set, ap, ◌∙◌, arith}
use Rattle.std.proofs.lemmas.Fmt.{length-decimal-le}
use Rattle.std.proofs.lemmas.List.{drop-set}

pub length_number : (n : ℕ) → n < 2 ^ 64 → length (decimal n) ≤ 20
length_number n fits = length-decimal-le 20 n (omega arith) (omega arith) fits

-- a byte that is put in place of the last one before `at`
pub byte_put : (line : List ℕ) (at byte : ℕ) → 1 ≤ at → at ≤ length line → drop (at - 1) (slice_set line (at - 1) byte) ≡ byte ∷ drop at line
byte_put line at byte some within =
    let next : at - 1 + 1 ≡ at = omega arith in
    drop-set line (at - 1) byte (omega arith) ∙ ap (λ n. byte ∷ drop n line) next
