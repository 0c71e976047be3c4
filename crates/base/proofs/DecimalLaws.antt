-- Decimal numbers, digit by digit.
use Rattle.std.proofs.Common.{◌≡◌, ℕ, ◌+◌, ◌*◌, ◌<◌, ◌≤◌, true, List, length, get_or, take, arith, lit≤, ◌==◌, not}
use Rattle.std.specs.List.{AllPass}
use Rattle.std.specs.Char.{is_ascii_digit, digit_value}
use Rattle.std.specs.Str.Parse.{digits_value}
use Rattle.std.proofs.lemmas.Bool.Decides.{nat_tests}
use Rattle.std.proofs.lemmas.Int.Digits.{digits_value_more}
use Rattle.std.proofs.lemmas.Str.Parse.{digits_value-take-le}

digit_value-of_digit : (byte : ℕ) → is_ascii_digit byte ≡ true → (digit_value byte + 48 ≡ byte) × (digit_value byte < 10)
digit_value-of_digit byte digit = grind (arith, nat_tests)

-- One more digit is ten times the number before it and its own value, and no more than all the digits write.
pub digits_value_next : (digits : List ℕ) (i : ℕ) → AllPass is_ascii_digit digits → i < length digits
    → (digits_value 10 (take (i + 1) digits) + 48 ≡ digits_value 10 (take i digits) * 10 + get_or digits i 0) × (48 ≤ get_or digits i 0) × (get_or digits i 0 < 58) × (digits_value 10 (take (i + 1) digits) ≤ digits_value 10 digits)
digits_value_next digits i all within =
    let here = digit_value-of_digit (get_or digits i 0) (all i 0 within) in
    let more = digits_value_more 10 digits i within in
    (omega arith, omega arith, omega arith, digits_value-take-le 10 digits (i + 1) (lit≤ tt))

pub no_feed : (digit : ℕ) → not (48 + digit == 10) ≡ true
no_feed digit = grind (arith, nat_tests)
