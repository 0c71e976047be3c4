-- To be believed (definitions.md).
-- Numbers and integers as words write them: in decimal, without leading zeros.
use Rattle.std.specs.Prelude.{ℕ, ℤ, pos, neg_ℤ, Bool, false, not, ◌&&◌, ◌||◌, ◌==◌, nat_le, if◌then◌else◌, List, [], ◌∷◌, length, drop, slice_index, Option, Some, None, option_map}
use Rattle.std.specs.Option.{option_zip}
use Rattle.std.specs.List.{list_all}
use Rattle.std.specs.Char.{is_ascii_digit}
use Rattle.std.specs.Str.Parse.{digits_value}
use Rattle.report_lines.specs.Parts.{before, is_used_up}

-- one digit or more, the first of which is 0 only where it is the one digit
abbrev pub is_plain : List ℕ → Bool
is_plain [] = false
is_plain (first ∷ rest) = list_all is_ascii_digit (first ∷ rest) && (not (first == 48) || length (first ∷ rest) == 1)

abbrev pub within : ℕ → ℕ → Option ℕ
within most value = if nat_le value most then Some value else None

-- the number that a word writes, if it is at most `most`
abbrev pub plain : ℕ → List ℕ → Option ℕ
plain most word = if is_plain word then within most (digits_value 10 word) else None

abbrev pub max32 : ℕ
max32 = 4294967295

abbrev pub max64 : ℕ
max64 = 18446744073709551615

abbrev pub below_zero : Option ℕ → Option ℤ
below_zero None = None
below_zero (Some value) = if value == 0 then None else Some (neg_ℤ (pos value))

-- the integer that a word writes, behind a `-` where it is below 0
abbrev pub plain_integer : List ℕ → Option ℤ
plain_integer word = if slice_index word 0 == 45 then below_zero (plain 2147483648 (drop 1 word))
    else option_map pos (plain 2147483647 word)

-- the one, two or three numbers that words are
abbrev pub one_in : ℕ → List (List ℕ) → Option ℕ
one_in most [] = None
one_in most (first ∷ rest) = if is_used_up rest then plain most first else None

abbrev pub two_in : ℕ → List (List ℕ) → Option (ℕ × ℕ)
two_in most [] = None
two_in most (first ∷ rest) = option_zip (plain max32 first) (one_in most rest)

abbrev pub three_in : List (List ℕ) → Option (ℕ × ℕ × ℕ)
three_in [] = None
three_in (first ∷ rest) = before (plain max32 first) (two_in max32 rest)
