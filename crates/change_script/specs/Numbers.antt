-- To be believed (definitions.md).
-- Words that are numbers and integers, and their values.
use Rattle.std.specs.Prelude.{ℕ, ℤ, pos, neg_ℤ, Bool, false, ◌==◌, nat_le, if◌then◌else◌, List, [], ◌∷◌, drop, slice_index, Result, Ok, Err}
use Rattle.std.specs.List.{list_all}
use Rattle.std.specs.Char.{is_ascii_digit}
use Rattle.std.specs.Str.Parse.{digits_value}
use Rattle.change_script.specs.declared.error.LineFault.{LineFault}
use Rattle.change_script.specs.declared.error.LineFault.TheVariants.{Bad, Big}

-- one digit or more, and no sign
abbrev pub is_number : List ℕ → Bool
is_number [] = false
is_number (first ∷ rest) = list_all is_ascii_digit (first ∷ rest)

-- the value of a number, and whether it is at most 4,294,967,295
abbrev pub number : List ℕ → ℕ
number word = digits_value 10 word

abbrev pub number_fits : List ℕ → Bool
number_fits word = nat_le (number word) 4294967295

-- the value of a word that is a number, or what is wrong with the word
abbrev pub number_in : List ℕ → Result ℕ LineFault
number_in word = if is_number word then (if number_fits word then Ok (number word) else Err Big) else Err Bad

abbrev pub is_negative : List ℕ → Bool
is_negative word = slice_index word 0 == 45

-- a word without a leading `-`
abbrev pub magnitude : List ℕ → List ℕ
magnitude word = if is_negative word then drop 1 word else word

-- a `-` or none, and then a number
abbrev pub is_integer : List ℕ → Bool
is_integer word = is_number (magnitude word)

-- the value of an integer, and whether it is from -2,147,483,648 to 2,147,483,647
abbrev pub integer : List ℕ → ℤ
integer word = if is_negative word then neg_ℤ (pos (number (magnitude word))) else pos (number (magnitude word))

abbrev pub integer_fits : List ℕ → Bool
integer_fits word = nat_le (number (magnitude word)) (if is_negative word then 2147483648 else 2147483647)
