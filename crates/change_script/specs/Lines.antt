-- To be believed (definitions.md).
-- The lines of a text, and which of them say something.
use Rattle.std.specs.Prelude.{ℕ, ◌+◌, ◌-◌, Bool, false, not, ◌==◌, ◌||◌, if◌then◌else◌, List, [], ◌∷◌, take, drop, length}
use Rattle.std.specs.List.{slice_split, prefix_len, suffix_len}

-- A line: its number, from 1, and its bytes without what is passed over at both ends.
pub record Line : Type 0 where
  pub number : ℕ
  pub bytes : List ℕ

-- Lines end with a line feed or the end of the text.
abbrev pub lines : List ℕ → List (List ℕ)
lines text = slice_split (λ byte. byte == 10) text

-- spaces, tabs and carriage returns, which are passed over at both ends of a line
abbrev pub is_margin : ℕ → Bool
is_margin byte = (byte == 32) || (byte == 9) || (byte == 13)

abbrev pub without_left_margin : List ℕ → List ℕ
without_left_margin line = drop (prefix_len is_margin line) line

abbrev pub without_right_margin : List ℕ → List ℕ
without_right_margin line = take (length line - suffix_len is_margin line) line

abbrev pub trimmed : List ℕ → List ℕ
trimmed line = without_right_margin (without_left_margin line)

-- A trimmed line says something where it isn't empty and doesn't begin with `#`.
abbrev pub is_statement : List ℕ → Bool
is_statement [] = false
is_statement (first ∷ rest) = not (first == 35)

-- the lines that say something, where the first is numbered so; the others count too
abbrev pub statements_of : ℕ → List (List ℕ) → List Line
statements_of number [] = []
statements_of number (line ∷ more) =
    if is_statement (trimmed line)
    then (record { number = number; bytes = trimmed line } ∷ statements_of (number + 1) more)
    else statements_of (number + 1) more

abbrev pub statements_from : ℕ → List ℕ → List Line
statements_from number text = statements_of number (lines text)

-- the lines of a text that say something
abbrev pub statements : List ℕ → List Line
statements text = statements_from 1 text
