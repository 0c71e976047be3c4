-- To be believed (definitions.md).
-- The parts of a text, which a byte parts: the words of a line, and what stands in parentheses.
use Rattle.std.specs.Prelude.{ℕ, ◌+◌, ◌==◌, Bool, true, false, if◌then◌else◌, List, [], ◌∷◌, length, Option, Some, None}
use Rattle.std.specs.List.{slice_split}

-- the parts of what is left; behind the last part nothing is
abbrev pub parts_left : ℕ → Option (List ℕ) → List (List ℕ)
parts_left at None = []
parts_left at (Some text) = slice_split (λ byte. byte == at) text

-- the words of a line, which one space parts
abbrev pub words : List ℕ → List (List ℕ)
words line = slice_split (λ byte. byte == 32) line

-- whether nothing is left
abbrev pub is_used_up : {A : Type 0} → List A → Bool
is_used_up [] = true
is_used_up (part ∷ more) = false

-- a value before two others, where all are there
abbrev pub before : {A B C : Type 0} → Option A → Option (B × C) → Option (A × B × C)
before None more = None
before (Some a) None = None
before (Some a) (Some more) = Some (a, more.0, more.1)

-- the two parts, where there are two
abbrev pub two_of : List (List ℕ) → Option (List ℕ × List ℕ)
two_of [] = None
two_of (first ∷ []) = None
two_of (first ∷ second ∷ more) = if is_used_up more then Some (first, second) else None

abbrev pub unless_more : List ℕ → List ℕ → List ℕ → Option (List ℕ × List ℕ)
unless_more name inside behind = if is_used_up behind then Some (name, inside) else None

abbrev pub closed : List ℕ → Option (List ℕ × List ℕ) → Option (List ℕ × List ℕ)
closed name None = None
closed name (Some parts) = unless_more name parts.0 parts.1

abbrev pub opened : Option (List ℕ × List ℕ) → Option (List ℕ × List ℕ)
opened None = None
opened (Some parts) = closed parts.0 (two_of (slice_split (λ byte. byte == 41) parts.1))

-- of `NAME(INSIDE)`: its name and what stands inside
abbrev pub bracketed : List ℕ → Option (List ℕ × List ℕ)
bracketed word = opened (two_of (slice_split (λ byte. byte == 40) word))

abbrev pub follow : {A : Type 0} → Option A → Option (List A) → Option (List A)
follow None more = None
follow (Some a) None = None
follow (Some a) (Some more) = Some (a ∷ more)

-- the values of all parts, where each has one
abbrev pub all_of : {A : Type 0} → (List ℕ → Option A) → List (List ℕ) → Option (List A)
all_of value [] = Some []
all_of value (part ∷ more) = follow (value part) (all_of value more)

-- how much is left, and 0 behind the last part
abbrev pub length_left : Option (List ℕ) → ℕ
length_left None = 0
length_left (Some text) = length text + 1
