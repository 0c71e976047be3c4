-- To be believed (definitions.md).
-- Numbers that spell a list of fields: each field has its width in bits, and the first has the lowest bits.
use Rattle.std.specs.Prelude.{ℕ, ◌+◌, ◌-◌, ◌*◌, ◌/◌, ◌%◌, ◌^◌, ◌<◌, ◌==◌, List, [], ◌∷◌, Option, Some, None, if◌then◌else◌, ⊤}
use Rattle.std.specs.Option.{option_map_or}

-- the number that fields of these widths spell
abbrev pub spell : List ℕ → List ℕ → ℕ
spell [] fields = 0
spell (w ∷ widths) [] = 0
spell (w ∷ widths) (f ∷ fields) = f + 2 ^ w * spell widths fields

-- each field has its room: it is below 2 to its width
abbrev pub FitIn : List ℕ → List ℕ → Type 0
FitIn [] [] = ⊤
FitIn [] (f ∷ fields) = ⊥
FitIn (w ∷ widths) [] = ⊥
FitIn (w ∷ widths) (f ∷ fields) = (f < 2 ^ w) × FitIn widths fields

-- an operation, field by field
abbrev pub by_fields : (ℕ → ℕ → ℕ) → List ℕ → List ℕ → List ℕ
by_fields op [] ys = []
by_fields op (x ∷ xs) [] = []
by_fields op (x ∷ xs) (y ∷ ys) = op x y ∷ by_fields op xs ys

-- the bits from low to high of a number, both counted, bit 0 the lowest
abbrev pub bits : ℕ → ℕ → ℕ → ℕ
bits low high n = n / 2 ^ low % 2 ^ (high + 1 - low)

-- a number that may be there as one more, and 0 where none is there; and back
abbrev pub plus_one : Option ℕ → ℕ
plus_one o = option_map_or (λ n. n + 1) o 0

abbrev pub less_one : ℕ → Option ℕ
less_one n = if n == 0 then None else Some (n - 1)
