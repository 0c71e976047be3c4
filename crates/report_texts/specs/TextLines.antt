-- To be believed (definitions.md).
-- The lines of a text: each ends with a line feed, which isn't of it. What stands behind the last line feed is no line.
use Rattle.std.specs.Prelude.{ℕ, ◌==◌, if◌then◌else◌, List, [], ◌∷◌}

abbrev pub onto_line : ℕ → List (List ℕ) → List (List ℕ)
onto_line byte [] = []
onto_line byte (line ∷ more) = (byte ∷ line) ∷ more

abbrev pub lines : List ℕ → List (List ℕ)
lines [] = []
lines (byte ∷ bytes) = if byte == 10 then [] ∷ lines bytes else onto_line byte (lines bytes)

-- a byte, where no line ends behind it, and what stands behind the last line feed
abbrev pub onto_tail : ℕ → List (List ℕ) → List ℕ → List ℕ
onto_tail byte [] left = byte ∷ left
onto_tail byte (line ∷ more) left = left

-- what stands behind the last line feed
abbrev pub tail : List ℕ → List ℕ
tail [] = []
tail (byte ∷ bytes) = if byte == 10 then tail bytes else onto_tail byte (lines bytes) (tail bytes)
