-- What the code reads, where the bytes of the input are known.
use Rattle.std.specs.Prelude.{◌≡◌, ⊤, ℕ, ◌==◌, false, List, [], ◌∷◌, ◌++◌, Option, Some, None}
use Rattle.std.specs.Io.KnownBytes.{Consumes, IsAtEnd, Keeps}
use Rattle.change_apply.specs.Lines.{lines_from}
use Rattle.change_apply.specs.declared.reading.Came.{Came}
use Rattle.change_apply.specs.declared.reading.Came.TheVariants as came
use Rattle.change_apply.specs.declared.reading.NextByte.{NextByte}
use Rattle.change_apply.specs.declared.reading.NextByte.TheVariants as byte

abbrev pub ByteCame : Option (List ℕ) → Option (List ℕ) → NextByte → Type 0
ByteCame old new (byte.Is b) = Consumes old new (b ∷ [])
ByteCame old new byte.End = IsAtEnd old
ByteCame old new byte.Fault = ⊤
ByteCame old new byte.Interrupted = Keeps old new

-- a byte was added to a line, or what came in its place
abbrev pub TookByte : Option (List ℕ) → Option (List ℕ) → List ℕ → List ℕ → Option Came → Type 0
TookByte old new line longer None = (b : ℕ) × ((b == 10) ≡ false) × Consumes old new (b ∷ []) × (longer ≡ line ++ b ∷ [])
TookByte old new line longer (Some came.Line) = Consumes old new (10 ∷ []) × (longer ≡ line)
TookByte old new line longer (Some came.End) = IsAtEnd old
TookByte old new line longer (Some came.Fault) = ⊤
TookByte old new line longer (Some came.NoMemory) = ⊤

-- what is there, behind these bytes of a line, has the lines that were there
abbrev pub GoesOn : Option (List ℕ) → Option (List ℕ) → List ℕ → Type 0
GoesOn None new line = ⊤
GoesOn (Some xs) None line = ⊥
GoesOn (Some xs) (Some ys) line = lines_from [] xs ≡ lines_from line ys

-- this line was the first, and what is there has the others
abbrev pub IsFirstLine : Option (List ℕ) → Option (List ℕ) → List ℕ → Type 0
IsFirstLine None new line = ⊤
IsFirstLine (Some xs) None line = ⊥
IsFirstLine (Some xs) (Some ys) line = lines_from [] xs ≡ line ∷ lines_from [] ys

-- there was none
abbrev pub HasNoLine : Option (List ℕ) → Type 0
HasNoLine None = ⊤
HasNoLine (Some xs) = lines_from [] xs ≡ []

abbrev pub LineCame : Option (List ℕ) → Option (List ℕ) → List ℕ → Came → Type 0
LineCame old new line came.Line = IsFirstLine old new line
LineCame old new line came.End = HasNoLine old
LineCame old new line came.Fault = ⊤
LineCame old new line came.NoMemory = ⊤
