-- To be believed (definitions.md).
-- What a shelf tells of its files.
use Rattle.std.specs.Prelude.{◌≡◌, ◌≤◌, ◌<◌, ℕ, List, Option, Some, None, IsSomeAnd, length}
use Rattle.cfg_io.specs.Shelf.{Files}

-- where the shelf tells its files, the file of the name holds these bytes
abbrev pub HoldsFile : Option Files → List ℕ → List ℕ → Type 0
HoldsFile None file text = Unit {0}
HoldsFile (Some files) file text = files file ≡ Some text

-- where the shelf tells its files, the file of the name has more bytes than this
abbrev pub TellsLonger : ℕ → Option Files → List ℕ → Type 0
TellsLonger limit None file = Unit {0}
TellsLonger limit (Some files) file = IsSomeAnd (files file) (λ bytes. limit < length bytes)

-- the file of the name holds these bytes, which keep the limit
pub record IsTold (files : Option Files) (limit : ℕ) (file bytes : List ℕ) : Type 0 where
  pub told : HoldsFile files file bytes
  pub within : length bytes ≤ limit

-- each file that was there is there with the same content
abbrev pub StillHolds : Files → Files → Type 0
StillHolds before after = (file text : List ℕ) → before file ≡ Some text → after file ≡ Some text
