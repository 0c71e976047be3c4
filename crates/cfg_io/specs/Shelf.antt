-- To be believed (definitions.md).
-- Shelves: places from which files are fetched by name. A shelf has the list of the names on which it failed, and it
-- may tell its files, a look-up from names to bytes.
use Rattle.std.specs.Prelude.{◌≡◌, ◌≤◌, ◌<◌, ℕ, List, [], ◌∷◌, ◌++◌, Option, Some, Result, Ok, Err, length, IsSomeAnd}
use Rattle.std.specs.Global.{Vec}
use Rattle.cfg_io.specs.declared.shelf.ShelfError.{ShelfError}
use Rattle.cfg_io.specs.declared.shelf.ShelfError.TheVariants.{Failed, TooLong, NoMemory}

-- the bytes that each name holds, and `None` at a name that has no file
abbrev pub Files : Type 0
Files = List ℕ → Option (List ℕ)

-- the failed names after this answer to a fetch of the name: a failure adds the name, and no other answer changes the
-- list
abbrev pub failed_after : {A : Type 0} → Result A ShelfError → List ℕ → List (List ℕ) → List (List ℕ)
failed_after (Ok _) name failed = failed
failed_after (Err Failed) name failed = failed ++ name ∷ []
failed_after (Err (TooLong _)) name failed = failed
failed_after (Err NoMemory) name failed = failed

-- what a fetch may answer where it is told that the name holds `file`: the bytes of a file that keeps the limit,
-- `TooLong` of a file that doesn't, and nothing but `Failed` and `NoMemory` where there is no file
abbrev pub MayAnswer : Option (List ℕ) → ℕ → Result (Vec ℕ) ShelfError → Type 0
MayAnswer file limit (Ok bytes) = (file ≡ Some bytes.items) × (length bytes.items ≤ limit)
MayAnswer file limit (Err Failed) = Unit {0}
MayAnswer file limit (Err (TooLong _)) = IsSomeAnd file (λ bytes. limit < length bytes)
MayAnswer file limit (Err NoMemory) = Unit {0}

-- `TooLong` carries the limit of the call
abbrev pub CarriesLimit : {A : Type 0} → Result A ShelfError → ℕ → Type 0
CarriesLimit (Ok _) limit = Unit {0}
CarriesLimit (Err Failed) limit = Unit {0}
CarriesLimit (Err (TooLong carried)) limit = carried ≡ limit
CarriesLimit (Err NoMemory) limit = Unit {0}
