-- Shelves and sinks in memory, as callers see them.
use Rattle.std.specs.Prelude.{◌≡◌, ◌⊎◌, ℕ, List, [], ◌∷◌, Option, Some, None, Result, Ok, Err, Contains, if◌then◌else◌}
use Rattle.std.specs.Str.{bytes_eq}
use Rattle.cfg_io.specs.declared.shelf.ShelfError.{ShelfError}
use Rattle.cfg_io.specs.declared.shelf.ShelfError.TheVariants.{Failed, TooLong, NoMemory}

-- a sink in memory: the bytes that it took, how many more it has room for, and its count of faults
pub record SinkInMemory : Type 0 where
  pub bytes : List ℕ
  pub room : ℕ
  pub faults : ℕ

-- a shelf in memory: its files as pairs of a name and bytes, the numbers of the fetches that are to fail, the number
-- of its next fetch, and the names on which it failed
pub record ShelfInMemory : Type 0 where
  pub files : List (List ℕ × List ℕ)
  pub failing_fetches : List ℕ
  pub next : ℕ
  pub failed : List (List ℕ)

-- the bytes of the file of this name
abbrev pub look_up : List (List ℕ × List ℕ) → List ℕ → Option (List ℕ)
look_up [] name = None
look_up (file ∷ files) name = if bytes_eq name file.0 then Some file.1 else look_up files name

-- the next fetch of this name is to fail: it has the number of a failing one, or there is no such file
abbrev pub FailsNext : ShelfInMemory → List ℕ → Type 0
FailsNext shelf name = Contains shelf.failing_fetches shelf.next ⊎ (look_up shelf.files name ≡ None)

-- an answer is `Failed` exactly where a fetch is to fail; memory may be wanting at any
abbrev pub FailsExactly : {A : Type 0} → Type 0 → Result A ShelfError → Type 0
FailsExactly to_fail (Ok _) = ¬ to_fail
FailsExactly to_fail (Err Failed) = to_fail
FailsExactly to_fail (Err (TooLong _)) = ¬ to_fail
FailsExactly to_fail (Err NoMemory) = Unit {0}
