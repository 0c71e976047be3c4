-- What a fetch answers by what reading a file gave.
use Rattle.std.specs.Prelude.{◌≡◌, ◌≤◌, ◌<◌, ℕ, List, Result, Ok, Err, length}
use Rattle.std.specs.Global.{Vec}
use Rattle.cfg_io.specs.declared.shelf.ShelfError.{ShelfError}
use Rattle.cfg_io.specs.declared.shelf.ShelfError.TheVariants.{Failed, TooLong, NoMemory}

-- The bytes were read, as far as one past the limit: they are all that the file has, or it has more than the limit.
abbrev pub IsReadOf : List ℕ → ℕ → Result (Vec ℕ) ShelfError → Type 0
IsReadOf bytes limit (Ok given) = (given.items ≡ bytes) × (length bytes ≤ limit)
IsReadOf bytes limit (Err Failed) = ⊥
IsReadOf bytes limit (Err (TooLong carried)) = (carried ≡ limit) × (limit < length bytes)
IsReadOf bytes limit (Err NoMemory) = ⊥

-- There was a fault: the answer is that memory ran out exactly where the fault says so, and else that the file can't be
-- read.
abbrev pub IsFaultOf : Type 0 → Result (Vec ℕ) ShelfError → Type 0
IsFaultOf says_no_memory (Ok given) = ⊥
IsFaultOf says_no_memory (Err Failed) = ¬ says_no_memory
IsFaultOf says_no_memory (Err (TooLong carried)) = ⊥
IsFaultOf says_no_memory (Err NoMemory) = says_no_memory
