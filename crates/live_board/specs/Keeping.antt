-- What a board keeps: removed nodes, by slot, and memory for nodes to be made and their pasts.
use Rattle.std.specs.Prelude.{◌≡◌, ℕ, ◌≤◌, Bool, false, List, map, length, slice_get, slice_index_or, slice_set, Option, Some, None, is_some}
use Rattle.atomic_table.specs.Seated.{TableId}
use Rattle.live_board.specs.declared.blank.Blank.{Blank}
use Rattle.live_hall.specs.Houses.{FitsCell}
use Rattle.live_hall.specs.declared.guest.Guest.{Guest}

-- each node that lies there has its slot, and it and its line are of these gates
abbrev pub AreKept : TableId → List (Option Guest) → Type 0
AreKept gates kept = (n : ℕ) (x : Guest) → slice_get kept n ≡ Some (Some x) → FitsCell gates n x

-- in which places one lies, by slot
abbrev pub stored : List (Option Guest) → List Bool
stored kept = map is_some kept

abbrev pub is_stored : List Bool → ℕ → Bool
is_stored places n = slice_index_or places n false

-- and none in the place of the slot, if there is one
abbrev pub without : List Bool → Option ℕ → List Bool
without places None = places
without places (Some n) = slice_set places n false

-- there is memory for so many nodes, for each with so many earlier ones of its line
pub record HaveRoom (blanks : List Blank) (nodes lines : ℕ) : Type 0 where
  pub enough : nodes ≤ length blanks
  pub roomy : (k : ℕ) (b : Blank) → slice_get blanks k ≡ Some b → lines ≤ b.room
