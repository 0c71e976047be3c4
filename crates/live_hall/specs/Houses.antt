-- What a cell of the hall holds.
use Rattle.std.specs.Prelude.{◌≡◌, ⊤, ℕ, true, false, ◌⊎◌, List, [], ◌∷◌, map}
use Rattle.std.specs.List.{AllByRecursion}
use Rattle.atomic_table.specs.Seated.{TableId}
use Rattle.txn_gate.specs.Seats.{table_of_node}
use Rattle.live_hall.specs.declared.guest.Guest.{Guest}
use Rattle.live_hall.specs.declared.place.Place.{Place}
use mathlib.Core.Option.{some}
use lib.ListN.{get_elem?}

-- a cell that has no slot yet, and the cell of a slot
abbrev pub unnamed : Place
unnamed = record { named = false; slot = 0 }

abbrev pub place : ℕ → Place
place slot = record { named = true; slot = slot }

-- the gates of the seats of the line
abbrev pub tables_of : Guest → List TableId
tables_of x = table_of_node x.node.seat ∷ map (λ p. table_of_node p.seat) x.node.past.items

-- all of them are these
abbrev pub IsAt : TableId → Guest → Type 0
IsAt gates x = AllByRecursion (λ t. t ≡ gates) (tables_of x)

-- the node has the slot, and its seat and those of its line are of these gates
abbrev pub FitsCell : TableId → ℕ → Guest → Type 0
FitsCell gates slot x = (x.node.slot ≡ slot) × IsAt gates x

abbrev pub EachFits : TableId → ℕ → List Guest → Type 0
EachFits gates slot [] = ⊤
EachFits gates slot (x ∷ xs) = FitsCell gates slot x × EachFits gates slot xs

-- A cell is empty and only its first key knows of it, or it has a slot that all keys know, and each node in it fits.
abbrev pub Houses : TableId → List Guest → List Place → Type 0
Houses gates items views =
    ((items ≡ []) × (views ≡ unnamed ∷ []))
    ⊎ ((slot : ℕ) × EachFits gates slot items × ((n : ℕ) (v : Place) → get_elem? views n ≡ some v → v ≡ place slot))

-- the cell held these nodes at a moment at which the key knew this
abbrev pub HousedFor : TableId → Place → List Guest → Type 0
HousedFor gates v items = (views : List Place) × (n : ℕ) × Houses gates items views × (get_elem? views n ≡ some v)

-- the name of no table
abbrev pub no_table : TableId
no_table = record { words = 0; slots = 0; views_name = 0; atom = 0; block = 0; offset = 0; slot_names = [] }
