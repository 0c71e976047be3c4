-- To be believed (definitions.md).
-- Lists of the change's events, each of which may be done on a board after those before it.
use Rattle.std.specs.Prelude.{◌≡◌, ⊤, ℕ, ◌<◌, ◌-◌, Bool, true, false, nat_lt, List, [], ◌∷◌, ◌++◌, map, flat_map, Option, if◌then◌else◌}
use Rattle.std.specs.List.{list_all}
use Rattle.std.specs.Option.{option_map_or}
use Rattle.quiesce_core.specs.declared.event.Event.{Event}
use Rattle.quiesce_core.specs.declared.event.Event.TheVariants.{Close, Reopen, Make}
use Rattle.txn_records.specs.declared.entry.Entry.{Entry}
use Rattle.txn_records.specs.declared.entry.Entry.TheVariants.{Did}
use Rattle.txn_records.specs.Records.{May}
use Rattle.change_board.specs.Sights.{Sight, sight_entry}

-- by the record that those before it have added to
abbrev pub MayDoAll : List Entry → List Event → Type 0
MayDoAll r [] = ⊤
MayDoAll r (e ∷ es) = May r e × MayDoAll (r ++ Did e ∷ []) es

-- whether gates are closed and reopened after all else
abbrev pub is_turning : Event → Bool
is_turning (Close p) = true
is_turning (Reopen p) = true
is_turning _ = false

abbrev pub gates_come_last : List Event → Bool
gates_come_last [] = true
gates_come_last (e ∷ es) = if is_turning e then list_all is_turning es else gates_come_last es

-- For what a board has memory: so many nodes more, each of which may take over the state of a node in a slot below
-- this.
pub record Room : Type 0 where
  pub nodes : ℕ
  pub sources : ℕ

pub record HasRoomToMake (room : Room) (from : Option ℕ) : Type 0 where
  pub node : 0 < room.nodes
  pub source : option_map_or (λ k. nat_lt k room.sources) from true ≡ true

-- once a node is made in it
abbrev pub less_one : Room → Room
less_one room = record room { nodes = room.nodes - 1 }

abbrev pub room_after : Room → Event → Room
room_after room (Make n node from) = less_one room
room_after room _ = room

abbrev pub HasRoomToDo : Room → Event → Type 0
HasRoomToDo room (Make n node from) = HasRoomToMake room from
HasRoomToDo room _ = ⊤

-- there is memory for each node that these events make
abbrev pub HasRoomForAll : Room → List Event → Type 0
HasRoomForAll room [] = ⊤
HasRoomForAll room (e ∷ es) = HasRoomToDo room e × HasRoomForAll (room_after room e) es

-- an event of the change that was done on a board, and the sights that came with it
pub record Deed : Type 0 where
  pub event : Event
  pub sights : List Sight

abbrev pub events_of : List Deed → List Event
events_of deeds = map (λ (d : Deed). d.event) deeds

abbrev pub deed_entries : Deed → List Entry
deed_entries d = Did d.event ∷ map sight_entry d.sights

abbrev pub entries_of : List Deed → List Entry
entries_of deeds = flat_map deed_entries deeds
