-- What a scan sees of nodes.
use Rattle.std.specs.Prelude.{◌≡◌, ℕ, ◌<◌, Bool, true, false, List, [], ◌∷◌, ◌++◌, map, Option, Some, None}
use Rattle.std.specs.List.{list_any}
use Rattle.atomic_table.specs.Seated.{TableId}
use Rattle.change_board.specs.Sights.{Sight, is_seen_done, seen_in, sight_entry}
use Rattle.component_trait.specs.States.{NodeState}
use Rattle.config_graph.specs.declared.kind.Kind.{Kind}
use Rattle.live_board.specs.Lengths.{AreLengths}
use Rattle.live_board.specs.Turning.{SawEach}
use Rattle.live_hall.specs.declared.guest.Guest.{Guest}
use Rattle.live_board.specs.Lines.{IsMadeLine, LineSight, is_in_slot}
use Rattle.quiesce_core.specs.State.{Configuration, is_live}
use Rattle.quiesce_core.specs.declared.event.Event.{Event}
use Rattle.state_handover.specs.declared.any_node.AnyNode.{AnyNode}
use Rattle.txn_gate.specs.Seats.{collected_in, record_of, table_of_change}
use Rattle.txn_gate.specs.declared.change_seat.ChangeSeat.{ChangeSeat}
use Rattle.txn_records.specs.Records.{IsRecord}
use Rattle.txn_records.specs.declared.entry.Entry.{Entry}

-- what is seen of a line, the earliest node first
abbrev pub sights_of : Guest → List Sight
sights_of x = map (λ p. record { slot = p.slot; events = p.log.items }) x.node.past.items ++ record { slot = x.node.slot; events = x.node.log.items } ∷ []

-- the configuration made a line whose last node is in this slot, and the other is one of it
pub record IsOfLine (c : Configuration) (slot n : ℕ) : Type 0 where
  pub kind : Kind
  pub past : List LineSight
  pub last : LineSight
  pub made : IsMadeLine c kind None (past ++ last ∷ [])
  pub is_last : last.slot ≡ slot
  pub among : list_any (is_in_slot n) (past ++ last ∷ []) ≡ true

-- Of the node in this slot: where it is done it was sighted with its line, by which it is seen as done, and else nothing
-- was; and the lengths of what was seen so far go on.
pub record SeesNode (c : Configuration) (r r' : List Entry) (lengths lengths' : List (Option ℕ)) (slot : ℕ) (done : Bool) : Type 0 where
  pub sights : List Sight
  pub adds : r' ≡ r ++ map sight_entry sights
  pub lengths_are : (before : List Sight) → AreLengths before lengths → AreLengths (before ++ sights) lengths'
  pub of_line : (n : ℕ) (es : List Event) → seen_in sights n ≡ Some es → IsOfLine c slot n
  pub seen : done ≡ true → is_seen_done c (seen_in sights) slot ≡ true
  pub unseen : done ≡ false → sights ≡ []

-- Of all nodes in slots below this: each sight is of the line of a live one; where all were done, each live one is seen
-- as done, and else one wasn't sighted; and each live one that isn't seen as done wasn't so, or the door found none there.
pub record SawNodes (S : AnyNode → NodeState) (gates : TableId) (c : Configuration) (r r' : List Entry) (lengths : List (Option ℕ)) (missed missed' : List ℕ) (slots : ℕ) (done : Bool) : Type 0 where
  pub sights : List Sight
  pub adds : r' ≡ r ++ map sight_entry sights
  pub lengths_are : AreLengths sights lengths
  pub of_lines : (n : ℕ) (es : List Event) → seen_in sights n ≡ Some es → (slot : ℕ) × (slot < slots) × (is_live c slot ≡ true) × IsOfLine c slot n
  pub seen : done ≡ true → (n : ℕ) → n < slots → is_live c n ≡ true → is_seen_done c (seen_in sights) n ≡ true
  pub unseen : done ≡ false → (n : ℕ) × (n < slots) × (is_live c n ≡ true) × (seen_in sights n ≡ None)
  pub each : SawEach S gates c sights missed slots missed'

-- the change's record goes on, as one of a run, at the same gates
pub record SeatGoesOn (old new : ChangeSeat) : Type 0 where
  pub here : table_of_change new ≡ table_of_change old
  pub known : IsRecord (record_of new)
  pub nodes : collected_in new ≡ collected_in old
  pub spare : new.spare ≡ old.spare
