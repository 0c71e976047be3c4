-- What a table keeps of the nodes that were made, one entry a slot.
use Rattle.std.specs.Prelude.{ℕ, List, [], Option, Some, slice_get, slice_index_or}
use Rattle.std.specs.Option.{option_map_or}
use Rattle.component_trait.specs.States.{NodeState}
use Rattle.quiesce_core.specs.declared.event.Event.{Event}
use Rattle.quiesce_core.specs.declared.known.Known.{Known}
use Rattle.step_board.specs.declared.handed.Handed.{Handed}

-- an earlier node of a line, from which the state was handed on, with all that it did
pub record Predecessor : Type 0 where
  pub slot : ℕ
  pub first : ℕ
  pub arg : ℕ
  pub log : List Event

-- a node: its slot and its first port, its state, what its seat knows, all that it did, the earlier nodes of its
-- line, and for each requirement the node for which a hint waits
pub record NodeSeen : Type 0 where
  pub slot : ℕ
  pub first : ℕ
  pub state : NodeState
  pub known : Known
  pub log : List Event
  pub past : List Predecessor
  pub waiting : List (Option ℕ)

-- a node, or where the log of one lies whose state was handed over
pub data SlotEntry : Type 0 where
  here : NodeSeen → SlotEntry
  gone : Handed → SlotEntry

-- the slot of the first of the line at whose end a node stands
abbrev pub line_of : NodeSeen → ℕ
line_of x = option_map_or (λ (m : Predecessor). m.slot) (slice_get x.past 0) x.slot

-- the log at a place of the past of an entry's node
abbrev pub past_log : ℕ → Option SlotEntry → List Event
past_log place (Some (here x)) = option_map_or (λ (m : Predecessor). m.log) (slice_get x.past place) []
past_log place _ = []

-- all that the node of an entry did, wherever its log lies
abbrev pub log_in : List SlotEntry → List ℕ → SlotEntry → List Event
log_in nodes ends (here x) = x.log
log_in nodes ends (gone y) = past_log y.place (slice_get nodes (slice_index_or ends y.line 0))
