-- What holds of a node with its seat at the end of every call.
use Rattle.std.specs.Prelude.{◌≡◌, ℕ, ◌<◌, List, length, Option, Some, None, slice_get}
use Rattle.config_graph.specs.Kinds.{row}
use Rattle.config_graph.specs.declared.TheConstants.{MAX_NODES}
use Rattle.component_trait.specs.States.{NodeState}
use Rattle.quiesce_core.specs.Knowledge.{known_after, own_port_after, served_after}
use Rattle.quiesce_core.specs.declared.event.Event.{Event}
use Rattle.quiesce_core.specs.declared.known.Known.{Known}
use Rattle.node_gate.specs.Seats.{IsWithinLimits, NodeAt}
use Rattle.node_turn_laws.specs.Agreement.{Agrees}
use Rattle.node_host.specs.Lines.{LineNode, line_state}

-- what contracts see of a seat: its slot, what it knows, and its events, where it tells them
pub record SeatSeen : Type 0 where
  pub slot : ℕ
  pub known : Known
  pub told : Option (List Event)

abbrev pub node_of : ℕ → ℕ → NodeState → NodeAt
node_of slot first t = record { slot = slot; kind = t.kind; first = first }

-- The seat is the node's, knows its log, with nothing seen, and tells it where it tells events; the log leads the
-- line on to the node's state, which agrees with what the log tells it; and each hint that waits is one of its
-- requirements, for a node's slot.
pub record IsHosted (slot first : ℕ) (t : NodeState) (log : List Event) (line : List LineNode) (known : Known) (waiting : List (Option ℕ)) (seat : SeatSeen) : Type 0 where
  pub of_slot : seat.slot ≡ slot
  pub limits : IsWithinLimits (node_of slot first t)
  pub kept : known ≡ seat.known
  pub knows : known ≡ known_after first log
  pub tells : (es : List Event) → seat.told ≡ Some es → es ≡ log
  pub folds : line_state t.kind None line (record { first = first; arg = t.arg; log = log }) ≡ Some t
  pub agrees : Agrees first t (served_after log) (λ p. own_port_after p log)
  pub waits : (r m : ℕ) → slice_get waiting r ≡ Some (Some m) → (r < length (row t.kind).requires_) × (m < MAX_NODES)
