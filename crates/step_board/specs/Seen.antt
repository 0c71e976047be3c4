-- What contracts see of the nodes of a table.
use Rattle.std.specs.Prelude.{ℕ, Bool, true, false, List, [], map, slice_get, Option, Some}
use Rattle.std.specs.Option.{option_map_or}
use Rattle.component_trait.specs.States.{NodeState}
use Rattle.state_handover.specs.contracts.any_node.AnyNodeComponent.TheImpl.{ghosts as nodes}
use Rattle.state_handover.specs.declared.any_node.AnyNode.{AnyNode}
use Rattle.step_board.specs.Entries.{SlotEntry, Predecessor, gone, here}
use Rattle.step_board.specs.declared.held.Held.{Held}
use Rattle.step_board.specs.declared.held.Held.TheVariants as held

-- the state of the machine of a component's kind
abbrev pub component_state : AnyNode → NodeState
component_state = nodes.state

-- states are read as the component tells them
abbrev pub seen : (AnyNode → NodeState) → Held → SlotEntry
seen state_of (held.Node h) =
    here
    (record {
      slot = h.slot;
      first = h.first_port;
      state = state_of h.inner;
      known = h.seat.known;
      log = h.log.items;
      past = map (λ p. record { slot = p.slot; first = p.first_port; arg = p.arg; log = p.log.items }) h.past.items;
      waiting = h.waiting;
    })
seen state_of (held.Handed x) = gone x

-- the earlier nodes of a node's line
abbrev pub past_in : Held → List Predecessor
past_in (held.Node h) = map (λ p. record { slot = p.slot; first = p.first_port; arg = p.arg; log = p.log.items }) h.past.items
past_in (held.Handed x) = []

-- whether a node is there, and the slot of the first of its line
abbrev pub is_node : Option Held → Bool
is_node (Some (held.Node h)) = true
is_node _ = false

abbrev pub first_slot : Held → ℕ
first_slot (held.Node h) = option_map_or (λ p. p.slot) (slice_get h.past.items 0) h.slot
first_slot (held.Handed x) = 0
