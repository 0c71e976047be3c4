-- A node at its place in a system, and an event with which it goes on.
use Rattle.std.specs.Prelude.{◌≡◌, ℕ, List, Some, true, false}
use Rattle.component_trait.specs.Fold.{after_event}
use Rattle.component_trait.specs.States.{NodeState}
use Rattle.quiesce_core.specs.Doers.{is_of_change}
use Rattle.quiesce_core.specs.Knowledge.{IsKnown, Knows, known_after, own_port_after, served_after}
use Rattle.quiesce_core.specs.Legal.{Legal}
use Rattle.quiesce_core.specs.Runs.{doer}
use Rattle.quiesce_core.specs.State.{State, slot}
use Rattle.quiesce_core.specs.Traffic.{IsConsistent}
use Rattle.quiesce_core.specs.WellFormed.{IsWellFormed}
use Rattle.quiesce_core.specs.declared.event.Event.{Event}
use Rattle.quiesce_core.specs.declared.state.Slot.{Slot}
use Rattle.node_turn_laws.specs.Agreement.{Agrees, HandsSmall, IsInTurn, IsSmall}

-- Node n, which was made as m and is live, did these events, which tell what the machine's state has of it, and has
-- come to this state, which agrees with them.
pub record IsPlaced (s : State) (n : ℕ) (m : Slot) (t : NodeState) (es : List Event) : Type 0 where
  pub formed : IsWellFormed s
  pub consistent : IsConsistent s
  pub made : slot s.config n ≡ Some m
  pub live : m.live ≡ true
  pub knows : Knows s n es
  pub knows_by_index : IsKnown s n m.first_port (known_after m.first_port es)
  pub kind : t.kind ≡ m.node.kind
  pub agrees : Agrees m.first_port t (served_after es) (λ p. own_port_after p es)
  pub small : IsSmall t

-- the event is allowed, is the node's own, and its fold goes on with it
pub record GoesOn (s : State) (n : ℕ) (m : Slot) (t : NodeState) (es : List Event) (e : Event) : Type 0 where
  pub allowed : Legal s e
  pub own : doer s e ≡ Some n
  pub of_node : is_of_change e ≡ false
  pub next : NodeState
  pub folds : after_event m.first_port t e ≡ Some next
  pub in_turn : IsInTurn (λ p. own_port_after p es) e
  pub hands_small : HandsSmall e
