-- The seats of the gate over the change machine's state.
use Rattle.std.specs.Prelude.{◌≡◌, ℕ, true, length, Option, Some, None, refl}
use Rattle.config_graph.specs.declared.kind.Kind.TheVariants as kind
use Rattle.quiesce_core.specs.Knowledge.{IsKnown}
use Rattle.quiesce_core.specs.State.{Configuration, State, is_live, slot}
use Rattle.quiesce_core.specs.declared.known.Known.{Known}
use Rattle.quiesce_core.specs.declared.state.Slot.{Slot}
use Rattle.node_gate.specs.Seats.{IsWithinLimits, NodeAt}

-- the node in a slot; where none was made, nothing is said of its kind
abbrev pub node_in : ℕ → Option Slot → NodeAt
node_in n (Some m) = record { slot = n; kind = m.node.kind; first = m.first_port }
node_in n None = record { slot = n; kind = kind.Philosopher; first = 0 }

abbrev pub node_at : Configuration → ℕ → NodeAt
node_at c n = node_in n (slot c n)

-- the node in the slot is live, and the state has of it what the seat knows
pub record FitsCore (s : State) (n : ℕ) (w : Known) : Type 0 where
  pub live : is_live s.config n ≡ true
  pub known : IsKnown s n (node_at s.config n).first w
  pub two : length w.ports ≡ 2
  pub within : IsWithinLimits (node_at s.config n)

slot_in : (n : ℕ) (o : Option Slot) → (node_in n o).slot ≡ n
slot_in n None = refl
slot_in n (Some m) = refl

-- so it is within the limits of a run, in the slot that the seat says
pub within_limits : (s : State) (n : ℕ) (w : Known) → FitsCore s n w → IsWithinLimits (node_at s.config n) × ((node_at s.config n).slot ≡ n)
within_limits s n w fits = (fits.within, slot_in n (slot s.config n))
