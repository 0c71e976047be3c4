-- What is known of a state of the machine and of what nodes have come to, and how one event leads both on.
use Rattle.std.proofs.Common.{◌≡◌, ℕ, true, false, List, Option, Some}
use Rattle.std.specs.Prelude.{is_some}
use Rattle.config_graph.specs.declared.kind.Kind.{Kind}
use Rattle.component_trait.specs.Fold.{after_event}
use Rattle.component_trait.specs.States.{Kept, NodeState}
use Rattle.component_trait.specs.States as node
use Rattle.quiesce_word.specs.Phases.{is_idle}
use Rattle.quiesce_core.specs.Runs.{is_doer}
use Rattle.quiesce_core.specs.State.{Configuration, State, exchange, owner, service, slot}
use Rattle.quiesce_core.specs.Traffic.{IsConsistent}
use Rattle.quiesce_core.specs.WellFormed.{IsWellFormed}
use Rattle.quiesce_core.specs.declared.event.Event.{Event}
use Rattle.quiesce_core.specs.declared.state.Service.{Service}
use Rattle.quiesce_core.specs.declared.state.Slot.{Slot}
use Rattle.change_spec.specs.Opening.{argument_of}
use Rattle.node_turn_laws.specs.Agreement.{expects}

-- ---- what is known of a state and of what nodes have come to

pub record Facts (s : State) (f : ℕ → NodeState) : Type 0 where
  pub well : IsWellFormed s
  pub traffic : IsConsistent s
  -- a node's fold is in a service where the machine's node is
  pub served : (n : ℕ) (w : node.Service) → (f n).service ≡ Some w → (v : Service) × (service s n ≡ Some v)
  pub serves : (n : ℕ) (v : Service) → service s n ≡ Some v → (w : node.Service) × ((f n).service ≡ Some w)
  -- and a port that isn't idle is one at which its owner expects something
  pub expected : (n p : ℕ) (m : Slot) → slot s.config n ≡ Some m → owner s.config p ≡ n → is_idle (exchange s p).phase ≡ false
      → expects (is_some (exchange s p).within) m.first_port (f n) p ≡ true

-- what nodes have come to after one more event
pub record FoldsTo (s : State) (e : Event) (f g : ℕ → NodeState) : Type 0 where
  pub mine : (n : ℕ) (m : Slot) → slot s.config n ≡ Some m → is_doer s n e ≡ true → after_event m.first_port (f n) e ≡ Some (g n)
  pub others : (n : ℕ) → is_doer s n e ≡ false → g n ≡ f n

-- what nodes have come to is of their kinds and arguments
pub record Fits (c : Configuration) (f : ℕ → NodeState) : Type 0 where
  pub kinds : (n : ℕ) (m : Slot) → slot c n ≡ Some m → (f n).kind ≡ m.node.kind
  pub args : (n : ℕ) (m : Slot) → slot c n ≡ Some m → (f n).arg ≡ argument_of m

-- ---- a node at work

abbrev pub at_work : Kind → ℕ → Kept → ℕ → ℕ → List ℕ → NodeState
at_work k a kept v r answers =
    record { kind = k; arg = a; kept = kept; service = Some (record { value = v; reply = r; answers = answers; waits = false }) }

pub of_parts : (n : NodeState) (k : Kind) (o : Option node.Service) → n.kind ≡ k → n.service ≡ o → n ≡ record { kind = k; arg = n.arg; kept = n.kept; service = o }
of_parts n k o kind service = λ i. record { kind = kind i; arg = n.arg; kept = n.kept; service = service i }
