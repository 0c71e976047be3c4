-- What a gate that tells its state tells of a node, and where the rule of moves finds what a move may do.
use Rattle.std.specs.Prelude.{◌≡◌, ℕ, Option, Some, None, if◌then◌else◌}
use Rattle.component_trait.specs.States.{NodeState}
use Rattle.quiesce_core.specs.State.{State}
use Rattle.quiesce_core.specs.WellFormed.{IsWellFormed}
use Rattle.quiesce_core.specs.declared.event.Event.{Event}
use Rattle.quiesce_core.specs.declared.known.Known.{Known}
use Rattle.node_gate.specs.Core.{FitsCore, node_at}
use Rattle.node_gate.specs.Seats.{NodeAt}
use Rattle.node_turn_laws.specs.Turn.{has_reply, reply_to}

-- the gate tells this state, which is well formed and has of the node what its seat knows
pub record FitsToldState (state : Option State) (n : NodeAt) (known : Known) (s : State) : Type 0 where
  pub told : state ≡ Some s
  pub formed : IsWellFormed s
  pub fits : FitsCore s n.slot known
  pub node : node_at s.config n.slot ≡ n

-- what a reply at a port leads to
abbrev pub reply_at : State → NodeState → ℕ → Option Event
reply_at s t p = if has_reply s p then Some (reply_to s t p) else None
