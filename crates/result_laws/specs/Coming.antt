-- That each node of a run has a fold, what it has come to by it, and whether what was asked of it is granted.
use Rattle.std.specs.Prelude.{◌≡◌, ℕ, Bool, false, ◌==◌, ◌&&◌, ◌||◌, List, Some, IsTrue, is_some, option_and_then, unwrap_or, if◌then◌else◌}
use Rattle.std.specs.Option.{option_map_or}
use Rattle.config_graph.specs.declared.kind.Kind.TheVariants.{Fork}
use Rattle.config_graph.specs.declared.node.Target.{Target}
use Rattle.component_trait.specs.States.{NodeState, Service, at_rest, nothing}
use Rattle.quiesce_word.specs.Phases.{is_answered}
use Rattle.quiesce_core.specs.Rules.{is_taken}
use Rattle.quiesce_core.specs.Runs.{state_after}
use Rattle.quiesce_core.specs.State.{exchange, slot, target}
use Rattle.quiesce_core.specs.declared.event.Event.{Event}
use Rattle.quiesce_core.specs.declared.state.Slot.{Slot}
use Rattle.change_spec.specs.Opening.{fold_of_node}

-- each node made, live or not, has a fold
pub record HasFolds (es : List Event) : Type 0 where
  pub all : (n : ℕ) (m : Slot) → slot (state_after es).config n ≡ Some m → IsTrue (is_some (fold_of_node es n))

-- what a node has come to, and something at rest where it has no fold
abbrev pub come : List Event → ℕ → NodeState
come es n = unwrap_or (fold_of_node es n) (at_rest Fork 0 nothing)

-- whether what was sent at port p last was taken up, and whether the reply to it is 1
abbrev pub is_taken_up : List Event → ℕ → Bool
is_taken_up es p = is_answered (exchange (state_after es) p).phase || is_taken (state_after es) p

abbrev pub replies_1 : List Event → ℕ → Bool
replies_1 es p =
    if is_answered (exchange (state_after es) p).phase then (exchange (state_after es) p).value == 1
    else option_map_or (λ (w : Service). w.reply == 1) (option_and_then (λ (t : Target). (come es t.node).service) (target (state_after es).config p)) false

abbrev pub is_granted : List Event → ℕ → Bool
is_granted es p = is_taken_up es p && replies_1 es p
