-- To be believed (definitions.md).
-- When the change that a plan describes may be committed.
use Rattle.std.specs.Prelude.{◌≡◌, ℕ, ◌<◌, length, slice_get, Some, Contains, IsTrue, List}
use Rattle.change_plan.specs.Plans.{IsPlanOf}
use Rattle.change_plan.specs.Refusals.{CanPlan}
use Rattle.change_plan.specs.declared.plan_data.Move.{Move}
use Rattle.change_plan.specs.Touched.{IsTouched}
use Rattle.change_plan.specs.declared.plan_data.Plan.{Plan}
use Rattle.change_plan.specs.declared.plan_data.Shift.{Shift}
use Rattle.config_graph.specs.Graph.{Graph, IsGraph}
use Rattle.config_graph.specs.Sound.{Sound}
use Rattle.config_graph.specs.declared.node.Made.{Made}
use Rattle.quiesce_core.specs.declared.event.Event.{Event}
use Rattle.quiesce_core.specs.Live.{IsGraphOf, StandsAt}
use Rattle.quiesce_core.specs.Runs.{IsRun, state_after}
use Rattle.quiesce_core.specs.State.{Configuration, owner}
use Rattle.quiesce_laws.specs.Drained.{is_drained}
use Rattle.quiesce_laws.specs.Work.{NewNode}
use Rattle.change_plan_laws.specs.Commit.{is_one_of}

-- how much was made
abbrev pub made_in : Configuration → Made
made_in c = record { nodes = length c.slots; ports = length c.gates }

-- the node in slot n is one that the change touches
abbrev pub IsTouchedSlot : Graph → Graph → Configuration → ℕ → Type 0
IsTouchedSlot old new c n = (i : ℕ) × IsTouched old new i × StandsAt c old.nodes n i

-- one of the moves leads from the live node in slot k to the node that is made
pub record TakesOver (old new : Graph) (plan : Plan) (c : Configuration) (m : NewNode) (k : ℕ) : Type 0 where
  pub shift : Shift
  pub there : Contains plan.moves shift
  pub source : StandsAt c old.nodes k shift.old
  pub target : slice_get new.nodes shift.new ≡ Some m.node

-- After this run the change may commit: the graph is the old one, the plan leads from there to a sound graph, nothing
-- stands against it, and each port of each frozen node is closed and has no transaction but a consequent one.
pub record MayCommit (old new : Graph) (moves : List Move) (plan : Plan) (es : List Event) : Type 0 where
  pub old_graph : IsGraph old
  pub new_graph : IsGraph new
  pub new_sound : Sound new
  pub is_plan : IsPlanOf old new moves plan
  pub can_plan : CanPlan old new moves (made_in (state_after es).config)
  pub run : IsRun es
  pub graph : IsGraphOf (state_after es).config old
  pub drained : (p : ℕ) → p < length (state_after es).config.gates
      → IsTrue (is_one_of old plan.freeze (state_after es).config (owner (state_after es).config p))
      → IsTrue (is_drained (state_after es) p)
