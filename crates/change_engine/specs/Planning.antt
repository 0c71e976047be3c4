-- When a plan may be carried out on a board, by what the board's record says.
use Rattle.std.specs.Prelude.{ℕ, ◌<◌, List, length, IsTrue}
use Rattle.change_plan.specs.Plans.{IsPlanOf}
use Rattle.change_plan.specs.Refusals.{CanPlan}
use Rattle.change_plan.specs.declared.plan_data.Move.{Move}
use Rattle.change_plan.specs.declared.plan_data.Plan.{Plan}
use Rattle.config_graph.specs.Graph.{Graph, IsGraph}
use Rattle.config_graph.specs.Sound.{Sound}
use Rattle.change_plan_laws.specs.Commit.{is_one_of}
use Rattle.change_plan_laws.specs.Committing.{made_in}
use Rattle.quiesce_core.specs.Live.{IsGraphOf}
use Rattle.quiesce_core.specs.State.{owner}
use Rattle.txn_records.specs.Entries.{config_of}
use Rattle.txn_records.specs.declared.entry.Entry.{Entry}
use Rattle.txn_records.specs.Notes.{is_noted}

-- The graph is the old one, the plan leads from there to a sound graph, and each port of each frozen node is noted as
-- drained.
pub record MayCarryOut (old new : Graph) (moves : List Move) (plan : Plan) (r : List Entry) : Type 0 where
  pub old_graph : IsGraph old
  pub new_graph : IsGraph new
  pub new_sound : Sound new
  pub is_plan : IsPlanOf old new moves plan
  pub can_plan : CanPlan old new moves (made_in (config_of r))
  pub graph : IsGraphOf (config_of r) old
  pub noted : (p : ℕ) → p < length (config_of r).gates
      → IsTrue (is_one_of old plan.freeze (config_of r) (owner (config_of r) p))
      → IsTrue (is_noted r p)
