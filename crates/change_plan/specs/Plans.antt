-- To be believed (definitions.md).
-- The plan from one graph to another: what the one has and the other hasn't, whose states go on, and what is frozen
-- meanwhile.
use Rattle.std.specs.Prelude.{◌≡◌, ◌↔◌, ℕ, List, Contains}
use Rattle.std.specs.List.Sorted.{IsStrictlyIncreasing}
use Rattle.config_graph.specs.Graph.{Graph}
use Rattle.change_plan.specs.Differences.{GoneLinks, GoneNodes, GonePorts}
use Rattle.change_plan.specs.Moves.{IsShifts}
use Rattle.change_plan.specs.Touched.{Frozen}
use Rattle.change_plan.specs.declared.plan_data.Move.{Move}
use Rattle.change_plan.specs.declared.plan_data.Plan.{Plan}

-- the steps of a plan, and what it freezes, in any order
pub record HasStepsBetween (old new : Graph) (p : Plan) : Type 0 where
  -- the ports of the links that the new graph hasn't, in order
  pub unlink : GonePorts old new p.unlink
  -- the nodes that the new graph hasn't, in order
  pub remove : GoneNodes old new p.remove
  -- the nodes that the old graph hasn't, in order
  pub create : GoneNodes new old p.create
  -- the links that the old graph hasn't, in order
  pub link : GoneLinks new old p.link
  -- the nodes that are frozen, and no others
  pub freeze : (i : ℕ) → Contains p.freeze i ↔ Frozen old new i

-- the plan with these moves
pub record IsPlanOf (old new : Graph) (asked : List Move) (p : Plan) : Type 0 where
  pub steps : HasStepsBetween old new p
  -- the moves that were asked for, by places, in the order of the nodes that are created
  pub moves : IsShifts old new asked p.moves
  -- each frozen node stands once, in order
  pub freeze_rises : IsStrictlyIncreasing p.freeze

-- two plans are the same but for the moves
pub record HasSameSteps (p q : Plan) : Type 0 where
  pub freeze : p.freeze ≡ q.freeze
  pub unlink : p.unlink ≡ q.unlink
  pub remove : p.remove ≡ q.remove
  pub create : p.create ≡ q.create
  pub link : p.link ≡ q.link
