-- To be believed (definitions.md).
-- Why there is no plan: the first move in order that can't be made, and in it the first of its faults; or else too
-- many nodes or ports.
use Rattle.std.specs.Prelude.{◌≡◌, ◌⊎◌, ℕ, List, Some, length, slice_get, sum_by, take}
use Rattle.config_graph.specs.Graph.{Graph, requires_at}
use Rattle.config_graph.specs.declared.node.Made.{Made}
use Rattle.change_plan.specs.Differences.{GoneNodes}
use Rattle.change_plan.specs.Moves.{IsFit, IsPathGone, MoveLeads, MayMoveAll, MovesFrom, MovesTo}
use Rattle.change_plan.specs.Room.{HasRoom, RoomFault}
use Rattle.change_plan.specs.declared.error.PlanError.{PlanError}
use Rattle.change_plan.specs.declared.error.PlanError.TheVariants.{NotRemoved, NotCreated, KindsDiffer, MovedTwice, NodesFull, PortsFull, NoMemory}
use Rattle.change_plan.specs.declared.plan_data.Move.{Move}

-- the move leads from a removed node to a created one of another kind
pub record KindsDifferIn (old new : Graph) (m : Move) : Type 0 where
  pub source : ℕ
  pub target : ℕ
  pub leads : MoveLeads old new m source target
  pub differ : ¬ (leads.removed.node.kind ≡ leads.created.node.kind)

-- a path of the move that a move before it has at the same end; the source comes first
abbrev pub Repeats : List Move → Move → List ℕ → Type 0
Repeats before m path =
    ((path ≡ m.from) × MovesFrom before m.from) ⊎ ((path ≡ m.to) × (¬ MovesFrom before m.from) × MovesTo before m.to)

-- what is at fault with a move
abbrev pub MoveFault : Graph → Graph → List Move → Move → PlanError → Type 0
MoveFault old new before m (NotRemoved path) = (path ≡ m.from) × (¬ IsPathGone old new m.from)
MoveFault old new before m (NotCreated path) =
    (path ≡ m.to) × IsPathGone old new m.from × (¬ IsPathGone new old m.to)
MoveFault old new before m (KindsDiffer from to) = (from ≡ m.from) × (to ≡ m.to) × KindsDifferIn old new m
MoveFault old new before m (MovedTwice path) = IsFit old new m × Repeats before m path
MoveFault old new before m (NodesFull made wanted) = ⊥
MoveFault old new before m (PortsFull made wanted) = ⊥
MoveFault old new before m NoMemory = ⊥

-- the first move that can't be made, with its fault
pub record FirstMoveFault (old new : Graph) (moves : List Move) (e : PlanError) : Type 0 where
  pub count : ℕ
  pub move : Move
  pub at : slice_get moves count ≡ Some move
  pub before : MayMoveAll old new moves count
  pub fault : MoveFault old new (take count moves) move e

-- how many nodes and ports are to be created
pub record CreatesSoMany (old new : Graph) (nodes ports : ℕ) : Type 0 where
  pub created : List ℕ
  pub gone : GoneNodes new old created
  pub nodes_are : nodes ≡ length created
  pub ports_are : ports ≡ sum_by (requires_at new.nodes) created

-- why these can't be planned
abbrev pub IsRefusal : Graph → Graph → List Move → Made → PlanError → Type 0
IsRefusal old new moves made e =
    FirstMoveFault old new moves e ⊎ (MayMoveAll old new moves (length moves)
    × ((nodes : ℕ) × (ports : ℕ) × CreatesSoMany old new nodes ports × RoomFault made nodes ports e))

-- nothing stands against a plan
pub record CanPlan (old new : Graph) (moves : List Move) (made : Made) : Type 0 where
  pub may_move : MayMoveAll old new moves (length moves)
  pub nodes : ℕ
  pub ports : ℕ
  pub wanted : CreatesSoMany old new nodes ports
  pub room : HasRoom made nodes ports
