-- To be believed (definitions.md).
-- Moves: the state of a node that is removed goes to one that is created, of the same kind. They are named by paths.
use Rattle.std.specs.Prelude.{◌≡◌, ◌<◌, ℕ, List, Some, map, slice_get, take, Any, Contains}
use Rattle.std.specs.List.Sorted.{IsStrictlyIncreasing}
use Rattle.config_graph.specs.Graph.{Graph}
use Rattle.config_graph.specs.declared.node.Node.{Node}
use Rattle.change_plan.specs.declared.plan_data.Move.{Move}
use Rattle.change_plan.specs.declared.plan_data.Shift.{Shift}

-- node i of g has this path and isn't in h
pub record IsGoneAt (g h : Graph) (path : List ℕ) (i : ℕ) : Type 0 where
  pub node : Node
  pub here : slice_get g.nodes i ≡ Some node
  pub named : node.path ≡ path
  pub gone : ¬ Contains h.nodes node

abbrev pub IsPathGone : Graph → Graph → List ℕ → Type 0
IsPathGone g h path = (i : ℕ) × IsGoneAt g h path i

-- a move leads from node i, which is removed, to node j, which is created
pub record MoveLeads (old new : Graph) (m : Move) (i j : ℕ) : Type 0 where
  pub removed : IsGoneAt old new m.from i
  pub created : IsGoneAt new old m.to j

-- the move leads from a removed node to a created one of the same kind
pub record IsFit (old new : Graph) (m : Move) : Type 0 where
  pub source : ℕ
  pub target : ℕ
  pub leads : MoveLeads old new m source target
  pub same_kind : leads.removed.node.kind ≡ leads.created.node.kind

-- one of these moves has this source, or this target
abbrev pub MovesFrom : List Move → List ℕ → Type 0
MovesFrom moves path = Any (λ m. m.from ≡ path) moves

abbrev pub MovesTo : List Move → List ℕ → Type 0
MovesTo moves path = Any (λ m. m.to ≡ path) moves

-- a move may be made beside those before it
pub record MayMove (old new : Graph) (before : List Move) (m : Move) : Type 0 where
  pub fit : IsFit old new m
  pub other_source : ¬ MovesFrom before m.from
  pub other_target : ¬ MovesTo before m.to

-- the first moves may be made
abbrev pub MayMoveAll : Graph → Graph → List Move → ℕ → Type 0
MayMoveAll old new moves count =
    (k : ℕ) (m : Move) → k < count → slice_get moves k ≡ Some m → MayMove old new (take k moves) m

-- the moves by the places of the nodes
pub record IsShift (old new : Graph) (moves : List Move) (s : Shift) : Type 0 where
  pub move : Move
  pub there : Contains moves move
  pub leads : MoveLeads old new move s.old s.new

-- these are the moves, in the order of the nodes that are created
pub record IsShifts (old new : Graph) (moves : List Move) (shifts : List Shift) : Type 0 where
  pub sound : (s : Shift) → Contains shifts s → IsShift old new moves s
  pub complete : (s : Shift) → IsShift old new moves s → Contains shifts s
  pub rise : IsStrictlyIncreasing (map (λ s. s.new) shifts)

-- the nodes of a move, by their places, are of one kind
pub record IsOfOneKind (old new : Graph) (s : Shift) : Type 0 where
  pub source : Node
  pub target : Node
  pub there : slice_get old.nodes s.old ≡ Some source
  pub here : slice_get new.nodes s.new ≡ Some target
  pub same_kind : source.kind ≡ target.kind
