-- The ends of moves: for each node of the old graph whether its state goes on, and for each of the new one from which
-- node its state comes.
use Rattle.std.specs.Prelude.{◌≡◌, ◌↔◌, ℕ, Bool, List, Option, Some, None, length, All}
use Rattle.std.specs.List.{slice_index_or}
use Rattle.config_graph.specs.Graph.{Graph}
use Rattle.config_graph.specs.Marks.{IsMarked}
use Rattle.change_plan.specs.Moves.{IsFit, IsShift}
use Rattle.change_plan.specs.declared.plan_data.Move.{Move}

-- the state of node i goes on in one of these moves
abbrev pub IsMovedFrom : Graph → Graph → List Move → ℕ → Type 0
IsMovedFrom old new moves i = (j : ℕ) × IsShift old new moves (record { old = i; new = j })

-- these lists mark the ends of fit moves, and no others
pub record MarksEnds (old new : Graph) (moves : List Move) (sources : List Bool) (targets : List (Option ℕ)) : Type 0 where
  pub fit : All (IsFit old new) moves
  pub sources_length : length sources ≡ length old.nodes
  pub targets_length : length targets ≡ length new.nodes
  pub sources_are : (i : ℕ) → IsMarked sources i ↔ IsMovedFrom old new moves i
  pub targets_are : (i j : ℕ) → (slice_index_or targets j None ≡ Some i) ↔ IsShift old new moves (record { old = i; new = j })
