-- To be believed (definitions.md).
-- Statements of which each description is of one shape, and changes that keep or move the nodes of some kinds.
use Rattle.std.specs.Prelude.{◌≡◌, ◌⊎◌, ⊤, ℕ, List, [], ◌∷◌, Some, All, Any}
use Rattle.config_graph.specs.Graph.{Graph}
use Rattle.config_graph.specs.declared.kind.Kind.{Kind}
use Rattle.config_graph.specs.declared.kind.Kind.TheVariants.{Source, Sink}
use Rattle.change_plan.specs.Differences.{IsTwin}
use Rattle.change_plan.specs.Moves.{MoveLeads}
use Rattle.change_plan.specs.declared.plan_data.Move.{Move}
use Rattle.change_spec.specs.Statements.{Statement, start, change, run, finish, show}
use Rattle.result_laws.specs.Describing.{Describes, kind_at}
use Rattle.result_laws.specs.Rows.{IsRow}

-- a node of the old graph is one of the new graph, or its state goes over to one
abbrev pub IsKeptOrMoved : Graph → Graph → List Move → ℕ → ℕ → Type 0
IsKeptOrMoved old new moves i j = IsTwin old new i j ⊎ Any (λ m. MoveLeads old new m i j) moves

-- so is each node of a kind of which each of the two has one
abbrev pub KeepsOrMoves : Kind → Graph → Graph → List Move → Type 0
KeepsOrMoves k old new moves = (i j : ℕ) → kind_at old i ≡ Some k → kind_at new j ≡ Some k → IsKeptOrMoved old new moves i j

-- the source and the sink of a row, whatever becomes of its maps and of what stands beside
pub record KeepsEnds (old new : Graph) (moves : List Move) : Type 0 where
  pub source : KeepsOrMoves Source old new moves
  pub sink : KeepsOrMoves Sink old new moves

-- each change keeps or moves them, from the graph that was named last
abbrev pub KeepEndsFrom : Graph → List Statement → Type 0
KeepEndsFrom old [] = ⊤
KeepEndsFrom old (start name args g ∷ rest) = KeepEndsFrom g rest
KeepEndsFrom old (change name args g within moves ∷ rest) = KeepsEnds old g moves × KeepEndsFrom g rest
KeepEndsFrom old (run k ∷ rest) = KeepEndsFrom old rest
KeepEndsFrom old (finish n ∷ rest) = KeepEndsFrom old rest
KeepEndsFrom old (show ∷ rest) = KeepEndsFrom old rest

-- Each description is a row system, and each change keeps or moves the source and the sink.
pub record AreRows (statements : List Statement) : Type 0 where
  pub rows : All (Describes IsRow) statements
  pub ends : KeepEndsFrom (record { nodes = []; links = [] }) statements
