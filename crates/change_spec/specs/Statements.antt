-- To be believed (definitions.md).
-- The statements of a script, each start and change with the graph that its description elaborates to. What a report
-- must be follows from these; which statements a script has is `StatementsOf` (Scripts).
use Rattle.std.specs.Prelude.{ℕ, ℤ, Bool, true, false, List, Option, Some, None}
use Rattle.config_graph.specs.Graph.{Graph}
use Rattle.change_plan.specs.declared.plan_data.Move.{Move}

pub data Statement : Type 0 where
  start : (name : List ℕ) (args : List ℤ) (graph : Graph) → Statement
  change : (name : List ℕ) (args : List ℤ) (graph : Graph) (within : ℕ) (moves : List Move) → Statement
  run : (k : ℕ) → Statement
  finish : (n : ℕ) → Statement
  show : Statement

-- the graph of the description that a start or a change names
abbrev pub graph_of : Statement → Option Graph
graph_of (start name args g) = Some g
graph_of (change name args g within moves) = Some g
graph_of (run k) = None
graph_of (finish n) = None
graph_of show = None

abbrev pub is_finish : Statement → Bool
is_finish (start name args g) = false
is_finish (change name args g within moves) = false
is_finish (run k) = false
is_finish (finish n) = true
is_finish show = false
