-- Graphs and moves each of which a plan is refused for.
use Rattle.std.specs.Prelude.{ℕ, List, [], ◌∷◌, Some, None, codes}
use Rattle.config_graph.specs.Graph.{Graph, IsGraph}
use Rattle.config_graph.specs.declared.kind.Kind.TheVariants.{Fork, Sink, Source}
use Rattle.config_graph.specs.declared.node.Made.{Made}
use Rattle.config_graph.specs.declared.node.Node.{Node}
use Rattle.change_plan.specs.Refusals.{IsRefusal}
use Rattle.change_plan.specs.declared.error.PlanError.{PlanError}
use Rattle.change_plan.specs.declared.plan_data.Move.{Move}

-- two graphs between which there is no plan for these moves, where so much was made before
pub record IsRefused (old new : Graph) (moves : List Move) (made : Made) (e : PlanError) : Type 0 where
  pub old_is : IsGraph old
  pub new_is : IsGraph new
  pub refused : IsRefusal old new moves made e

-- a graph without links
abbrev graph : List Node → Graph
graph nodes = record { nodes = nodes; links = [] }

abbrev pub empty : Graph
empty = graph []

abbrev pub sink_a : Node
sink_a = record { path = codes "a"; kind = Sink; arg = None }

abbrev pub sink_b : Node
sink_b = record { path = codes "b"; kind = Sink; arg = None }

abbrev pub sink_c : Node
sink_c = record { path = codes "c"; kind = Sink; arg = None }

abbrev pub fork_b : Node
fork_b = record { path = codes "b"; kind = Fork; arg = None }

abbrev pub source_b : Node
source_b = record { path = codes "b"; kind = Source; arg = Some 1 }

abbrev pub one : Node → Graph
one node = graph (node ∷ [])

abbrev pub two : Node → Node → Graph
two node other = graph (node ∷ other ∷ [])

-- the moves from `a` to `b` and to `c`, and from `b` to `c`
abbrev pub move : Move
move = record { from = codes "a"; to = codes "b" }

abbrev pub a_to_c : Move
a_to_c = record { from = codes "a"; to = codes "c" }

abbrev pub b_to_c : Move
b_to_c = record { from = codes "b"; to = codes "c" }

abbrev pub made : ℕ → ℕ → Made
made nodes ports = record { nodes = nodes; ports = ports }
