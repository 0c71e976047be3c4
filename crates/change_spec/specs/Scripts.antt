-- To be believed (definitions.md).
-- Which statements a script has, by what its descriptions elaborate to. A change is planned from the graph that the
-- start or change before it named, and there must be room for all that the lines above would make: whether a change
-- is given up isn't known before the run. `elab` says to which graph a component elaborates: by the file's name, the
-- component's, and its arguments.
use Rattle.std.specs.Prelude.{◌≡◌, ◌+◌, ℕ, ℤ, List, [], ◌∷◌, ◌++◌, length}
use Rattle.config_graph.specs.Graph.{Graph, ports}
use Rattle.config_graph.specs.declared.node.Made.{Made}
use Rattle.change_plan.specs.Refusals.{CanPlan}
use Rattle.change_plan.specs.Room.{HasRoomFor}
use Rattle.change_plan.specs.declared.plan_data.Move.{Move}
use Rattle.report_types.specs.declared.script.Body.{Body}
use Rattle.report_types.specs.declared.script.Body.TheVariants as bodies
use Rattle.report_types.specs.declared.script.Script.{Script}
use Rattle.report_types.specs.declared.script.ScriptLine.{ScriptLine}
use Rattle.change_spec.specs.Statements.{Statement, start, change, run, finish, show}

-- what stands above a line: the file that is looked in, the graph that was named last, and how many nodes and ports
-- were made if each change was committed
pub record Above : Type 0 where
  pub file : List ℕ
  pub graph : Graph
  pub made : Made

abbrev pub nothing_above : Above
nothing_above =
    record { file = []; graph = record { nodes = []; links = [] }; made = record { nodes = 0; ports = 0 } }

-- nothing is made yet
abbrev pub nothing_made : Made
nothing_made = nothing_above.made

abbrev pub more_made : Made → ℕ → ℕ → Made
more_made made nodes wanted_ports = record { nodes = made.nodes + nodes; ports = made.ports + wanted_ports }

-- a start: there is room for its graph
pub record SaysStart (elab : List ℕ → List ℕ → List ℤ → Graph → Type 0) (above : Above) (name : List ℕ) (args : List ℤ)
    (own : List Statement) (next : Above) : Type 0 where
  pub graph : Graph
  pub elaborates : elab above.file name args graph
  pub room : HasRoomFor above.made graph
  pub own_is : own ≡ start name args graph ∷ []
  pub next_is : next ≡ record above {
    graph = graph;
    made = more_made above.made (length graph.nodes) (length (ports graph.nodes));
  }

-- a change: nothing stands against a plan from the graph above
pub record SaysChange (elab : List ℕ → List ℕ → List ℤ → Graph → Type 0) (above : Above) (name : List ℕ) (args : List ℤ)
    (within : ℕ) (moves : List Move) (own : List Statement) (next : Above) : Type 0 where
  pub graph : Graph
  pub elaborates : elab above.file name args graph
  pub can_plan : CanPlan above.graph graph moves above.made
  pub own_is : own ≡ change name args graph within moves ∷ []
  pub next_is : next ≡ record above {
    graph = graph;
    made = more_made above.made can_plan.nodes can_plan.ports;
  }

-- what a line says: `use` names the file of the lines below, `end` says nothing, each other line is one statement
abbrev pub Says : (List ℕ → List ℕ → List ℤ → Graph → Type 0) → Above → Body → List Statement → Above → Type 0
Says elab above (bodies.File name) own next = (own ≡ []) × (next ≡ record above { file = name })
Says elab above (bodies.Start name args) own next = SaysStart elab above name args own next
Says elab above (bodies.Run k) own next = (own ≡ run k ∷ []) × (next ≡ above)
Says elab above (bodies.Change name args within moves) own next = SaysChange elab above name args within moves own next
Says elab above (bodies.Finish n) own next = (own ≡ finish n ∷ []) × (next ≡ above)
Says elab above bodies.Show own next = (own ≡ show ∷ []) × (next ≡ above)
Says elab above bodies.Stop own next = (own ≡ []) × (next ≡ above)

-- a line says these, and those below it the rest
pub record SaysFirst (elab : List ℕ → List ℕ → List ℤ → Graph → Type 0) (above : Above) (line : ScriptLine)
    (Rest : Above → List Statement → Type 0) (statements : List Statement) : Type 0 where
  pub own : List Statement
  pub rest : List Statement
  pub next : Above
  pub says : Says elab above line.body own next
  pub below : Rest next rest
  pub are : statements ≡ own ++ rest

abbrev pub SayAll : (List ℕ → List ℕ → List ℤ → Graph → Type 0) → List ScriptLine → Above → List Statement → Type 0
SayAll elab [] above statements = statements ≡ []
SayAll elab (line ∷ lines) above statements = SaysFirst elab above line (SayAll elab lines) statements

-- The script has these statements, where its components elaborate so.
abbrev pub StatementsOf : (List ℕ → List ℕ → List ℤ → Graph → Type 0) → Script → List Statement → Type 0
StatementsOf elab script statements = SayAll elab script.lines nothing_above statements
