-- To be believed (definitions.md).
-- What the run of a script does line by line: which description is used from there on, and which graph is started or
-- changed to.
use Rattle.std.specs.Prelude.{◌≡◌, ℕ, ℤ, List, [], ◌∷◌, ◌++◌, Option, Some, None, length}
use Rattle.config_graph.specs.Graph.{Graph, ports}
use Rattle.config_graph.specs.declared.node.Made.{Made}
use Rattle.darwin_parser.specs.Tree.{Name, Tree}
use Rattle.elaborator.specs.Faults.{Faults}
use Rattle.elaborator.specs.declared.error.ElabError.{ElabError}
use Rattle.change_plan.specs.Refusals.{CanPlan, IsRefusal}
use Rattle.change_plan.specs.Room.{HasRoomFor, LacksRoomFor}
use Rattle.change_plan.specs.declared.error.PlanError.{PlanError}
use Rattle.change_plan.specs.declared.plan_data.Move.{Move}
use Rattle.change_spec.specs.Scripts.{more_made}
use Rattle.change_spec.specs.Statements.{Statement, start, change}
use Rattle.command_answers.specs.RefusalLines.{elaborate_words, plan_words}
use Rattle.command_spec.specs.Courses.{Course, ends, judges, reads, then_by}
use Rattle.command_spec.specs.Descriptions.{IsGraphOfCall}
use Rattle.command_spec.specs.Sorts.{of_description}

-- what is done with the graph of a component
pub data GraphUse : Type 0 where
  -- a run starts with it
  starts : GraphUse
  -- what runs is changed to it, within so many rounds, and these states go on
  changes : (within : ℕ) → List Move → GraphUse

pub data RunLine : Type 0 where
  -- the lines below are of the description in this file
  uses : (file : List ℕ) → RunLine
  -- a component of it, with arguments
  calls : GraphUse → (name : Name) → (args : List ℤ) → RunLine
  -- what the run does of itself, for which no description is asked
  does : (what : Statement) → RunLine

-- How far lines came: the file that was used last and the tree of its description; the graphs of the calls, the
-- latest first; what the run is to do, in order; and what it makes if each change is committed.
pub record Progress : Type 0 where
  pub file : List ℕ
  pub used : Option Tree
  pub graphs : List Graph
  pub statements : List Statement
  pub made : Made

-- before the first line
abbrev pub begun : Progress
begun = record { file = []; used = None; graphs = []; statements = []; made = record { nodes = 0; ports = 0 } }

abbrev pub with_description : Progress → List ℕ → Tree → Progress
with_description p file tree = record p { file = file; used = Some tree }

-- the statement that a call is
abbrev pub stated_by : GraphUse → Name → List ℤ → Graph → List Statement
stated_by starts name args g = start name args g ∷ []
stated_by (changes within moves) name args g = change name args g within moves ∷ []

abbrev pub with_called_graph : Progress → GraphUse → Name → List ℤ → Graph → Made → Progress
with_called_graph p deed name args g made =
    record p { graphs = g ∷ p.graphs; statements = p.statements ++ stated_by deed name args g; made = made }

abbrev pub with_statement : Progress → Statement → Progress
with_statement p what = record p { statements = p.statements ++ what ∷ [] }

-- the deed can be done with the graph, and so much is made then
abbrev pub Allows : Progress → GraphUse → Graph → Made → Type 0
Allows p starts g made = HasRoomFor p.made g × (made ≡ more_made p.made (length g.nodes) (length (ports g.nodes)))
Allows p (changes within moves) g made =
    (old : Graph) × (earlier : List Graph) × (p.graphs ≡ old ∷ earlier)
    × ((can : CanPlan old g moves p.made) × (made ≡ more_made p.made can.nodes can.ports))

-- it can't be done, and these words say why
abbrev pub Forbids : Progress → GraphUse → Graph → List (List ℕ) → Type 0
Forbids p starts g words = (e : PlanError) × LacksRoomFor p.made g e × (words ≡ plan_words e)
Forbids p (changes within moves) g words =
    (old : Graph) × (earlier : List Graph) × (p.graphs ≡ old ∷ earlier)
    × ((e : PlanError) × IsRefusal old g moves p.made e × (words ≡ plan_words e))

-- how far a call leads
pub record CallLeads (p : Progress) (deed : GraphUse) (name : Name) (args : List ℤ) (next : Progress) : Type 0 where
  pub tree : Tree
  pub is_used : p.used ≡ Some tree
  pub graph : Graph
  pub is_graph : IsGraphOfCall tree name args graph
  pub made : Made
  pub allowed : Allows p deed graph made
  pub is_next : next ≡ with_called_graph p deed name args graph made

-- the words of why a call leads nowhere: a fault of its elaboration, or else one of what is done with its graph
pub data IsCallRefusal (p : Progress) (deed : GraphUse) (name : Name) (args : List ℤ) : List (List ℕ) → Type 0 where
  by_elaboration :
      (tree : Tree) (e : ElabError) → p.used ≡ Some tree → Faults tree name args e
      → IsCallRefusal p deed name args (elaborate_words e)
  by_deed :
      (tree : Tree) (g : Graph) (words : List (List ℕ)) → p.used ≡ Some tree → IsGraphOfCall tree name args g
      → Forbids p deed g words
      → IsCallRefusal p deed name args words

-- The course of lines, to how far they lead. A line that uses a file fetches it, and no other line fetches anything.
abbrev pub of_lines : Progress → List RunLine → Course Progress
of_lines p [] = ends p
of_lines p (uses file ∷ lines) = then_by (reads of_description file) (λ tree. of_lines (with_description p file tree) lines)
of_lines p (calls deed name args ∷ lines) =
    judges Progress of_description p.file (IsCallRefusal p deed name args) (CallLeads p deed name args) (λ next. of_lines next lines)
of_lines p (does what ∷ lines) = of_lines (with_statement p what) lines
