-- To be believed (definitions.md).
-- The lines of a script, as a run has them, and the graphs of its components.
use Rattle.std.specs.Prelude.{◌⊎◌, ◌≡◌, ℕ, ℤ, List, [], ◌∷◌, Option}
use Rattle.std.specs.List.{flat_map}
use Rattle.cfg_io.specs.Shelf.{Files}
use Rattle.config_graph.specs.Graph.{Graph}
use Rattle.change_spec.specs.Statements.{run, finish, show}
use Rattle.darwin_parser.specs.Tree.{Name}
use Rattle.report_types.specs.declared.script.Body.{Body}
use Rattle.report_types.specs.declared.script.Body.TheVariants as bodies
use Rattle.report_types.specs.declared.script.ScriptLine.{ScriptLine}
use Rattle.command_spec.specs.Courses.{Course, Follows, came, reads, then_by}
use Rattle.command_spec.specs.Descriptions.{HasGraph}
use Rattle.command_spec.specs.Files.{IsTold}
use Rattle.command_spec.specs.Lines.{RunLine, Progress, begun, of_lines, uses, calls, does, starts, changes}
use Rattle.command_spec.specs.Sorts.{limit_of, of_description, of_script}

-- `end` asks for nothing: the stop stands behind all that is to be done.
abbrev pub lines_of_body : Body → List RunLine
lines_of_body (bodies.File name) = uses name ∷ []
lines_of_body (bodies.Start name args) = calls starts name args ∷ []
lines_of_body (bodies.Run k) = does (run k) ∷ []
lines_of_body (bodies.Change name args within moves) = calls (changes within moves) name args ∷ []
lines_of_body (bodies.Finish n) = does (finish n) ∷ []
lines_of_body bodies.Show = does show ∷ []
lines_of_body bodies.Stop = []

abbrev pub lines_of_script : List ScriptLine → List RunLine
lines_of_script lines = flat_map (λ (line : ScriptLine). lines_of_body line.body) lines

-- the script in a file is read, and its lines are followed as far as they lead
abbrev pub prepares : List ℕ → Course Progress
prepares name = then_by (reads of_script name) (λ script. of_lines begun (lines_of_script script.lines))

-- by what the files hold the lines lead from the one progress to the other
abbrev pub LeadTo : Option Files → Progress → List RunLine → Progress → Type 0
LeadTo files p lines end = Follows files (of_lines p lines) [] (came end)

-- the lines use the file
abbrev pub Uses : List RunLine → List ℕ → Type 0
Uses [] name = ⊥
Uses (uses file ∷ lines) name = (name ≡ file) ⊎ Uses lines name
Uses (calls deed component args ∷ lines) name = Uses lines name
Uses (does what ∷ lines) name = Uses lines name

-- the component of a file elaborates to the graph
pub record Elaborates (files : Option Files) (file : List ℕ) (name : Name) (args : List ℤ) (graph : Graph) : Type 0 where
  pub text : List ℕ
  pub is_told : IsTold files (limit_of of_description) file text
  pub has_graph : HasGraph text name args graph
