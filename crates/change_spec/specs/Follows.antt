-- To be believed (definitions.md).
-- A history follows a script: it has the lines of each statement, one statement after the other, and then those of
-- the stop.
use Rattle.std.specs.Prelude.{◌≡◌, ℕ, ℤ, true, false, List, [], ◌∷◌, ◌++◌, map, flat_map}
use Rattle.std.specs.List.{list_any}
use Rattle.base.specs.Each.{Each}
use Rattle.config_graph.specs.Graph.{Graph}
use Rattle.quiesce_laws.specs.Starts.{start_of}
use Rattle.report_types.specs.declared.report.HistoryLine.{HistoryLine}
use Rattle.report_types.specs.declared.report.HistoryLine.TheVariants as to
use Rattle.change_spec.specs.Changes.{IsChange}
use Rattle.change_spec.specs.Members.{is_pending, lines_of_events}
use Rattle.quiesce_laws.specs.Steps.{live_ports}
use Rattle.change_spec.specs.Scene.{AreSeen, Seen, config_after, drained_line}
use Rattle.change_spec.specs.Statements.{Statement, start, change, run, finish, show}

-- one statement with its lines
pub record Part : Type 0 where
  pub statement : Statement
  pub lines : List HistoryLine

abbrev pub lines_of : List Part → List HistoryLine
lines_of parts = flat_map (λ (p : Part). p.lines) parts

-- all is made, linked and reopened, and committed
abbrev pub start_lines : List ℕ → List ℤ → Graph → List HistoryLine
start_lines name args g = to.Start name args ∷ lines_of_events (start_of g) ++ to.Commit ∷ []

-- the one line of a run, a finish or a show: what its numbers and its graph must be is no matter of the history alone
pub record IsRunLine (k : ℕ) (lines : List HistoryLine) : Type 0 where
  pub ended : ℕ
  pub are : lines ≡ to.Run k ended ∷ []

pub record IsFinishLine (n : ℕ) (lines : List HistoryLine) : Type 0 where
  pub rounds : ℕ
  pub are : lines ≡ to.Finish n rounds ∷ []

pub record IsShowLine (lines : List HistoryLine) : Type 0 where
  pub graph : Graph
  pub are : lines ≡ to.Show graph ∷ []

abbrev pub skip_lines : List ℕ → List ℤ → List HistoryLine
skip_lines name args = to.Change name args ∷ to.Skipped ∷ []

-- the lines of a statement, behind these lines; a change is skipped exactly where one before it was given up
abbrev pub IsRight : List HistoryLine → Statement → List HistoryLine → Type 0
IsRight before (start name args g) lines = lines ≡ start_lines name args g
IsRight before (change name args g within moves) lines =
    (list_any is_pending before ≡ true → lines ≡ skip_lines name args)
    × (list_any is_pending before ≡ false → IsChange before name args g within moves lines)
IsRight before (run k) lines = IsRunLine k lines
IsRight before (finish n) lines = IsFinishLine n lines
IsRight before show lines = IsShowLine lines

abbrev pub AreRight : List Part → Type 0
AreRight parts = Each (λ before part. IsRight (lines_of before) part.statement part.lines) parts

-- the stop closes every live port, and finds these drained
abbrev pub stop_lines : List HistoryLine → List Seen → List HistoryLine
stop_lines before seen = to.Stop ∷ map to.Close (live_ports (config_after before)) ++ map drained_line seen

-- each of them is found drained
pub record IsStop (before lines : List HistoryLine) : Type 0 where
  pub seen : List Seen
  pub are : lines ≡ stop_lines before seen
  pub all_seen : AreSeen (live_ports (config_after before)) seen

pub record Follows (statements : List Statement) (history : List HistoryLine) : Type 0 where
  pub parts : List Part
  pub stop : List HistoryLine
  pub statements_are : map (λ (p : Part). p.statement) parts ≡ statements
  pub right : AreRight parts
  pub stops : IsStop (lines_of parts) stop
  pub history_is : lines_of parts ++ stop ≡ history
