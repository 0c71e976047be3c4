-- When the report of a run is one that can be written and read again: what is asked of the statements, which a script
-- gives, and of numbers, which those of a run meet.
use Rattle.std.specs.Prelude.{◌≡◌, ◌<◌, ◌^◌, ⊤, ℕ, ℤ, true, List}
use Rattle.std.specs.List.{AllByRecursion}
use Rattle.config_graph.specs.Graph.{Graph}
use Rattle.config_graph.specs.declared.node.Node.{Node}
use Rattle.report_types.specs.declared.report.HistoryLine.{HistoryLine}
use Rattle.report_types.specs.declared.report.HistoryLine.TheVariants as history
use Rattle.report_types.specs.declared.report.Last.{Last}
use Rattle.report_types.specs.declared.report.Last.TheVariants as lasts
use Rattle.report_types.specs.declared.report.NodeLog.{NodeLog}
use Rattle.report_types.specs.declared.report.Report.{Report}
use Rattle.change_script.specs.StatementTexts.{IsInteger}
use Rattle.change_script.specs.Written.{IsNumber}
use Rattle.report_lines.specs.ReportLines.{Are64, IsName, lacks}
use Rattle.report_texts.specs.ReportTexts.{IsReport, IsWord}
use Rattle.report_texts.specs.declared.version.Version.TheVariants as versions
use Rattle.change_spec.specs.Consistent.{Consistent}
use Rattle.change_spec.specs.Statements.{Statement, start, change, run, finish, show}

-- a component with its arguments, as a line names it
pub record IsCall (name : List ℕ) (args : List ℤ) : Type 0 where
  pub is_name : IsName name
  pub one_line : lacks 10 name ≡ true
  pub integers : AllByRecursion IsInteger args

-- the paths of its nodes are words
abbrev pub HasWords : Graph → Type 0
HasWords g = AllByRecursion (λ (n : Node). IsWord n.path) g.nodes

-- a statement as a script gives it: names and paths are words, and numbers keep their limits
abbrev pub IsStated : Statement → Type 0
IsStated (start name args g) = IsCall name args × HasWords g
IsStated (change name args g within moves) = IsCall name args × HasWords g × IsNumber within
IsStated (run k) = IsNumber k
IsStated (finish n) = IsNumber n
IsStated show = ⊤

abbrev pub AreStated : List Statement → Type 0
AreStated statements = AllByRecursion IsStated statements

-- the numbers that no form of a line bounds: of the transactions that a run ended, and of last states
abbrev pub CountFits : HistoryLine → Type 0
CountFits (history.Run k done) = done < 2 ^ 64
CountFits _ = ⊤

abbrev pub StateFits : Last → Type 0
StateFits (lasts.State numbers) = Are64 numbers
StateFits (lasts.Moved slot) = ⊤

pub record NumbersFit (report : Report) : Type 0 where
  pub counts : AllByRecursion CountFits report.history
  pub states : AllByRecursion (λ (log : NodeLog). StateFits log.last) report.logs

-- A consistent report of such statements, whose numbers fit, is one that can be written and read again.
abbrev pub TellsItself : List Statement → Report → Type 0
TellsItself statements report =
    AreStated statements → Consistent statements report → NumbersFit report → IsReport versions.Second report
