-- To be believed (definitions.md).
-- How the nodes of a run take their turns, what the report of the run must be then, and which bytes show it.
use Rattle.std.specs.Prelude.{◌≡◌, ℕ, List}
use Rattle.change_spec.specs.Resting.{ReportsOnThreads}
use Rattle.change_spec.specs.Statements.{Statement}
use Rattle.report_types.specs.declared.report.Report.{Report}
use Rattle.report_writing.specs.Reports.{report_text}
use Rattle.watch_lines.specs.Observers.{Watched}
use Rattle.command_spec.specs.RunReports.{IsReportOf}

pub data Schedule : Type 0 where
  -- in rounds, on one thread
  rounds : Schedule
  -- by themselves, on threads, while so many observers read the graph
  threads : (observers : ℕ) → Schedule

abbrev pub IsReportBy : Schedule → List Statement → Report → Type 0
IsReportBy rounds statements report = IsReportOf statements report
IsReportBy (threads observers) statements report = ReportsOnThreads statements report

-- the text of the report, and behind it what was seen by observers, where there are any
abbrev pub IsShownBy : Schedule → Report → List ℕ → Type 0
IsShownBy rounds report bytes = bytes ≡ report_text report
IsShownBy (threads observers) report bytes = Watched report observers bytes
