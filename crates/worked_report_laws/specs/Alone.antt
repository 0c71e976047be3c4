-- A source that leads nowhere: it begins nothing, and is never done. On one thread the first round moves nothing, and
-- the finish ends.
use Rattle.std.specs.Prelude.{ℕ, List, [], ◌∷◌, ◌++◌, codes, map, pos, Option, Some, None}
use Rattle.report_types.specs.declared.report.HistoryLine.{HistoryLine}
use Rattle.report_types.specs.declared.report.HistoryLine.TheVariants as to
use Rattle.report_types.specs.declared.report.Last.TheVariants as last
use Rattle.report_types.specs.declared.report.NodeLog.{NodeLog}
use Rattle.report_types.specs.declared.report.Report.{Report}
use Rattle.change_spec.specs.Members.{Member, of_history}
use Rattle.change_spec.specs.Scene.{Seen}
use Rattle.change_spec.specs.Statements.{Statement, start, finish}
use Rattle.change_spec.specs.Told.{Told, no_more, counted}
use Rattle.change_plan_laws.specs.Systems.{source_at}
use Rattle.worked_report_laws.specs.Systems.{lone}
use Rattle.worked_report_laws.specs.Looks.{found}

abbrev pub script : List Statement
script =
    start (codes "Lone") (pos 2 ∷ []) lone ∷ finish 5 ∷ []

abbrev pub start_lines : List HistoryLine
start_lines =
    to.Start (codes "Lone") (pos 2 ∷ []) ∷ to.Make 0 (source_at (codes "s") 2) None ∷ to.Reopen 0 ∷ to.Commit ∷ []

abbrev pub stop_lines : List HistoryLine
stop_lines =
    to.Stop ∷ to.Close 0 ∷ to.Drained 0 0 ∷ []

abbrev pub log_0 : NodeLog
log_0 = record { slot = 0; events = []; last = last.State (0 ∷ []) }

-- a report of it in which the finish took so many rounds
abbrev pub report_of : ℕ → Option ℕ → ℕ → Report
report_of rounds unfinished status =
    record {
      history = start_lines ++ to.Finish 5 rounds ∷ stop_lines;
      logs = log_0 ∷ [];
      unfinished = unfinished;
      status = status;
    }

abbrev pub report : Report
report = report_of 1 (Some 0) 8

-- an order in which all of it happened
abbrev pub members : List Member
members = map of_history report.history

-- what the history tells beside the script
abbrev pub tells : List Told
tells =
    no_more ∷ counted 1 ∷ []

abbrev pub stopped : List Seen
stopped =
    found 0 0 ∷ []
