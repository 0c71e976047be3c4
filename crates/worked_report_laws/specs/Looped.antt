-- A buffer that leads to itself is replaced by one that goes on with what it holds.
use Rattle.std.specs.Prelude.{List, [], ◌∷◌, ◌++◌, codes, map, pos, Some, None}
use Rattle.quiesce_core.specs.declared.event.Event.TheVariants as event
use Rattle.report_types.specs.declared.report.HistoryLine.{HistoryLine}
use Rattle.report_types.specs.declared.report.HistoryLine.TheVariants as to
use Rattle.report_types.specs.declared.report.Last.TheVariants as last
use Rattle.report_types.specs.declared.report.NodeLog.{NodeLog}
use Rattle.report_types.specs.declared.report.Report.{Report}
use Rattle.change_spec.specs.Members.{Member, by_node, of_history}
use Rattle.change_spec.specs.Scene.{Seen}
use Rattle.change_spec.specs.Statements.{Statement, start, change, run}
use Rattle.change_spec.specs.Told.{Told, no_more, counted, looked}
use Rattle.change_plan_laws.specs.Systems.{source_at}
use Rattle.worked_report_laws.specs.Systems.{buffer_at, looped}
use Rattle.worked_report_laws.specs.Looks.{found}

abbrev pub script : List Statement
script =
    start (codes "Looped") (pos 2 ∷ []) (looped 2) ∷ run 3
    ∷ change (codes "Looped") (pos 3 ∷ []) (looped 3) 9 (record { from = codes "b"; to = codes "b" } ∷ []) ∷ run 2
    ∷ []

abbrev pub history : List HistoryLine
history =
    to.Start (codes "Looped") (pos 2 ∷ []) ∷ to.Make 0 (buffer_at (codes "b") 2) None
    ∷ to.Make 1 (source_at (codes "s") 1) None ∷ to.Link 0 0 0 ∷ to.Link 1 0 0 ∷ to.Reopen 0 ∷ to.Reopen 1 ∷ to.Commit
    ∷ to.Run 3 3 ∷ to.Change (codes "Looped") (pos 3 ∷ []) ∷ to.Close 0 ∷ to.Close 1 ∷ to.Drained 0 2 ∷ to.Drained 1 1
    ∷ to.Unlink 0 ∷ to.Unlink 1 ∷ to.Remove 0 ∷ to.Make 2 (buffer_at (codes "b") 3) (Some 0) ∷ to.Link 1 2 0
    ∷ to.Link 2 2 0 ∷ to.Reopen 1 ∷ to.Reopen 2 ∷ to.Commit ∷ to.Run 2 2 ∷ to.Stop ∷ to.Close 1 ∷ to.Close 2
    ∷ to.Drained 1 1 ∷ to.Drained 2 2 ∷ []

abbrev pub log_0 : NodeLog
log_0 =
    record {
      slot = 0;
      events =
          event.Take 1 1 1 ∷ event.Give 1 1 1 ∷ event.Begin 0 1 1 ∷ event.Take 0 1 1 ∷ event.Give 0 1 1
          ∷ event.End 0 1 1 ∷ event.Begin 0 2 1 ∷ event.Take 0 2 1 ∷ event.Give 0 2 1 ∷ event.End 0 2 1 ∷ [];
      last = last.Moved 2;
    }

abbrev pub log_1 : NodeLog
log_1 =
    record {
      slot = 1;
      events =
          event.Begin 1 1 1 ∷ event.End 1 1 1 ∷ [];
      last = last.State (1 ∷ []);
    }

abbrev pub log_2 : NodeLog
log_2 =
    record {
      slot = 2;
      events =
          event.Begin 2 1 1 ∷ event.Take 2 1 1 ∷ event.Give 2 1 1 ∷ event.End 2 1 1 ∷ event.Begin 2 2 1
          ∷ event.Take 2 2 1 ∷ event.Give 2 2 1 ∷ event.End 2 2 1 ∷ [];
      last = last.State (1 ∷ []);
    }

abbrev pub report : Report
report =
    record {
      history = history;
      logs = log_0 ∷ log_1 ∷ log_2 ∷ [];
      unfinished = None;
      status = 0;
    }

-- an order in which all of it happened
abbrev pub members : List Member
members =
    map of_history (
    to.Start (codes "Looped") (pos 2 ∷ []) ∷ to.Make 0 (buffer_at (codes "b") 2) None
    ∷ to.Make 1 (source_at (codes "s") 1) None ∷ to.Link 0 0 0 ∷ to.Link 1 0 0 ∷ to.Reopen 0 ∷ to.Reopen 1
    ∷ to.Commit ∷ []
    )
    ++ map by_node (
    event.Begin 1 1 1 ∷ event.Take 1 1 1 ∷ event.Give 1 1 1 ∷ event.End 1 1 1 ∷ event.Begin 0 1 1
    ∷ event.Take 0 1 1 ∷ event.Give 0 1 1 ∷ event.End 0 1 1 ∷ event.Begin 0 2 1 ∷ event.Take 0 2 1
    ∷ event.Give 0 2 1 ∷ event.End 0 2 1 ∷ []
    )
    ++ map of_history (
    to.Run 3 3 ∷ to.Change (codes "Looped") (pos 3 ∷ []) ∷ to.Close 0 ∷ to.Close 1 ∷ to.Drained 0 2
    ∷ to.Drained 1 1 ∷ to.Unlink 0 ∷ to.Unlink 1 ∷ to.Remove 0 ∷ to.Make 2 (buffer_at (codes "b") 3) (Some 0)
    ∷ to.Link 1 2 0 ∷ to.Link 2 2 0 ∷ to.Reopen 1 ∷ to.Reopen 2 ∷ to.Commit ∷ []
    )
    ++ map by_node (
    event.Begin 2 1 1 ∷ event.Take 2 1 1 ∷ event.Give 2 1 1 ∷ event.End 2 1 1 ∷ event.Begin 2 2 1
    ∷ event.Take 2 2 1 ∷ event.Give 2 2 1 ∷ event.End 2 2 1 ∷ []
    )
    ++ map of_history (
    to.Run 2 2 ∷ to.Stop ∷ to.Close 1 ∷ to.Close 2 ∷ to.Drained 1 1 ∷ to.Drained 2 2 ∷ []
    )

-- what the history tells beside the script
abbrev pub tells : List Told
tells =
    no_more ∷ counted 3 ∷ looked (looped 2) ((found 0 2 ∷ found 1 1 ∷ []) ∷ []) [] ∷ counted 2 ∷ []

abbrev pub stopped : List Seen
stopped =
    found 1 1 ∷ found 2 2 ∷ []
