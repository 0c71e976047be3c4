-- On threads a second look may find a lower port drained than the first.
use Rattle.std.specs.Prelude.{List, [], ◌∷◌, ◌++◌, codes, map, pos, None}
use Rattle.quiesce_core.specs.declared.event.Event.TheVariants as event
use Rattle.report_types.specs.declared.report.HistoryLine.{HistoryLine}
use Rattle.report_types.specs.declared.report.HistoryLine.TheVariants as to
use Rattle.report_types.specs.declared.report.Last.TheVariants as last
use Rattle.report_types.specs.declared.report.NodeLog.{NodeLog}
use Rattle.report_types.specs.declared.report.Report.{Report}
use Rattle.change_spec.specs.Members.{Member, by_node, of_history}
use Rattle.change_spec.specs.Scene.{Seen}
use Rattle.change_spec.specs.Statements.{Statement, start, change}
use Rattle.change_spec.specs.Told.{Told, no_more, looked}
use Rattle.change_plan_laws.specs.Systems.{sink_t, source_at}
use Rattle.worked_report_laws.specs.Systems.{pair}
use Rattle.worked_report_laws.specs.Looks.{found}

abbrev pub script : List Statement
script =
    start (codes "Pair") (pos 1 ∷ []) (pair 1) ∷ change (codes "Pair") (pos 2 ∷ []) (pair 2) 1 [] ∷ []

abbrev pub history : List HistoryLine
history =
    to.Start (codes "Pair") (pos 1 ∷ []) ∷ to.Make 0 (source_at (codes "a") 1) None
    ∷ to.Make 1 (source_at (codes "b") 1) None ∷ to.Make 2 sink_t None ∷ to.Link 0 2 0 ∷ to.Link 1 2 0 ∷ to.Reopen 0
    ∷ to.Reopen 1 ∷ to.Commit ∷ to.Change (codes "Pair") (pos 2 ∷ []) ∷ to.Close 0 ∷ to.Close 1 ∷ to.Drained 1 0
    ∷ to.Drained 0 1 ∷ to.Unlink 0 ∷ to.Unlink 1 ∷ to.Remove 0 ∷ to.Remove 1
    ∷ to.Make 3 (source_at (codes "a") 2) None ∷ to.Make 4 (source_at (codes "b") 2) None ∷ to.Link 2 2 0
    ∷ to.Link 3 2 0 ∷ to.Reopen 2 ∷ to.Reopen 3 ∷ to.Commit ∷ to.Stop ∷ to.Close 2 ∷ to.Close 3 ∷ to.Drained 2 0
    ∷ to.Drained 3 0 ∷ []

abbrev pub log_0 : NodeLog
log_0 =
    record {
      slot = 0;
      events =
          event.Begin 0 1 1 ∷ event.End 0 1 1 ∷ [];
      last = last.State (1 ∷ []);
    }

abbrev pub log_1 : NodeLog
log_1 =
    record {
      slot = 1;
      events =
          [];
      last = last.State (0 ∷ []);
    }

abbrev pub log_2 : NodeLog
log_2 =
    record {
      slot = 2;
      events =
          event.Take 0 1 1 ∷ event.Give 0 1 1 ∷ [];
      last = last.State (1 ∷ []);
    }

abbrev pub log_3 : NodeLog
log_3 =
    record {
      slot = 3;
      events =
          [];
      last = last.State (0 ∷ []);
    }

abbrev pub log_4 : NodeLog
log_4 =
    record {
      slot = 4;
      events =
          [];
      last = last.State (0 ∷ []);
    }

abbrev pub report : Report
report =
    record {
      history = history;
      logs = log_0 ∷ log_1 ∷ log_2 ∷ log_3 ∷ log_4 ∷ [];
      unfinished = None;
      status = 0;
    }

-- an order in which all of it happened
abbrev pub members : List Member
members =
    map of_history (
    to.Start (codes "Pair") (pos 1 ∷ []) ∷ to.Make 0 (source_at (codes "a") 1) None
    ∷ to.Make 1 (source_at (codes "b") 1) None ∷ to.Make 2 sink_t None ∷ to.Link 0 2 0 ∷ to.Link 1 2 0
    ∷ to.Reopen 0 ∷ to.Reopen 1 ∷ to.Commit ∷ []
    )
    ++ map by_node (
    event.Begin 0 1 1 ∷ []
    )
    ++ map of_history (
    to.Change (codes "Pair") (pos 2 ∷ []) ∷ to.Close 0 ∷ to.Close 1 ∷ to.Drained 1 0 ∷ []
    )
    ++ map by_node (
    event.Take 0 1 1 ∷ event.Give 0 1 1 ∷ event.End 0 1 1 ∷ []
    )
    ++ map of_history (
    to.Drained 0 1 ∷ to.Unlink 0 ∷ to.Unlink 1 ∷ to.Remove 0 ∷ to.Remove 1
    ∷ to.Make 3 (source_at (codes "a") 2) None ∷ to.Make 4 (source_at (codes "b") 2) None ∷ to.Link 2 2 0
    ∷ to.Link 3 2 0 ∷ to.Reopen 2 ∷ to.Reopen 3 ∷ to.Commit ∷ to.Stop ∷ to.Close 2 ∷ to.Close 3 ∷ to.Drained 2 0
    ∷ to.Drained 3 0 ∷ []
    )

-- what the history tells beside the script
abbrev pub tells : List Told
tells =
    no_more ∷ looked (pair 1) ((found 1 0 ∷ []) ∷ (found 0 1 ∷ []) ∷ []) [] ∷ []

abbrev pub stopped : List Seen
stopped =
    found 2 0 ∷ found 3 0 ∷ []
