-- A change is given up after three rounds, in which one more port was found drained. Then nothing more is done, and
-- the first of three nodes that are not done is named.
use Rattle.std.specs.Prelude.{List, [], ◌∷◌, ◌++◌, codes, map, pos, Some, None}
use Rattle.quiesce_core.specs.declared.event.Event.TheVariants as event
use Rattle.report_types.specs.declared.report.HistoryLine.{HistoryLine}
use Rattle.report_types.specs.declared.report.HistoryLine.TheVariants as to
use Rattle.report_types.specs.declared.report.Last.TheVariants as last
use Rattle.report_types.specs.declared.report.NodeLog.{NodeLog}
use Rattle.report_types.specs.declared.report.Report.{Report}
use Rattle.change_spec.specs.Members.{Member, by_node, of_history}
use Rattle.change_spec.specs.Scene.{Seen}
use Rattle.change_spec.specs.Statements.{Statement, start, change, run, finish}
use Rattle.change_spec.specs.Told.{Told, no_more, counted, looked}
use Rattle.change_plan_laws.specs.Systems.{sink_t, source_at}
use Rattle.worked_report_laws.specs.Systems.{three}
use Rattle.worked_report_laws.specs.Looks.{found}

abbrev pub script : List Statement
script =
    start (codes "Three") (pos 2 ∷ []) (three 2) ∷ run 1 ∷ change (codes "Three") (pos 3 ∷ []) (three 3) 3 []
    ∷ finish 0 ∷ []

abbrev pub history : List HistoryLine
history =
    to.Start (codes "Three") (pos 2 ∷ []) ∷ to.Make 0 (source_at (codes "a") 2) None
    ∷ to.Make 1 (source_at (codes "b") 2) None ∷ to.Make 2 (source_at (codes "c") 2) None ∷ to.Make 3 sink_t None
    ∷ to.Link 0 3 0 ∷ to.Link 1 3 0 ∷ to.Link 2 3 0 ∷ to.Reopen 0 ∷ to.Reopen 1 ∷ to.Reopen 2 ∷ to.Commit ∷ to.Run 1 1
    ∷ to.Change (codes "Three") (pos 3 ∷ []) ∷ to.Close 0 ∷ to.Close 1 ∷ to.Close 2 ∷ to.Drained 0 1 ∷ to.Drained 1 1
    ∷ to.Pending 3 ∷ to.Root 2 1 ∷ to.Reopen 0 ∷ to.Reopen 1 ∷ to.Reopen 2 ∷ to.Abandon ∷ to.Finish 0 0 ∷ to.Stop
    ∷ to.Close 0 ∷ to.Close 1 ∷ to.Close 2 ∷ to.Drained 0 1 ∷ to.Drained 1 1 ∷ to.Drained 2 1 ∷ []

abbrev pub log_0 : NodeLog
log_0 =
    record {
      slot = 0;
      events =
          event.Begin 0 1 1 ∷ event.End 0 1 1 ∷ [];
      last = last.State (1 ∷ []);
    }

abbrev pub log_1 : NodeLog
log_1 =
    record {
      slot = 1;
      events =
          event.Begin 1 1 1 ∷ event.End 1 1 1 ∷ [];
      last = last.State (1 ∷ []);
    }

abbrev pub log_2 : NodeLog
log_2 =
    record {
      slot = 2;
      events =
          event.Begin 2 1 1 ∷ event.End 2 1 1 ∷ [];
      last = last.State (1 ∷ []);
    }

abbrev pub log_3 : NodeLog
log_3 =
    record {
      slot = 3;
      events =
          event.Take 0 1 1 ∷ event.Give 0 1 1 ∷ event.Take 1 1 1 ∷ event.Give 1 1 1 ∷ event.Take 2 1 1
          ∷ event.Give 2 1 1 ∷ [];
      last = last.State (1 ∷ 1 ∷ 1 ∷ []);
    }

abbrev pub report : Report
report =
    record {
      history = history;
      logs = log_0 ∷ log_1 ∷ log_2 ∷ log_3 ∷ [];
      unfinished = Some 0;
      status = 7;
    }

-- an order in which all of it happened
abbrev pub members : List Member
members =
    map of_history (
    to.Start (codes "Three") (pos 2 ∷ []) ∷ to.Make 0 (source_at (codes "a") 2) None
    ∷ to.Make 1 (source_at (codes "b") 2) None ∷ to.Make 2 (source_at (codes "c") 2) None ∷ to.Make 3 sink_t None
    ∷ to.Link 0 3 0 ∷ to.Link 1 3 0 ∷ to.Link 2 3 0 ∷ to.Reopen 0 ∷ to.Reopen 1 ∷ to.Reopen 2 ∷ to.Commit ∷ []
    )
    ++ map by_node (
    event.Begin 0 1 1 ∷ event.Begin 1 1 1 ∷ event.Begin 2 1 1 ∷ event.Take 0 1 1 ∷ event.Give 0 1 1 ∷ event.End 0 1 1
    ∷ event.Take 1 1 1 ∷ []
    )
    ++ map of_history (
    to.Run 1 1 ∷ to.Change (codes "Three") (pos 3 ∷ []) ∷ to.Close 0 ∷ to.Close 1 ∷ to.Close 2 ∷ to.Drained 0 1 ∷ []
    )
    ++ map by_node (
    event.Give 1 1 1 ∷ event.End 1 1 1 ∷ event.Take 2 1 1 ∷ []
    )
    ++ map of_history (
    to.Drained 1 1 ∷ []
    )
    ++ map by_node (
    event.Give 2 1 1 ∷ []
    )
    ++ map of_history (
    to.Pending 3 ∷ to.Reopen 0 ∷ to.Reopen 1 ∷ to.Reopen 2 ∷ to.Abandon ∷ to.Finish 0 0 ∷ to.Stop ∷ to.Close 0
    ∷ to.Close 1 ∷ to.Close 2 ∷ to.Drained 0 1 ∷ to.Drained 1 1 ∷ []
    )
    ++ map by_node (
    event.End 2 1 1 ∷ []
    )
    ++ map of_history (
    to.Drained 2 1 ∷ []
    )

-- what the history tells beside the script
abbrev pub tells : List Told
tells =
    no_more ∷ counted 1 ∷ looked (three 2) ((found 0 1 ∷ []) ∷ [] ∷ (found 1 1 ∷ []) ∷ [] ∷ []) (found 2 1 ∷ [])
    ∷ counted 0 ∷ []

abbrev pub stopped : List Seen
stopped =
    found 0 1 ∷ found 1 1 ∷ found 2 1 ∷ []
