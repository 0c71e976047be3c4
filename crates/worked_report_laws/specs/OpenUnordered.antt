-- On threads what is still open is named in the order in which it was seen.
use Rattle.std.specs.Prelude.{List, [], ◌∷◌, ◌++◌, codes, map, pos, None}
use Rattle.quiesce_core.specs.declared.event.Event.TheVariants as event
use Rattle.report_types.specs.declared.report.HistoryLine.{HistoryLine}
use Rattle.report_types.specs.declared.report.HistoryLine.TheVariants as to
use Rattle.report_types.specs.declared.report.Last.TheVariants as last
use Rattle.report_types.specs.declared.report.NodeLog.{NodeLog}
use Rattle.report_types.specs.declared.report.Report.{Report}
use Rattle.change_spec.specs.Members.{Member, by_node, of_history}
use Rattle.change_spec.specs.Scene.{Seen}
use Rattle.change_spec.specs.Statements.{Statement, start, change, run}
use Rattle.change_spec.specs.Told.{Told, no_more, counted, looked}
use Rattle.change_plan_laws.specs.Systems.{sink_t, source_at}
use Rattle.worked_report_laws.specs.Systems.{pair}
use Rattle.worked_report_laws.specs.Looks.{found}

abbrev pub script : List Statement
script =
    start (codes "Pair") (pos 1 ∷ []) (pair 1) ∷ run 0 ∷ change (codes "Pair") (pos 2 ∷ []) (pair 2) 0 [] ∷ []

abbrev pub history : List HistoryLine
history =
    to.Start (codes "Pair") (pos 1 ∷ []) ∷ to.Make 0 (source_at (codes "a") 1) None
    ∷ to.Make 1 (source_at (codes "b") 1) None ∷ to.Make 2 sink_t None ∷ to.Link 0 2 0 ∷ to.Link 1 2 0 ∷ to.Reopen 0
    ∷ to.Reopen 1 ∷ to.Commit ∷ to.Run 0 0 ∷ to.Change (codes "Pair") (pos 2 ∷ []) ∷ to.Close 0 ∷ to.Close 1
    ∷ to.Pending 0 ∷ to.Root 1 1 ∷ to.Root 0 1 ∷ to.Reopen 0 ∷ to.Reopen 1 ∷ to.Abandon ∷ to.Stop ∷ to.Close 0
    ∷ to.Close 1 ∷ to.Drained 0 1 ∷ to.Drained 1 1 ∷ []

abbrev pub log_0 : NodeLog
log_0 =
    record {
      slot = 0;
      events =
          event.Begin 0 1 1 ∷ event.End 0 1 1 ∷ [];
      last = last.State (1 ∷ []);
    }

abbrev pub log_1 : NodeLog
log_1 =
    record {
      slot = 1;
      events =
          event.Begin 1 1 1 ∷ event.End 1 1 1 ∷ [];
      last = last.State (1 ∷ []);
    }

abbrev pub log_2 : NodeLog
log_2 =
    record {
      slot = 2;
      events =
          event.Take 0 1 1 ∷ event.Give 0 1 1 ∷ event.Take 1 1 1 ∷ event.Give 1 1 1 ∷ [];
      last = last.State (1 ∷ 1 ∷ []);
    }

abbrev pub report : Report
report =
    record {
      history = history;
      logs = log_0 ∷ log_1 ∷ log_2 ∷ [];
      unfinished = None;
      status = 7;
    }

-- an order in which all of it happened
abbrev pub members : List Member
members =
    map of_history (
    to.Start (codes "Pair") (pos 1 ∷ []) ∷ to.Make 0 (source_at (codes "a") 1) None
    ∷ to.Make 1 (source_at (codes "b") 1) None ∷ to.Make 2 sink_t None ∷ to.Link 0 2 0 ∷ to.Link 1 2 0
    ∷ to.Reopen 0 ∷ to.Reopen 1 ∷ to.Commit ∷ to.Run 0 0 ∷ []
    )
    ++ map by_node (
    event.Begin 0 1 1 ∷ event.Begin 1 1 1 ∷ []
    )
    ++ map of_history (
    to.Change (codes "Pair") (pos 2 ∷ []) ∷ to.Close 0 ∷ to.Close 1 ∷ to.Pending 0 ∷ to.Reopen 0 ∷ to.Reopen 1
    ∷ to.Abandon ∷ []
    )
    ++ map by_node (
    event.Take 0 1 1 ∷ event.Give 0 1 1 ∷ event.End 0 1 1 ∷ event.Take 1 1 1 ∷ event.Give 1 1 1 ∷ event.End 1 1 1
    ∷ []
    )
    ++ map of_history (
    to.Stop ∷ to.Close 0 ∷ to.Close 1 ∷ to.Drained 0 1 ∷ to.Drained 1 1 ∷ []
    )

-- what the history tells beside the script
abbrev pub tells : List Told
tells =
    no_more ∷ counted 0 ∷ looked (pair 1) ([] ∷ []) (found 1 1 ∷ found 0 1 ∷ []) ∷ []

abbrev pub stopped : List Seen
stopped =
    found 0 1 ∷ found 1 1 ∷ []
