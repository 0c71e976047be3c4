-- A source of three items that leads through a map to a sink comes to rest.
use Rattle.std.specs.Prelude.{List, [], ◌∷◌, ◌++◌, codes, map, pos, None}
use Rattle.quiesce_core.specs.declared.event.Event.TheVariants as event
use Rattle.report_types.specs.declared.report.HistoryLine.{HistoryLine}
use Rattle.report_types.specs.declared.report.HistoryLine.TheVariants as to
use Rattle.report_types.specs.declared.report.Last.TheVariants as last
use Rattle.report_types.specs.declared.report.NodeLog.{NodeLog}
use Rattle.report_types.specs.declared.report.Report.{Report}
use Rattle.change_spec.specs.Members.{Member, by_node, of_history}
use Rattle.change_spec.specs.Scene.{Seen}
use Rattle.change_spec.specs.Statements.{Statement, start, finish}
use Rattle.change_spec.specs.Told.{Told, no_more, counted}
use Rattle.change_plan_laws.specs.Systems.{line, map_m, sink_t, source_at}
use Rattle.worked_report_laws.specs.Looks.{found}

abbrev pub script : List Statement
script =
    start (codes "Line") (pos 3 ∷ pos 10 ∷ []) (line 10) ∷ finish 100 ∷ []

abbrev pub history : List HistoryLine
history =
    to.Start (codes "Line") (pos 3 ∷ pos 10 ∷ []) ∷ to.Make 0 (map_m 10) None
    ∷ to.Make 1 (source_at (codes "s") 3) None ∷ to.Make 2 sink_t None ∷ to.Link 0 2 0 ∷ to.Link 1 0 0 ∷ to.Reopen 0
    ∷ to.Reopen 1 ∷ to.Commit ∷ to.Finish 100 18 ∷ to.Stop ∷ to.Close 0 ∷ to.Close 1 ∷ to.Drained 0 3 ∷ to.Drained 1 3
    ∷ []

abbrev pub log_0 : NodeLog
log_0 =
    record {
      slot = 0;
      events =
          event.Take 1 1 1 ∷ event.Call 0 1 11 ∷ event.End 0 1 1 ∷ event.Give 1 1 1 ∷ event.Take 1 2 2
          ∷ event.Call 0 2 12 ∷ event.End 0 2 1 ∷ event.Give 1 2 1 ∷ event.Take 1 3 3 ∷ event.Call 0 3 13
          ∷ event.End 0 3 1 ∷ event.Give 1 3 1 ∷ [];
      last = last.State [];
    }

abbrev pub log_1 : NodeLog
log_1 =
    record {
      slot = 1;
      events =
          event.Begin 1 1 1 ∷ event.End 1 1 1 ∷ event.Begin 1 2 2 ∷ event.End 1 2 1 ∷ event.Begin 1 3 3
          ∷ event.End 1 3 1 ∷ [];
      last = last.State (3 ∷ []);
    }

abbrev pub log_2 : NodeLog
log_2 =
    record {
      slot = 2;
      events =
          event.Take 0 1 11 ∷ event.Give 0 1 1 ∷ event.Take 0 2 12 ∷ event.Give 0 2 1 ∷ event.Take 0 3 13
          ∷ event.Give 0 3 1 ∷ [];
      last = last.State (11 ∷ 12 ∷ 13 ∷ []);
    }

abbrev pub report : Report
report =
    record {
      history = history;
      logs = log_0 ∷ log_1 ∷ log_2 ∷ [];
      unfinished = None;
      status = 0;
    }

-- an order in which all of it happened
abbrev pub members : List Member
members =
    map of_history (
    to.Start (codes "Line") (pos 3 ∷ pos 10 ∷ []) ∷ to.Make 0 (map_m 10) None
    ∷ to.Make 1 (source_at (codes "s") 3) None ∷ to.Make 2 sink_t None ∷ to.Link 0 2 0 ∷ to.Link 1 0 0
    ∷ to.Reopen 0 ∷ to.Reopen 1 ∷ to.Commit ∷ []
    )
    ++ map by_node (
    event.Begin 1 1 1 ∷ event.Take 1 1 1 ∷ event.Call 0 1 11 ∷ event.Take 0 1 11 ∷ event.Give 0 1 1
    ∷ event.End 0 1 1 ∷ event.Give 1 1 1 ∷ event.End 1 1 1 ∷ event.Begin 1 2 2 ∷ event.Take 1 2 2
    ∷ event.Call 0 2 12 ∷ event.Take 0 2 12 ∷ event.Give 0 2 1 ∷ event.End 0 2 1 ∷ event.Give 1 2 1
    ∷ event.End 1 2 1 ∷ event.Begin 1 3 3 ∷ event.Take 1 3 3 ∷ event.Call 0 3 13 ∷ event.Take 0 3 13
    ∷ event.Give 0 3 1 ∷ event.End 0 3 1 ∷ event.Give 1 3 1 ∷ event.End 1 3 1 ∷ []
    )
    ++ map of_history (
    to.Finish 100 18 ∷ to.Stop ∷ to.Close 0 ∷ to.Close 1 ∷ to.Drained 0 3 ∷ to.Drained 1 3 ∷ []
    )

-- what the history tells beside the script
abbrev pub tells : List Told
tells =
    no_more ∷ counted 18 ∷ []

abbrev pub stopped : List Seen
stopped =
    found 0 3 ∷ found 1 3 ∷ []
