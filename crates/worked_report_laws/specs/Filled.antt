-- Each node is done at some place, and none of these is the same for all: in the end a buffer has an item. As a report
-- this is lawful on threads, though two scans, the one behind the other, wouldn't see it.
use Rattle.std.specs.Prelude.{List, [], ◌∷◌, ◌++◌, codes, map, pos, Some, None}
use Rattle.quiesce_core.specs.declared.event.Event.TheVariants as event
use Rattle.report_types.specs.declared.report.HistoryLine.{HistoryLine}
use Rattle.report_types.specs.declared.report.HistoryLine.TheVariants as to
use Rattle.report_types.specs.declared.report.Last.TheVariants as last
use Rattle.report_types.specs.declared.report.NodeLog.{NodeLog}
use Rattle.report_types.specs.declared.report.Report.{Report}
use Rattle.change_spec.specs.Members.{Member, by_node, of_history}
use Rattle.change_spec.specs.Scene.{Seen}
use Rattle.change_spec.specs.Statements.{Statement, start, finish}
use Rattle.change_spec.specs.Told.{Told, no_more, counted}
use Rattle.change_plan_laws.specs.Systems.{sink_t, source_at}
use Rattle.worked_report_laws.specs.Systems.{buffer_at, small}
use Rattle.worked_report_laws.specs.Looks.{found}

abbrev pub script : List Statement
script =
    start (codes "Small") (pos 1 ∷ []) small ∷ finish 10 ∷ []

abbrev pub history : List HistoryLine
history =
    to.Start (codes "Small") (pos 1 ∷ []) ∷ to.Make 0 (buffer_at (codes "b") 1) None
    ∷ to.Make 1 (source_at (codes "s") 1) None ∷ to.Make 2 sink_t None ∷ to.Link 0 2 0 ∷ to.Link 1 0 0 ∷ to.Reopen 0
    ∷ to.Reopen 1 ∷ to.Commit ∷ to.Finish 10 0 ∷ to.Stop ∷ to.Close 0 ∷ to.Close 1 ∷ to.Drained 0 0 ∷ to.Drained 1 1
    ∷ []

abbrev pub log_0 : NodeLog
log_0 =
    record {
      slot = 0;
      events =
          event.Take 1 1 1 ∷ event.Give 1 1 1 ∷ [];
      last = last.State (1 ∷ []);
    }

abbrev pub log_1 : NodeLog
log_1 =
    record {
      slot = 1;
      events =
          event.Begin 1 1 1 ∷ event.End 1 1 1 ∷ [];
      last = last.State (1 ∷ []);
    }

abbrev pub log_2 : NodeLog
log_2 =
    record {
      slot = 2;
      events =
          [];
      last = last.State [];
    }

abbrev pub report : Report
report =
    record {
      history = history;
      logs = log_0 ∷ log_1 ∷ log_2 ∷ [];
      unfinished = Some 0;
      status = 8;
    }

-- an order in which all of it happened
abbrev pub members : List Member
members =
    map of_history (
    to.Start (codes "Small") (pos 1 ∷ []) ∷ to.Make 0 (buffer_at (codes "b") 1) None
    ∷ to.Make 1 (source_at (codes "s") 1) None ∷ to.Make 2 sink_t None ∷ to.Link 0 2 0 ∷ to.Link 1 0 0
    ∷ to.Reopen 0 ∷ to.Reopen 1 ∷ to.Commit ∷ []
    )
    ++ map by_node (
    event.Begin 1 1 1 ∷ event.Take 1 1 1 ∷ event.Give 1 1 1 ∷ event.End 1 1 1 ∷ []
    )
    ++ map of_history (
    to.Finish 10 0 ∷ to.Stop ∷ to.Close 0 ∷ to.Close 1 ∷ to.Drained 0 0 ∷ to.Drained 1 1 ∷ []
    )

-- what the history tells beside the script
abbrev pub tells : List Told
tells =
    no_more ∷ counted 0 ∷ []

abbrev pub stopped : List Seen
stopped =
    found 0 0 ∷ found 1 1 ∷ []
