-- Two sources of two items end one transaction each in one round, where one was asked for. Then they end what is
-- left, and all is at rest before nine have ended.
use Rattle.std.specs.Prelude.{List, [], ◌∷◌, ◌++◌, codes, drop, map, pos, take, None}
use Rattle.quiesce_core.specs.declared.event.Event.TheVariants as event
use Rattle.report_types.specs.declared.report.HistoryLine.{HistoryLine}
use Rattle.report_types.specs.declared.report.HistoryLine.TheVariants as to
use Rattle.report_types.specs.declared.report.Last.TheVariants as last
use Rattle.report_types.specs.declared.report.NodeLog.{NodeLog}
use Rattle.report_types.specs.declared.report.Report.{Report}
use Rattle.change_spec.specs.Members.{Member, by_node, of_history}
use Rattle.change_spec.specs.Scene.{Seen}
use Rattle.change_spec.specs.Statements.{Statement, start, run}
use Rattle.change_spec.specs.Told.{Told, no_more, counted}
use Rattle.change_plan_laws.specs.Systems.{sink_t, sink_u, source_at}
use Rattle.worked_report_laws.specs.Systems.{two_of}
use Rattle.worked_report_laws.specs.Looks.{found}

abbrev pub script : List Statement
script =
    start (codes "Two") (pos 2 ∷ []) (two_of 2) ∷ run 1 ∷ run 9 ∷ []

abbrev pub history : List HistoryLine
history =
    to.Start (codes "Two") (pos 2 ∷ []) ∷ to.Make 0 (source_at (codes "a") 2) None
    ∷ to.Make 1 (source_at (codes "b") 2) None ∷ to.Make 2 sink_t None ∷ to.Make 3 sink_u None ∷ to.Link 0 2 0
    ∷ to.Link 1 3 0 ∷ to.Reopen 0 ∷ to.Reopen 1 ∷ to.Commit ∷ to.Run 1 2 ∷ to.Run 9 2 ∷ to.Stop ∷ to.Close 0
    ∷ to.Close 1 ∷ to.Drained 0 2 ∷ to.Drained 1 2 ∷ []

abbrev pub log_0 : NodeLog
log_0 =
    record {
      slot = 0;
      events =
          event.Begin 0 1 1 ∷ event.End 0 1 1 ∷ event.Begin 0 2 2 ∷ event.End 0 2 1 ∷ [];
      last = last.State (2 ∷ []);
    }

abbrev pub log_1 : NodeLog
log_1 =
    record {
      slot = 1;
      events =
          event.Begin 1 1 1 ∷ event.End 1 1 1 ∷ event.Begin 1 2 2 ∷ event.End 1 2 1 ∷ [];
      last = last.State (2 ∷ []);
    }

abbrev pub log_2 : NodeLog
log_2 =
    record {
      slot = 2;
      events =
          event.Take 0 1 1 ∷ event.Give 0 1 1 ∷ event.Take 0 2 2 ∷ event.Give 0 2 1 ∷ [];
      last = last.State (1 ∷ 2 ∷ []);
    }

abbrev pub log_3 : NodeLog
log_3 =
    record {
      slot = 3;
      events =
          event.Take 1 1 1 ∷ event.Give 1 1 1 ∷ event.Take 1 2 2 ∷ event.Give 1 2 1 ∷ [];
      last = last.State (1 ∷ 2 ∷ []);
    }

abbrev pub report : Report
report =
    record {
      history = history;
      logs = log_0 ∷ log_1 ∷ log_2 ∷ log_3 ∷ [];
      unfinished = None;
      status = 0;
    }

-- an order in which all of it happened
abbrev pub members : List Member
members =
    map of_history (
    to.Start (codes "Two") (pos 2 ∷ []) ∷ to.Make 0 (source_at (codes "a") 2) None
    ∷ to.Make 1 (source_at (codes "b") 2) None ∷ to.Make 2 sink_t None ∷ to.Make 3 sink_u None ∷ to.Link 0 2 0
    ∷ to.Link 1 3 0 ∷ to.Reopen 0 ∷ to.Reopen 1 ∷ to.Commit ∷ []
    )
    ++ map by_node (
    event.Begin 0 1 1 ∷ event.Begin 1 1 1 ∷ event.Take 0 1 1 ∷ event.Take 1 1 1 ∷ event.Give 0 1 1 ∷ event.Give 1 1 1
    ∷ event.End 0 1 1 ∷ event.End 1 1 1 ∷ []
    )
    ++ map of_history (
    to.Run 1 2 ∷ []
    )
    ++ map by_node (
    event.Begin 0 2 2 ∷ event.Begin 1 2 2 ∷ event.Take 0 2 2 ∷ event.Take 1 2 2 ∷ event.Give 0 2 1 ∷ event.Give 1 2 1
    ∷ event.End 0 2 1 ∷ event.End 1 2 1 ∷ []
    )
    ++ map of_history (
    to.Run 9 2 ∷ to.Stop ∷ to.Close 0 ∷ to.Close 1 ∷ to.Drained 0 2 ∷ to.Drained 1 2 ∷ []
    )

-- what the history tells beside the script
abbrev pub tells : List Told
tells =
    no_more ∷ counted 2 ∷ counted 2 ∷ []

abbrev pub stopped : List Seen
stopped =
    found 0 2 ∷ found 1 2 ∷ []

-- a second run counts what ends behind its own line, and doesn't wait for a round that moves nothing
abbrev pub twice_script : List Statement
twice_script =
    start (codes "Two") (pos 2 ∷ []) (two_of 2) ∷ run 1 ∷ run 1 ∷ []

abbrev pub twice_report : Report
twice_report = record report { history = take 11 history ++ to.Run 1 2 ∷ drop 12 history }
