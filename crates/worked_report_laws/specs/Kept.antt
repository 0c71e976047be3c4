-- A change to the same graph.
use Rattle.std.specs.Prelude.{List, [], ◌∷◌, codes, map, pos, None}
use Rattle.report_types.specs.declared.report.HistoryLine.{HistoryLine}
use Rattle.report_types.specs.declared.report.HistoryLine.TheVariants as to
use Rattle.report_types.specs.declared.report.Last.TheVariants as last
use Rattle.report_types.specs.declared.report.NodeLog.{NodeLog}
use Rattle.report_types.specs.declared.report.Report.{Report}
use Rattle.change_spec.specs.Members.{Member, of_history}
use Rattle.change_spec.specs.Scene.{Seen}
use Rattle.change_spec.specs.Statements.{Statement, start, change}
use Rattle.change_spec.specs.Told.{Told, no_more, looked}
use Rattle.change_plan_laws.specs.Systems.{line, map_m, sink_t, source_at}
use Rattle.worked_report_laws.specs.Looks.{found}

abbrev pub script : List Statement
script =
    start (codes "Line") (pos 3 ∷ pos 10 ∷ []) (line 10)
    ∷ change (codes "Line") (pos 3 ∷ pos 10 ∷ []) (line 10) 0 [] ∷ []

abbrev pub history : List HistoryLine
history =
    to.Start (codes "Line") (pos 3 ∷ pos 10 ∷ []) ∷ to.Make 0 (map_m 10) None
    ∷ to.Make 1 (source_at (codes "s") 3) None ∷ to.Make 2 sink_t None ∷ to.Link 0 2 0 ∷ to.Link 1 0 0 ∷ to.Reopen 0
    ∷ to.Reopen 1 ∷ to.Commit ∷ to.Change (codes "Line") (pos 3 ∷ pos 10 ∷ []) ∷ to.Commit ∷ to.Stop ∷ to.Close 0
    ∷ to.Close 1 ∷ to.Drained 0 0 ∷ to.Drained 1 0 ∷ []

abbrev pub log_0 : NodeLog
log_0 =
    record {
      slot = 0;
      events = [];
      last = last.State [];
    }

abbrev pub log_1 : NodeLog
log_1 =
    record {
      slot = 1;
      events = [];
      last = last.State (0 ∷ []);
    }

abbrev pub log_2 : NodeLog
log_2 =
    record {
      slot = 2;
      events = [];
      last = last.State [];
    }

abbrev pub report : Report
report =
    record {
      history = history;
      logs = log_0 ∷ log_1 ∷ log_2 ∷ [];
      unfinished = None;
      status = 0;
    }

-- an order in which all of it happened
abbrev pub members : List Member
members =
    map of_history (
    to.Start (codes "Line") (pos 3 ∷ pos 10 ∷ []) ∷ to.Make 0 (map_m 10) None
    ∷ to.Make 1 (source_at (codes "s") 3) None ∷ to.Make 2 sink_t None ∷ to.Link 0 2 0 ∷ to.Link 1 0 0 ∷ to.Reopen 0
    ∷ to.Reopen 1 ∷ to.Commit ∷ to.Change (codes "Line") (pos 3 ∷ pos 10 ∷ []) ∷ to.Commit ∷ to.Stop ∷ to.Close 0
    ∷ to.Close 1 ∷ to.Drained 0 0 ∷ to.Drained 1 0 ∷ []
    )

-- what the history tells beside the script
abbrev pub tells : List Told
tells =
    no_more ∷ looked (line 10) ([] ∷ []) [] ∷ []

abbrev pub stopped : List Seen
stopped =
    found 0 0 ∷ found 1 0 ∷ []
