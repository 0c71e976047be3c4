-- One sink that is started and shown.
use Rattle.std.specs.Prelude.{List, [], ◌∷◌, codes, map, None}
use Rattle.report_types.specs.declared.report.HistoryLine.{HistoryLine}
use Rattle.report_types.specs.declared.report.HistoryLine.TheVariants as to
use Rattle.report_types.specs.declared.report.Last.TheVariants as last
use Rattle.report_types.specs.declared.report.NodeLog.{NodeLog}
use Rattle.report_types.specs.declared.report.Report.{Report}
use Rattle.change_spec.specs.Members.{Member, of_history}
use Rattle.change_spec.specs.Scene.{Seen}
use Rattle.change_spec.specs.Statements.{Statement, start, show}
use Rattle.change_spec.specs.Told.{Told, no_more, shown_graph}
use Rattle.change_plan_laws.specs.Systems.{sink_t}
use Rattle.worked_report_laws.specs.Systems.{one}

abbrev pub script : List Statement
script =
    start (codes "One") [] one ∷ show ∷ []

abbrev pub history : List HistoryLine
history =
    to.Start (codes "One") [] ∷ to.Make 0 sink_t None ∷ to.Commit ∷ to.Show one ∷ to.Stop ∷ []

abbrev pub log_0 : NodeLog
log_0 =
    record {
      slot = 0;
      events =
          [];
      last = last.State [];
    }

abbrev pub report : Report
report =
    record {
      history = history;
      logs = log_0 ∷ [];
      unfinished = None;
      status = 0;
    }

-- an order in which all of it happened
abbrev pub members : List Member
members =
    map of_history (
    to.Start (codes "One") [] ∷ to.Make 0 sink_t None ∷ to.Commit ∷ to.Show one ∷ to.Stop
    ∷ []
    )

-- what the history tells beside the script
abbrev pub tells : List Told
tells =
    no_more ∷ shown_graph one ∷ []

abbrev pub stopped : List Seen
stopped =
    []
