-- From no node to one, and back.
use Rattle.std.specs.Prelude.{List, [], ◌∷◌, codes, map, pos, None}
use Rattle.report_types.specs.declared.report.HistoryLine.{HistoryLine}
use Rattle.report_types.specs.declared.report.HistoryLine.TheVariants as to
use Rattle.report_types.specs.declared.report.Last.TheVariants as last
use Rattle.report_types.specs.declared.report.NodeLog.{NodeLog}
use Rattle.report_types.specs.declared.report.Report.{Report}
use Rattle.change_spec.specs.Members.{Member, of_history}
use Rattle.change_spec.specs.Scene.{Seen}
use Rattle.change_spec.specs.Statements.{Statement, start, change, finish, show}
use Rattle.change_spec.specs.Told.{Told, no_more, counted, shown_graph, looked}
use Rattle.change_plan_laws.specs.Systems.{sink_t}
use Rattle.worked_report_laws.specs.Systems.{one_or_none}

abbrev pub script : List Statement
script =
    start (codes "Maybe") (pos 0 ∷ []) (one_or_none 0) ∷ change (codes "Maybe") (pos 1 ∷ []) (one_or_none 1) 0 []
    ∷ show ∷ change (codes "Maybe") (pos 0 ∷ []) (one_or_none 0) 0 [] ∷ finish 3 ∷ []

abbrev pub history : List HistoryLine
history =
    to.Start (codes "Maybe") (pos 0 ∷ []) ∷ to.Commit ∷ to.Change (codes "Maybe") (pos 1 ∷ []) ∷ to.Make 0 sink_t None
    ∷ to.Commit ∷ to.Show (one_or_none 1) ∷ to.Change (codes "Maybe") (pos 0 ∷ []) ∷ to.Remove 0 ∷ to.Commit
    ∷ to.Finish 3 0 ∷ to.Stop ∷ []

abbrev pub log_0 : NodeLog
log_0 =
    record {
      slot = 0;
      events =
          [];
      last = last.State [];
    }

abbrev pub report : Report
report =
    record {
      history = history;
      logs = log_0 ∷ [];
      unfinished = None;
      status = 0;
    }

-- an order in which all of it happened
abbrev pub members : List Member
members =
    map of_history (
    to.Start (codes "Maybe") (pos 0 ∷ []) ∷ to.Commit ∷ to.Change (codes "Maybe") (pos 1 ∷ [])
    ∷ to.Make 0 sink_t None ∷ to.Commit ∷ to.Show (one_or_none 1) ∷ to.Change (codes "Maybe") (pos 0 ∷ [])
    ∷ to.Remove 0 ∷ to.Commit ∷ to.Finish 3 0 ∷ to.Stop ∷ []
    )

-- what the history tells beside the script
abbrev pub tells : List Told
tells =
    no_more ∷ looked (one_or_none 0) ([] ∷ []) [] ∷ shown_graph (one_or_none 1) ∷ looked (one_or_none 1) ([] ∷ []) []
    ∷ counted 0 ∷ []

abbrev pub stopped : List Seen
stopped =
    []
