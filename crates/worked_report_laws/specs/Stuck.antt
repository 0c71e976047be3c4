-- A source that leads nowhere begins nothing: on one thread the first round moves nothing, and the run ends.
use Rattle.std.specs.Prelude.{List, [], ◌∷◌, codes, map, pos, None}
use Rattle.report_types.specs.declared.report.HistoryLine.{HistoryLine}
use Rattle.report_types.specs.declared.report.HistoryLine.TheVariants as to
use Rattle.report_types.specs.declared.report.Last.TheVariants as last
use Rattle.report_types.specs.declared.report.NodeLog.{NodeLog}
use Rattle.report_types.specs.declared.report.Report.{Report}
use Rattle.change_spec.specs.Members.{Member, of_history}
use Rattle.change_spec.specs.Scene.{Seen}
use Rattle.change_spec.specs.Statements.{Statement, start, run}
use Rattle.change_spec.specs.Told.{Told, no_more, counted}
use Rattle.change_plan_laws.specs.Systems.{source_at}
use Rattle.worked_report_laws.specs.Systems.{lone}
use Rattle.worked_report_laws.specs.Looks.{found}

abbrev pub script : List Statement
script =
    start (codes "Lone") (pos 2 ∷ []) lone ∷ run 5 ∷ []

abbrev pub history : List HistoryLine
history =
    to.Start (codes "Lone") (pos 2 ∷ []) ∷ to.Make 0 (source_at (codes "s") 2) None ∷ to.Reopen 0 ∷ to.Commit
    ∷ to.Run 5 0 ∷ to.Stop ∷ to.Close 0 ∷ to.Drained 0 0 ∷ []

abbrev pub log_0 : NodeLog
log_0 =
    record {
      slot = 0;
      events = [];
      last = last.State (0 ∷ []);
    }

abbrev pub report : Report
report =
    record {
      history = history;
      logs = log_0 ∷ [];
      unfinished = None;
      status = 0;
    }

-- an order in which all of it happened
abbrev pub members : List Member
members =
    map of_history (
    to.Start (codes "Lone") (pos 2 ∷ []) ∷ to.Make 0 (source_at (codes "s") 2) None ∷ to.Reopen 0 ∷ to.Commit
    ∷ to.Run 5 0 ∷ to.Stop ∷ to.Close 0 ∷ to.Drained 0 0 ∷ []
    )

-- what the history tells beside the script
abbrev pub tells : List Told
tells =
    no_more ∷ counted 0 ∷ []

abbrev pub stopped : List Seen
stopped =
    found 0 0 ∷ []
