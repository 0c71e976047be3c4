-- A source that isn't done is replaced by one that isn't done either: the one that is live is named.
use Rattle.std.specs.Prelude.{List, [], ◌∷◌, codes, map, pos, Some, None}
use Rattle.report_types.specs.declared.report.HistoryLine.{HistoryLine}
use Rattle.report_types.specs.declared.report.HistoryLine.TheVariants as to
use Rattle.report_types.specs.declared.report.Last.TheVariants as last
use Rattle.report_types.specs.declared.report.NodeLog.{NodeLog}
use Rattle.report_types.specs.declared.report.Report.{Report}
use Rattle.change_spec.specs.Members.{Member, of_history}
use Rattle.change_spec.specs.Scene.{Seen}
use Rattle.change_spec.specs.Statements.{Statement, start, change, finish}
use Rattle.change_spec.specs.Told.{Told, no_more, counted, looked}
use Rattle.change_plan_laws.specs.Systems.{source_at}
use Rattle.worked_report_laws.specs.Systems.{lone, lone_of}
use Rattle.worked_report_laws.specs.Looks.{found}

abbrev pub script : List Statement
script =
    start (codes "Lone") (pos 2 ∷ []) lone ∷ change (codes "Lone") (pos 3 ∷ []) (lone_of 3) 0 [] ∷ finish 0 ∷ []

abbrev pub history : List HistoryLine
history =
    to.Start (codes "Lone") (pos 2 ∷ []) ∷ to.Make 0 (source_at (codes "s") 2) None ∷ to.Reopen 0 ∷ to.Commit
    ∷ to.Change (codes "Lone") (pos 3 ∷ []) ∷ to.Close 0 ∷ to.Drained 0 0 ∷ to.Remove 0
    ∷ to.Make 1 (source_at (codes "s") 3) None ∷ to.Reopen 1 ∷ to.Commit ∷ to.Finish 0 0 ∷ to.Stop ∷ to.Close 1
    ∷ to.Drained 1 0 ∷ []

abbrev pub log_0 : NodeLog
log_0 =
    record {
      slot = 0;
      events = [];
      last = last.State (0 ∷ []);
    }

abbrev pub log_1 : NodeLog
log_1 =
    record {
      slot = 1;
      events = [];
      last = last.State (0 ∷ []);
    }

abbrev pub report : Report
report =
    record {
      history = history;
      logs = log_0 ∷ log_1 ∷ [];
      unfinished = Some 1;
      status = 8;
    }

-- an order in which all of it happened
abbrev pub members : List Member
members = map of_history history

-- what the history tells beside the script
abbrev pub tells : List Told
tells =
    no_more ∷ looked lone ((found 0 0 ∷ []) ∷ []) [] ∷ counted 0 ∷ []

abbrev pub stopped : List Seen
stopped =
    found 1 0 ∷ []
