-- An asker asks an adder for one sum, which takes a further message.
use Rattle.std.specs.Prelude.{List, [], ◌∷◌, ◌++◌, codes, map, pos, None}
use Rattle.quiesce_core.specs.declared.event.Event.TheVariants as event
use Rattle.report_types.specs.declared.report.HistoryLine.{HistoryLine}
use Rattle.report_types.specs.declared.report.HistoryLine.TheVariants as to
use Rattle.report_types.specs.declared.report.Last.TheVariants as last
use Rattle.report_types.specs.declared.report.NodeLog.{NodeLog}
use Rattle.report_types.specs.declared.report.Report.{Report}
use Rattle.change_spec.specs.Members.{Member, by_node, of_history}
use Rattle.change_spec.specs.Scene.{Seen}
use Rattle.change_spec.specs.Statements.{Statement, start, run}
use Rattle.change_spec.specs.Told.{Told, no_more, counted}
use Rattle.worked_report_laws.specs.Systems.{adder_a, asker_q, sums}
use Rattle.worked_report_laws.specs.Looks.{found}

abbrev pub script : List Statement
script =
    start (codes "Sums") (pos 1 ∷ []) sums ∷ run 1 ∷ []

abbrev pub history : List HistoryLine
history =
    to.Start (codes "Sums") (pos 1 ∷ []) ∷ to.Make 0 adder_a None ∷ to.Make 1 (asker_q 1) None ∷ to.Link 0 0 0
    ∷ to.Reopen 0 ∷ to.Commit ∷ to.Run 1 1 ∷ to.Stop ∷ to.Close 0 ∷ to.Drained 0 1 ∷ []

abbrev pub log_0 : NodeLog
log_0 =
    record {
      slot = 0;
      events =
          event.Take 0 1 1 ∷ event.More 0 1 1 ∷ event.Hear 0 1 1 ∷ event.Give 0 1 2 ∷ [];
      last = last.State [];
    }

abbrev pub log_1 : NodeLog
log_1 =
    record {
      slot = 1;
      events =
          event.Begin 0 1 1 ∷ event.Ask 0 1 1 ∷ event.End 0 1 2 ∷ [];
      last = last.State (1 ∷ 2 ∷ []);
    }

abbrev pub report : Report
report =
    record {
      history = history;
      logs = log_0 ∷ log_1 ∷ [];
      unfinished = None;
      status = 0;
    }

-- an order in which all of it happened
abbrev pub members : List Member
members =
    map of_history (
    to.Start (codes "Sums") (pos 1 ∷ []) ∷ to.Make 0 adder_a None ∷ to.Make 1 (asker_q 1) None ∷ to.Link 0 0 0
    ∷ to.Reopen 0 ∷ to.Commit ∷ []
    )
    ++ map by_node (
    event.Begin 0 1 1 ∷ event.Take 0 1 1 ∷ event.More 0 1 1 ∷ event.Ask 0 1 1 ∷ event.Hear 0 1 1
    ∷ event.Give 0 1 2 ∷ event.End 0 1 2 ∷ []
    )
    ++ map of_history (
    to.Run 1 1 ∷ to.Stop ∷ to.Close 0 ∷ to.Drained 0 1 ∷ []
    )

-- what the history tells beside the script
abbrev pub tells : List Told
tells =
    no_more ∷ counted 1 ∷ []

abbrev pub stopped : List Seen
stopped =
    found 0 1 ∷ []
