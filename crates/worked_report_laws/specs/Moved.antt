-- A bank moves money, and then an account is replaced by one that goes on with its balance.
use Rattle.std.specs.Prelude.{List, [], ◌∷◌, ◌++◌, codes, map, pos, Some, None}
use Rattle.quiesce_core.specs.declared.event.Event.TheVariants as event
use Rattle.report_types.specs.declared.report.HistoryLine.{HistoryLine}
use Rattle.report_types.specs.declared.report.HistoryLine.TheVariants as to
use Rattle.report_types.specs.declared.report.Last.TheVariants as last
use Rattle.report_types.specs.declared.report.NodeLog.{NodeLog}
use Rattle.report_types.specs.declared.report.Report.{Report}
use Rattle.change_spec.specs.Members.{Member, by_node, of_history}
use Rattle.change_spec.specs.Scene.{Seen}
use Rattle.change_spec.specs.Statements.{Statement, start, change, run, finish}
use Rattle.change_spec.specs.Told.{Told, no_more, counted, looked}
use Rattle.change_plan_laws.specs.Systems.{account_at, bank, branch_r, teller_w}
use Rattle.worked_report_laws.specs.Looks.{found}

abbrev pub script : List Statement
script =
    start (codes "Bank") (pos 3 ∷ pos 100 ∷ pos 0 ∷ []) (bank 3 100) ∷ run 9
    ∷ change (codes "Bank") (pos 3 ∷ pos 7 ∷ pos 0 ∷ []) (bank 3 7) 10
    (record { from = codes "a"; to = codes "a" } ∷ [])
    ∷ finish 10 ∷ []

abbrev pub history : List HistoryLine
history =
    to.Start (codes "Bank") (pos 3 ∷ pos 100 ∷ pos 0 ∷ []) ∷ to.Make 0 (account_at (codes "a") 100) None
    ∷ to.Make 1 (account_at (codes "b") 0) None ∷ to.Make 2 branch_r None ∷ to.Make 3 (teller_w 3) None
    ∷ to.Link 0 0 0 ∷ to.Link 1 1 0 ∷ to.Link 2 2 0 ∷ to.Reopen 0 ∷ to.Reopen 1 ∷ to.Reopen 2 ∷ to.Commit ∷ to.Run 9 9
    ∷ to.Change (codes "Bank") (pos 3 ∷ pos 7 ∷ pos 0 ∷ []) ∷ to.Close 0 ∷ to.Close 1 ∷ to.Close 2 ∷ to.Drained 0 3
    ∷ to.Drained 1 3 ∷ to.Drained 2 3 ∷ to.Unlink 0 ∷ to.Remove 0 ∷ to.Make 4 (account_at (codes "a") 7) (Some 0)
    ∷ to.Link 0 4 0 ∷ to.Reopen 0 ∷ to.Reopen 1 ∷ to.Reopen 2 ∷ to.Commit ∷ to.Finish 10 0 ∷ to.Stop ∷ to.Close 0
    ∷ to.Close 1 ∷ to.Close 2 ∷ to.Drained 0 3 ∷ to.Drained 1 3 ∷ to.Drained 2 3 ∷ []

abbrev pub log_0 : NodeLog
log_0 =
    record {
      slot = 0;
      events =
          event.Take 0 1 3 ∷ event.Give 0 1 1 ∷ event.Take 0 2 5 ∷ event.Give 0 2 1 ∷ event.Take 0 3 7
          ∷ event.Give 0 3 1 ∷ [];
      last = last.Moved 4;
    }

abbrev pub log_1 : NodeLog
log_1 =
    record {
      slot = 1;
      events =
          event.Take 1 1 2 ∷ event.Give 1 1 1 ∷ event.Take 1 2 4 ∷ event.Give 1 2 1 ∷ event.Take 1 3 6
          ∷ event.Give 1 3 1 ∷ [];
      last = last.State (6 ∷ []);
    }

abbrev pub log_2 : NodeLog
log_2 =
    record {
      slot = 2;
      events =
          event.Take 2 1 1 ∷ event.Call 0 1 3 ∷ event.End 0 1 1 ∷ event.Call 1 1 2 ∷ event.End 1 1 1
          ∷ event.Give 2 1 1 ∷ event.Take 2 2 2 ∷ event.Call 0 2 5 ∷ event.End 0 2 1 ∷ event.Call 1 2 4
          ∷ event.End 1 2 1 ∷ event.Give 2 2 1 ∷ event.Take 2 3 3 ∷ event.Call 0 3 7 ∷ event.End 0 3 1
          ∷ event.Call 1 3 6 ∷ event.End 1 3 1 ∷ event.Give 2 3 1 ∷ [];
      last = last.State [];
    }

abbrev pub log_3 : NodeLog
log_3 =
    record {
      slot = 3;
      events =
          event.Begin 2 1 1 ∷ event.End 2 1 1 ∷ event.Begin 2 2 2 ∷ event.End 2 2 1 ∷ event.Begin 2 3 3
          ∷ event.End 2 3 1 ∷ [];
      last = last.State (3 ∷ []);
    }

abbrev pub log_4 : NodeLog
log_4 =
    record {
      slot = 4;
      events =
          [];
      last = last.State (94 ∷ []);
    }

abbrev pub report : Report
report =
    record {
      history = history;
      logs = log_0 ∷ log_1 ∷ log_2 ∷ log_3 ∷ log_4 ∷ [];
      unfinished = None;
      status = 0;
    }

-- an order in which all of it happened
abbrev pub members : List Member
members =
    map of_history (
    to.Start (codes "Bank") (pos 3 ∷ pos 100 ∷ pos 0 ∷ []) ∷ to.Make 0 (account_at (codes "a") 100) None
    ∷ to.Make 1 (account_at (codes "b") 0) None ∷ to.Make 2 branch_r None ∷ to.Make 3 (teller_w 3) None
    ∷ to.Link 0 0 0 ∷ to.Link 1 1 0 ∷ to.Link 2 2 0 ∷ to.Reopen 0 ∷ to.Reopen 1 ∷ to.Reopen 2 ∷ to.Commit ∷ []
    )
    ++ map by_node (
    event.Begin 2 1 1 ∷ event.Take 2 1 1 ∷ event.Call 0 1 3 ∷ event.Take 0 1 3 ∷ event.Give 0 1 1
    ∷ event.End 0 1 1 ∷ event.Call 1 1 2 ∷ event.Take 1 1 2 ∷ event.Give 1 1 1 ∷ event.End 1 1 1
    ∷ event.Give 2 1 1 ∷ event.End 2 1 1 ∷ event.Begin 2 2 2 ∷ event.Take 2 2 2 ∷ event.Call 0 2 5
    ∷ event.Take 0 2 5 ∷ event.Give 0 2 1 ∷ event.End 0 2 1 ∷ event.Call 1 2 4 ∷ event.Take 1 2 4
    ∷ event.Give 1 2 1 ∷ event.End 1 2 1 ∷ event.Give 2 2 1 ∷ event.End 2 2 1 ∷ event.Begin 2 3 3
    ∷ event.Take 2 3 3 ∷ event.Call 0 3 7 ∷ event.Take 0 3 7 ∷ event.Give 0 3 1 ∷ event.End 0 3 1
    ∷ event.Call 1 3 6 ∷ event.Take 1 3 6 ∷ event.Give 1 3 1 ∷ event.End 1 3 1 ∷ event.Give 2 3 1
    ∷ event.End 2 3 1 ∷ []
    )
    ++ map of_history (
    to.Run 9 9 ∷ to.Change (codes "Bank") (pos 3 ∷ pos 7 ∷ pos 0 ∷ []) ∷ to.Close 0 ∷ to.Close 1 ∷ to.Close 2
    ∷ to.Drained 0 3 ∷ to.Drained 1 3 ∷ to.Drained 2 3 ∷ to.Unlink 0 ∷ to.Remove 0
    ∷ to.Make 4 (account_at (codes "a") 7) (Some 0) ∷ to.Link 0 4 0 ∷ to.Reopen 0 ∷ to.Reopen 1 ∷ to.Reopen 2
    ∷ to.Commit ∷ to.Finish 10 0 ∷ to.Stop ∷ to.Close 0 ∷ to.Close 1 ∷ to.Close 2 ∷ to.Drained 0 3
    ∷ to.Drained 1 3 ∷ to.Drained 2 3 ∷ []
    )

-- what the history tells beside the script
abbrev pub tells : List Told
tells =
    no_more ∷ counted 9 ∷ looked (bank 3 100) ((found 0 3 ∷ found 1 3 ∷ found 2 3 ∷ []) ∷ []) [] ∷ counted 0 ∷ []

abbrev pub stopped : List Seen
stopped =
    found 0 3 ∷ found 1 3 ∷ found 2 3 ∷ []
