-- Lines that say another thing than their statement asks for, and what a change may not do besides.
use Rattle.std.specs.Prelude.{List, [], ◌∷◌, ◌++◌, codes, drop, pos, take, None}
use Rattle.quiesce_core.specs.declared.event.Event.TheVariants as event
use Rattle.change_plan.specs.declared.plan_data.Move.{Move}
use Rattle.report_types.specs.declared.report.HistoryLine.{HistoryLine}
use Rattle.report_types.specs.declared.report.HistoryLine.TheVariants as to
use Rattle.report_types.specs.declared.report.Last.TheVariants as last
use Rattle.report_types.specs.declared.report.NodeLog.{NodeLog}
use Rattle.report_types.specs.declared.report.Report.{Report}
use Rattle.change_spec.specs.Statements.{Statement, start, change}
use Rattle.worked_report_laws.specs.Alone as alone
use Rattle.change_plan_laws.specs.Systems.{bank}
use Rattle.worked_report_laws.specs.Systems.{lone, lone_of}
use Rattle.worked_report_laws.specs.WrongLogs.{hurried}
use Rattle.worked_report_laws.specs.WrongSights.{closing, committing}

-- a start of another component, or with another argument
abbrev pub renamed : List HistoryLine
renamed = to.Start (codes "Only") (pos 2 ∷ []) ∷ drop 1 alone.report.history

abbrev pub of_three : List HistoryLine
of_three = to.Start (codes "Lone") (pos 3 ∷ []) ∷ drop 1 alone.report.history

-- a run of another number, and a finish within other rounds
abbrev pub run_of_two : List HistoryLine
run_of_two = take 10 hurried.history ++ to.Run 2 2 ∷ drop 11 hurried.history

abbrev pub finished_within_six : List HistoryLine
finished_within_six = alone.start_lines ++ to.Finish 6 1 ∷ alone.stop_lines

-- a change with another argument
abbrev pub change_to_four : List HistoryLine
change_to_four = take 4 closing ++ to.Change (codes "Lone") (pos 4 ∷ []) ∷ drop 5 closing ++ to.Drained 0 0 ∷ committing

-- a change behind one that was given up is tried, and commits
abbrev pub trying_again : List Statement
trying_again =
    start (codes "Lone") (pos 2 ∷ []) lone ∷ change (codes "Lone") (pos 3 ∷ []) (lone_of 3) 1 []
    ∷ change (codes "Lone") (pos 2 ∷ []) lone 0 [] ∷ []

abbrev pub tried_again : List HistoryLine
tried_again =
    closing ++ to.Pending 1 ∷ to.Root 0 1 ∷ to.Reopen 0 ∷ to.Abandon ∷ to.Change (codes "Lone") (pos 2 ∷ []) ∷ to.Commit
    ∷ to.Stop ∷ to.Close 0 ∷ to.Drained 0 1 ∷ []

-- it is skipped, and names another argument
abbrev pub skipped_to_nine : List HistoryLine
skipped_to_nine =
    closing ++ to.Pending 1 ∷ to.Root 0 1 ∷ to.Reopen 0 ∷ to.Abandon ∷ to.Change (codes "Lone") (pos 9 ∷ []) ∷ to.Skipped
    ∷ to.Stop ∷ to.Close 0 ∷ to.Drained 0 1 ∷ []

-- a state is moved twice
abbrev pub a_to_a : Move
a_to_a = record { from = codes "a"; to = codes "a" }

abbrev pub moving_twice : List Statement
moving_twice =
    start (codes "Bank") (pos 3 ∷ pos 100 ∷ pos 0 ∷ []) (bank 3 100)
    ∷ change (codes "Bank") (pos 3 ∷ pos 7 ∷ pos 0 ∷ []) (bank 3 7) 10 (a_to_a ∷ a_to_a ∷ []) ∷ []

-- a source begins with another value than its kind does
abbrev pub log_of_a : NodeLog
log_of_a = record { slot = 0; events = event.Begin 0 1 7 ∷ event.End 0 1 1 ∷ []; last = last.State (1 ∷ []) }

abbrev pub invented : Report
invented =
    record {
      history = take 10 hurried.history ++ to.Run 1 2 ∷ drop 11 hurried.history;
      logs =
          log_of_a ∷ record {
            slot = 1;
            events = event.Begin 1 1 1 ∷ event.End 1 1 1 ∷ [];
            last = last.State (1 ∷ []);
          } ∷ record {
            slot = 2;
            events = event.Take 0 1 7 ∷ event.Give 0 1 1 ∷ [];
            last = last.State (7 ∷ []);
          } ∷ record {
            slot = 3;
            events = event.Take 1 1 1 ∷ event.Give 1 1 1 ∷ [];
            last = last.State (1 ∷ []);
          } ∷ [];
      unfinished = None;
      status = 0;
    }

-- a log is told from its end
abbrev pub turned_log : NodeLog
turned_log = record { slot = 0; events = event.End 0 1 1 ∷ event.Begin 0 1 1 ∷ []; last = last.State (1 ∷ []) }

abbrev pub turned : Report
turned =
    record hurried {
      history = take 10 hurried.history ++ to.Run 1 2 ∷ drop 11 hurried.history;
      logs = turned_log ∷ drop 1 hurried.logs;
    }
