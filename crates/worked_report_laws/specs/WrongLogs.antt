-- Wrong logs, and wrong numbers of what they have.
use Rattle.std.specs.Prelude.{List, [], ◌∷◌, codes, pos, None}
use Rattle.quiesce_core.specs.declared.event.Event.TheVariants as event
use Rattle.report_types.specs.declared.report.HistoryLine.TheVariants as to
use Rattle.report_types.specs.declared.report.Last.TheVariants as last
use Rattle.report_types.specs.declared.report.NodeLog.{NodeLog}
use Rattle.report_types.specs.declared.report.Report.{Report}
use Rattle.change_spec.specs.Statements.{Statement, start, run}
use Rattle.change_plan_laws.specs.Systems.{map_m, sink_t, sink_u, source_at}
use Rattle.worked_report_laws.specs.Systems.{two}
use Rattle.worked_report_laws.specs.Moved as moved

-- two sinks have each other's logs
abbrev pub swapped : Report
swapped =
    record {
      history =
          to.Start (codes "Two") (pos 1 ∷ []) ∷ to.Make 0 (source_at (codes "a") 1) None
          ∷ to.Make 1 (source_at (codes "b") 1) None ∷ to.Make 2 sink_t None ∷ to.Make 3 sink_u None ∷ to.Link 0 2 0
          ∷ to.Link 1 3 0 ∷ to.Reopen 0 ∷ to.Reopen 1 ∷ to.Commit ∷ to.Finish 9 3 ∷ to.Stop ∷ to.Close 0 ∷ to.Close 1
          ∷ to.Drained 0 1 ∷ to.Drained 1 1 ∷ [];
      logs =
          record {
            slot = 0;
            events =
                event.Begin 0 1 1 ∷ event.End 0 1 1 ∷ [];
            last = last.State (1 ∷ []);
          } ∷ record {
            slot = 1;
            events =
                event.Begin 1 1 1 ∷ event.End 1 1 1 ∷ [];
            last = last.State (1 ∷ []);
          } ∷ record {
            slot = 2;
            events =
                event.Take 1 1 1 ∷ event.Give 1 1 1 ∷ [];
            last = last.State (1 ∷ []);
          } ∷ record {
            slot = 3;
            events =
                event.Take 0 1 1 ∷ event.Give 0 1 1 ∷ [];
            last = last.State (1 ∷ []);
          } ∷ [];
      unfinished = None;
      status = 0;
    }

-- three transactions are said to have ended, and two did
abbrev pub running_two : List Statement
running_two =
    start (codes "Two") (pos 1 ∷ []) two ∷ run 1 ∷ []

abbrev pub hurried : Report
hurried =
    record {
      history =
          to.Start (codes "Two") (pos 1 ∷ []) ∷ to.Make 0 (source_at (codes "a") 1) None
          ∷ to.Make 1 (source_at (codes "b") 1) None ∷ to.Make 2 sink_t None ∷ to.Make 3 sink_u None ∷ to.Link 0 2 0
          ∷ to.Link 1 3 0 ∷ to.Reopen 0 ∷ to.Reopen 1 ∷ to.Commit ∷ to.Run 1 3 ∷ to.Stop ∷ to.Close 0 ∷ to.Close 1
          ∷ to.Drained 0 1 ∷ to.Drained 1 1 ∷ [];
      logs =
          record {
            slot = 0;
            events =
                event.Begin 0 1 1 ∷ event.End 0 1 1 ∷ [];
            last = last.State (1 ∷ []);
          } ∷ record {
            slot = 1;
            events =
                event.Begin 1 1 1 ∷ event.End 1 1 1 ∷ [];
            last = last.State (1 ∷ []);
          } ∷ record {
            slot = 2;
            events =
                event.Take 0 1 1 ∷ event.Give 0 1 1 ∷ [];
            last = last.State (1 ∷ []);
          } ∷ record {
            slot = 3;
            events =
                event.Take 1 1 1 ∷ event.Give 1 1 1 ∷ [];
            last = last.State (1 ∷ []);
          } ∷ [];
      unfinished = None;
      status = 0;
    }

-- a map takes another value than was sent
abbrev pub altered : Report
altered =
    record {
      history =
          to.Start (codes "Line") (pos 3 ∷ pos 10 ∷ []) ∷ to.Make 0 (map_m 10) None
          ∷ to.Make 1 (source_at (codes "s") 3) None ∷ to.Make 2 sink_t None ∷ to.Link 0 2 0 ∷ to.Link 1 0 0
          ∷ to.Reopen 0 ∷ to.Reopen 1 ∷ to.Commit ∷ to.Finish 100 18 ∷ to.Stop ∷ to.Close 0 ∷ to.Close 1
          ∷ to.Drained 0 3 ∷ to.Drained 1 3 ∷ [];
      logs =
          record {
            slot = 0;
            events =
                event.Take 1 1 1 ∷ event.Call 0 1 11 ∷ event.End 0 1 1 ∷ event.Give 1 1 1 ∷ event.Take 1 2 2
                ∷ event.Call 0 2 12 ∷ event.End 0 2 1 ∷ event.Give 1 2 1 ∷ event.Take 1 3 4 ∷ event.Call 0 3 14
                ∷ event.End 0 3 1 ∷ event.Give 1 3 1 ∷ [];
            last = last.State [];
          } ∷ record {
            slot = 1;
            events =
                event.Begin 1 1 1 ∷ event.End 1 1 1 ∷ event.Begin 1 2 2 ∷ event.End 1 2 1 ∷ event.Begin 1 3 3
                ∷ event.End 1 3 1 ∷ [];
            last = last.State (3 ∷ []);
          } ∷ record {
            slot = 2;
            events =
                event.Take 0 1 11 ∷ event.Give 0 1 1 ∷ event.Take 0 2 12 ∷ event.Give 0 2 1 ∷ event.Take 0 3 14
                ∷ event.Give 0 3 1 ∷ [];
            last = last.State (11 ∷ 12 ∷ 14 ∷ []);
          } ∷ [];
      unfinished = None;
      status = 0;
    }

-- an account that was replaced by another begins with 100 again
abbrev pub forgotten : NodeLog
forgotten = record { slot = 4; events = []; last = last.State (100 ∷ []) }

abbrev pub forgetting : Report
forgetting = record moved.report { logs = moved.log_0 ∷ moved.log_1 ∷ moved.log_2 ∷ moved.log_3 ∷ forgotten ∷ [] }

-- the account that was replaced tells what it has itself
abbrev pub kept_back : NodeLog
kept_back = record moved.log_0 { last = last.State (94 ∷ []) }

abbrev pub keeping_back : Report
keeping_back = record moved.report { logs = kept_back ∷ moved.log_1 ∷ moved.log_2 ∷ moved.log_3 ∷ moved.log_4 ∷ [] }
