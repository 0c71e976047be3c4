-- Wrong serials of ports, and a root that ended too early to be open.
use Rattle.std.specs.Prelude.{[], ◌∷◌, ◌++◌, codes, drop, pos, take, None}
use Rattle.quiesce_core.specs.declared.event.Event.TheVariants as event
use Rattle.report_types.specs.declared.report.HistoryLine.TheVariants as to
use Rattle.report_types.specs.declared.report.Last.TheVariants as last
use Rattle.report_types.specs.declared.report.NodeLog.{NodeLog}
use Rattle.report_types.specs.declared.report.Report.{Report}
use Rattle.change_plan_laws.specs.Systems.{sink_t, source_at}
use Rattle.worked_report_laws.specs.Systems.{buffer_at}
use Rattle.worked_report_laws.specs.GivenUp as given_up
use Rattle.worked_report_laws.specs.OpenUnordered as open_unordered

-- a port is said to be drained with a serial to which it hasn't come: at the stop it has a lower one
abbrev pub late : Report
late =
    record given_up.report { history = take 13 given_up.history ++ to.Drained 0 4 ∷ drop 14 given_up.history }

-- so for the second of two roots that are said to be open
abbrev pub ahead : Report
ahead =
    record open_unordered.report {
      history = take 15 open_unordered.history ++ to.Root 0 2 ∷ drop 16 open_unordered.history;
    }

-- A root is said to be open that ended before the last port was closed: the buffer took a second item behind it, and
-- the source began a third before its port was closed.
abbrev pub log_of_a : NodeLog
log_of_a =
    record {
      slot = 0;
      events =
          event.Take 1 1 1 ∷ event.Give 1 1 1 ∷ event.Begin 0 1 1 ∷ event.End 0 1 1 ∷ event.Take 1 2 2
          ∷ event.Give 1 2 1 ∷ event.Take 1 3 3 ∷ event.Give 1 3 1 ∷ [];
      last = last.State (2 ∷ 3 ∷ []);
    }

abbrev pub between : Report
between =
    record {
      history =
          to.Start (codes "Buffered") (pos 2 ∷ []) ∷ to.Make 0 (buffer_at (codes "a") 2) None
          ∷ to.Make 1 (source_at (codes "s") 3) None ∷ to.Make 2 sink_t None ∷ to.Link 0 2 0 ∷ to.Link 1 0 0
          ∷ to.Reopen 0 ∷ to.Reopen 1 ∷ to.Commit ∷ to.Run 0 0 ∷ to.Change (codes "Buffered") (pos 4 ∷ [])
          ∷ to.Close 0 ∷ to.Close 1 ∷ to.Pending 0 ∷ to.Root 0 1 ∷ to.Root 1 3 ∷ to.Reopen 0 ∷ to.Reopen 1
          ∷ to.Abandon ∷ to.Stop ∷ to.Close 0 ∷ to.Close 1 ∷ to.Drained 0 1 ∷ to.Drained 1 3 ∷ [];
      logs =
          log_of_a ∷ record {
            slot = 1;
            events =
                event.Begin 1 1 1 ∷ event.End 1 1 1 ∷ event.Begin 1 2 2 ∷ event.End 1 2 1 ∷ event.Begin 1 3 3
                ∷ event.End 1 3 1 ∷ [];
            last = last.State (3 ∷ []);
          } ∷ record {
            slot = 2;
            events =
                event.Take 0 1 1 ∷ event.Give 0 1 1 ∷ [];
            last = last.State (1 ∷ []);
          } ∷ [];
      unfinished = None;
      status = 7;
    }
