-- Wrong tellings of what looks saw.
use Rattle.std.specs.Prelude.{List, [], ◌∷◌, codes, pos, None}
use Rattle.quiesce_core.specs.declared.event.Event.TheVariants as event
use Rattle.report_types.specs.declared.report.HistoryLine.TheVariants as to
use Rattle.report_types.specs.declared.report.Last.TheVariants as last
use Rattle.report_types.specs.declared.report.Report.{Report}
use Rattle.change_spec.specs.Statements.{Statement, start, change, run}
use Rattle.change_plan_laws.specs.Systems.{map_m, sink_t, source_at}
use Rattle.worked_report_laws.specs.Systems.{pair}

-- a port is said to be drained with the serial before its last
abbrev pub early : Report
early =
    record {
      history =
          to.Start (codes "Line") (pos 3 ∷ pos 10 ∷ []) ∷ to.Make 0 (map_m 10) None
          ∷ to.Make 1 (source_at (codes "s") 3) None ∷ to.Make 2 sink_t None ∷ to.Link 0 2 0 ∷ to.Link 1 0 0
          ∷ to.Reopen 0 ∷ to.Reopen 1 ∷ to.Commit ∷ to.Finish 100 18 ∷ to.Stop ∷ to.Close 0 ∷ to.Close 1
          ∷ to.Drained 0 3 ∷ to.Drained 1 2 ∷ [];
      logs =
          record {
            slot = 0;
            events =
                event.Take 1 1 1 ∷ event.Call 0 1 11 ∷ event.End 0 1 1 ∷ event.Give 1 1 1 ∷ event.Take 1 2 2
                ∷ event.Call 0 2 12 ∷ event.End 0 2 1 ∷ event.Give 1 2 1 ∷ event.Take 1 3 3 ∷ event.Call 0 3 13
                ∷ event.End 0 3 1 ∷ event.Give 1 3 1 ∷ [];
            last = last.State [];
          } ∷ record {
            slot = 1;
            events =
                event.Begin 1 1 1 ∷ event.End 1 1 1 ∷ event.Begin 1 2 2 ∷ event.End 1 2 1 ∷ event.Begin 1 3 3
                ∷ event.End 1 3 1 ∷ [];
            last = last.State (3 ∷ []);
          } ∷ record {
            slot = 2;
            events =
                event.Take 0 1 11 ∷ event.Give 0 1 1 ∷ event.Take 0 2 12 ∷ event.Give 0 2 1 ∷ event.Take 0 3 13
                ∷ event.Give 0 3 1 ∷ [];
            last = last.State (11 ∷ 12 ∷ 13 ∷ []);
          } ∷ [];
      unfinished = None;
      status = 0;
    }

-- a root is said to be open that had ended before the change before
abbrev pub outdated : Report
outdated =
    record {
      history =
          to.Start (codes "Line") (pos 3 ∷ pos 10 ∷ []) ∷ to.Make 0 (map_m 10) None
          ∷ to.Make 1 (source_at (codes "s") 3) None ∷ to.Make 2 sink_t None ∷ to.Link 0 2 0 ∷ to.Link 1 0 0
          ∷ to.Reopen 0 ∷ to.Reopen 1 ∷ to.Commit ∷ to.Run 1 1 ∷ to.Change (codes "Line") (pos 3 ∷ pos 20 ∷ [])
          ∷ to.Close 0 ∷ to.Close 1 ∷ to.Drained 0 1 ∷ to.Drained 1 1 ∷ to.Unlink 0 ∷ to.Unlink 1 ∷ to.Remove 0
          ∷ to.Make 3 (map_m 20) None ∷ to.Link 1 3 0 ∷ to.Link 2 2 0 ∷ to.Reopen 1 ∷ to.Reopen 2 ∷ to.Commit
          ∷ to.Change (codes "Line") (pos 3 ∷ pos 30 ∷ []) ∷ to.Close 1 ∷ to.Close 2 ∷ to.Drained 2 0 ∷ to.Pending 0
          ∷ to.Root 1 1 ∷ to.Reopen 1 ∷ to.Reopen 2 ∷ to.Abandon ∷ to.Stop ∷ to.Close 1 ∷ to.Close 2 ∷ to.Drained 1 1
          ∷ to.Drained 2 0 ∷ [];
      logs =
          record {
            slot = 0;
            events =
                event.Take 1 1 1 ∷ event.Call 0 1 11 ∷ event.End 0 1 1 ∷ event.Give 1 1 1 ∷ [];
            last = last.State [];
          } ∷ record {
            slot = 1;
            events =
                event.Begin 1 1 1 ∷ event.End 1 1 1 ∷ [];
            last = last.State (1 ∷ []);
          } ∷ record {
            slot = 2;
            events =
                event.Take 0 1 11 ∷ event.Give 0 1 1 ∷ [];
            last = last.State (11 ∷ []);
          } ∷ record {
            slot = 3;
            events =
                [];
            last = last.State [];
          } ∷ [];
      unfinished = None;
      status = 7;
    }

-- a port is said to be drained, and its root ends later: in the run behind the change two transactions end, and all
-- that end are two
abbrev pub looking_hastily : List Statement
looking_hastily =
    start (codes "Pair") (pos 1 ∷ []) (pair 1) ∷ run 0 ∷ change (codes "Pair") (pos 2 ∷ []) (pair 2) 0 [] ∷ run 2 ∷ []

abbrev pub hasty : Report
hasty =
    record {
      history =
          to.Start (codes "Pair") (pos 1 ∷ []) ∷ to.Make 0 (source_at (codes "a") 1) None
          ∷ to.Make 1 (source_at (codes "b") 1) None ∷ to.Make 2 sink_t None ∷ to.Link 0 2 0 ∷ to.Link 1 2 0
          ∷ to.Reopen 0 ∷ to.Reopen 1 ∷ to.Commit ∷ to.Run 0 0 ∷ to.Change (codes "Pair") (pos 2 ∷ []) ∷ to.Close 0
          ∷ to.Close 1 ∷ to.Drained 0 1 ∷ to.Pending 0 ∷ to.Root 1 1 ∷ to.Reopen 0 ∷ to.Reopen 1 ∷ to.Abandon
          ∷ to.Run 2 2 ∷ to.Stop ∷ to.Close 0 ∷ to.Close 1 ∷ to.Drained 0 1 ∷ to.Drained 1 1 ∷ [];
      logs =
          record {
            slot = 0;
            events =
                event.Begin 0 1 1 ∷ event.End 0 1 1 ∷ [];
            last = last.State (1 ∷ []);
          } ∷ record {
            slot = 1;
            events =
                event.Begin 1 1 1 ∷ event.End 1 1 1 ∷ [];
            last = last.State (1 ∷ []);
          } ∷ record {
            slot = 2;
            events =
                event.Take 0 1 1 ∷ event.Give 0 1 1 ∷ event.Take 1 1 1 ∷ event.Give 1 1 1 ∷ [];
            last = last.State (1 ∷ 1 ∷ []);
          } ∷ [];
      unfinished = None;
      status = 7;
    }
