-- Wrong numbers of runs, wrong rests, and logs that no node has.
use Rattle.std.specs.Prelude.{List, [], ◌∷◌, ◌++◌, codes, drop, take, Some, None}
use Rattle.report_types.specs.declared.report.HistoryLine.TheVariants as to
use Rattle.report_types.specs.declared.report.Last.TheVariants as last
use Rattle.report_types.specs.declared.report.NodeLog.{NodeLog}
use Rattle.report_types.specs.declared.report.Report.{Report}
use Rattle.change_spec.specs.Statements.{Statement, start, run, finish}
use Rattle.worked_report_laws.specs.Filled as filled
use Rattle.worked_report_laws.specs.Moved as moved
use Rattle.worked_report_laws.specs.Ran as ran
use Rattle.worked_report_laws.specs.RunOut as run_out
use Rattle.worked_report_laws.specs.Shown as shown
use Rattle.worked_report_laws.specs.Systems.{small}

-- the first run ends with nothing, though nothing is at rest: no node does anything
abbrev pub ended_idly : Report
ended_idly =
    record {
      history =
          take 10 run_out.history ++ to.Run 1 0 ∷ to.Run 9 0 ∷ to.Stop ∷ to.Close 0 ∷ to.Close 1 ∷ to.Drained 0 0
          ∷ to.Drained 1 0 ∷ [];
      logs =
          record {
            slot = 0;
            events =
                [];
            last = last.State (0 ∷ []);
          } ∷ record {
            slot = 1;
            events =
                [];
            last = last.State (0 ∷ []);
          } ∷ record {
            slot = 2;
            events =
                [];
            last = last.State [];
          } ∷ record {
            slot = 3;
            events =
                [];
            last = last.State [];
          } ∷ [];
      unfinished = None;
      status = 0;
    }

-- what ended in the first run is counted in the second too
abbrev pub counted_twice : Report
counted_twice =
    record run_out.report { history = take 11 run_out.history ++ to.Run 9 4 ∷ drop 12 run_out.history }

-- a buffer was empty before it took its item, and is full at each place since the line before
abbrev pub resting_small : List Statement
resting_small =
    start (codes "Small") [] small ∷ run 1 ∷ finish 10 ∷ []

abbrev pub rested_before : Report
rested_before =
    record filled.report { history = take 9 filled.history ++ to.Run 1 1 ∷ drop 9 filled.history }

-- a map and a sink rest, and the source between them doesn't
abbrev pub rested_partly : Report
rested_partly =
    record ran.report {
      history =
          take 9 ran.history ++ to.Finish 100 0 ∷ to.Stop ∷ to.Close 0 ∷ to.Close 1 ∷ to.Drained 0 0 ∷ to.Drained 1 0
          ∷ [];
      logs =
          record {
            slot = 0;
            events =
                [];
            last = last.State [];
          } ∷ record {
            slot = 1;
            events =
                [];
            last = last.State (0 ∷ []);
          } ∷ record {
            slot = 2;
            events =
                [];
            last = last.State [];
          } ∷ [];
      unfinished = Some 1;
      status = 8;
    }

-- a node has no log, or two
abbrev pub unlogged : Report
unlogged = record shown.report { logs = [] }

abbrev pub logged_twice : Report
logged_twice = record shown.report { logs = shown.log_0 ∷ shown.log_0 ∷ [] }

-- a state is said to have gone to another node than was made from it
abbrev pub misled : NodeLog
misled = record moved.log_0 { last = last.Moved 3 }

abbrev pub misleading : Report
misleading = record moved.report { logs = misled ∷ moved.log_1 ∷ moved.log_2 ∷ moved.log_3 ∷ moved.log_4 ∷ [] }
