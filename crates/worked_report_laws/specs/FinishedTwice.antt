-- Two sources of two items come to rest in six rounds, and a second finish makes none.
use Rattle.std.specs.Prelude.{List, Some, [], ◌∷◌, ◌++◌, codes, drop, pos, take}
use Rattle.report_types.specs.declared.report.HistoryLine.TheVariants as to
use Rattle.report_types.specs.declared.report.Report.{Report}
use Rattle.change_spec.specs.Statements.{Statement, start, finish}
use Rattle.worked_report_laws.specs.Systems.{two_of}
use Rattle.worked_report_laws.specs.RunOut as run_out
use Rattle.worked_report_laws.specs.WrongRuns.{ended_idly}

abbrev pub script : List Statement
script =
    start (codes "Two") (pos 2 ∷ []) (two_of 2) ∷ finish 9 ∷ finish 9 ∷ []

abbrev pub report : Report
report =
    record run_out.report {
      history = take 10 run_out.history ++ to.Finish 9 6 ∷ to.Finish 9 0 ∷ drop 12 run_out.history;
    }

-- the second finish makes three rounds though nothing rests, nor do rounds end so
abbrev pub finished_later : Report
finished_later =
    record ended_idly {
      history =
          take 10 run_out.history ++ to.Finish 9 9 ∷ to.Finish 9 3 ∷ to.Stop ∷ to.Close 0 ∷ to.Close 1 ∷ to.Drained 0 0
          ∷ to.Drained 1 0 ∷ [];
      unfinished = Some 0;
      status = 8;
    }

-- the first finish makes no round though nothing rests, as the second does in rounds; and no node does anything
abbrev pub finished_at_once : Report
finished_at_once =
    record ended_idly {
      history =
          take 10 run_out.history ++ to.Finish 9 0 ∷ to.Finish 9 9 ∷ to.Stop ∷ to.Close 0 ∷ to.Close 1 ∷ to.Drained 0 0
          ∷ to.Drained 1 0 ∷ [];
      unfinished = Some 0;
      status = 8;
    }
