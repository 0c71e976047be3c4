-- Wrong ends of logs and of reports.
use Rattle.std.specs.Prelude.{List, [], ◌∷◌, ◌++◌, codes, pos, take, Some}
use Rattle.report_types.specs.declared.report.HistoryLine.TheVariants as to
use Rattle.report_types.specs.declared.report.Last.TheVariants as last
use Rattle.report_types.specs.declared.report.NodeLog.{NodeLog}
use Rattle.report_types.specs.declared.report.Report.{Report}
use Rattle.change_spec.specs.Statements.{Statement, start, change, run, finish}
use Rattle.change_plan_laws.specs.Systems.{line}
use Rattle.worked_report_laws.specs.Systems.{two_of}
use Rattle.worked_report_laws.specs.Moved as moved
use Rattle.worked_report_laws.specs.Ran as ran
use Rattle.worked_report_laws.specs.RunOut as run_out
use Rattle.worked_report_laws.specs.WrongLines as wrong_lines
use Rattle.worked_report_laws.specs.WrongRuns.{ended_idly}

-- an account that stays says that its state went to a node that was made from another
abbrev pub sent_off : NodeLog
sent_off = record moved.log_1 { last = last.Moved 4 }

abbrev pub sending_off : Report
sending_off = record moved.report { logs = moved.log_0 ∷ sent_off ∷ moved.log_2 ∷ moved.log_3 ∷ moved.log_4 ∷ [] }

-- a sink tells another last value than it took
abbrev pub misheard : NodeLog
misheard = record ran.log_2 { last = last.State (11 ∷ 12 ∷ 14 ∷ []) }

abbrev pub mishearing : Report
mishearing = record ran.report { logs = ran.log_0 ∷ ran.log_1 ∷ misheard ∷ [] }

-- the logs don't stand in the order of their nodes
abbrev pub disordered : Report
disordered = record ran.report { logs = ran.log_1 ∷ ran.log_0 ∷ ran.log_2 ∷ [] }

-- of two sources that aren't done the second is named
abbrev pub finishing_at_once : List Statement
finishing_at_once =
    start (codes "Two") (pos 2 ∷ []) (two_of 2) ∷ finish 0 ∷ []

abbrev pub second_named : Report
second_named =
    record ended_idly {
      history =
          take 10 run_out.history ++ to.Finish 0 0 ∷ to.Stop ∷ to.Close 0 ∷ to.Close 1 ∷ to.Drained 0 0
          ∷ to.Drained 1 0 ∷ [];
      unfinished = Some 1;
      status = 8;
    }

-- the report of a line in which the stop doesn't find a port drained
abbrev pub unseen : Report
unseen = record ran.report { history = wrong_lines.unseen }

-- the script of the report in which a root is open that had ended
abbrev pub outdating : List Statement
outdating =
    start (codes "Line") (pos 3 ∷ pos 10 ∷ []) (line 10) ∷ run 1
    ∷ change (codes "Line") (pos 3 ∷ pos 20 ∷ []) (line 20) 2 []
    ∷ change (codes "Line") (pos 3 ∷ pos 30 ∷ []) (line 30) 0 [] ∷ []
