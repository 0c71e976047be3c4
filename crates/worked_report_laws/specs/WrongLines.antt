-- Wrong lines of starts, runs and stops.
use Rattle.std.specs.Prelude.{List, [], ◌∷◌, ◌++◌, codes, drop, pos, take, None}
use Rattle.report_types.specs.declared.report.HistoryLine.{HistoryLine}
use Rattle.report_types.specs.declared.report.HistoryLine.TheVariants as to
use Rattle.report_types.specs.declared.report.Report.{Report}
use Rattle.config_graph.specs.Graph.{Graph}
use Rattle.change_spec.specs.Statements.{Statement, start, finish}
use Rattle.change_plan_laws.specs.Systems.{map_m, sink_t, sink_u, source_at}
use Rattle.worked_report_laws.specs.Systems.{lone, two}
use Rattle.worked_report_laws.specs.Shown as shown
use Rattle.worked_report_laws.specs.WrongLogs.{hurried}

-- the port isn't reopened
abbrev pub starting : List Statement
starting =
    start (codes "Lone") (pos 2 ∷ []) lone ∷ []

abbrev pub never_reopened : List HistoryLine
never_reopened =
    to.Start (codes "Lone") (pos 2 ∷ []) ∷ to.Make 0 (source_at (codes "s") 2) None ∷ to.Commit ∷ to.Stop ∷ to.Close 0
    ∷ to.Drained 0 0 ∷ []

-- port 0 wasn't found drained
abbrev pub unseen : List HistoryLine
unseen =
    to.Start (codes "Line") (pos 3 ∷ pos 10 ∷ []) ∷ to.Make 0 (map_m 10) None
    ∷ to.Make 1 (source_at (codes "s") 3) None ∷ to.Make 2 sink_t None ∷ to.Link 0 2 0 ∷ to.Link 1 0 0 ∷ to.Reopen 0
    ∷ to.Reopen 1 ∷ to.Commit ∷ to.Finish 100 18 ∷ to.Stop ∷ to.Close 0 ∷ to.Close 1 ∷ to.Drained 1 3 ∷ []

-- another graph is shown
abbrev pub two_sinks : Graph
two_sinks = record { nodes = sink_t ∷ sink_u ∷ []; links = [] }

abbrev pub shown_wrongly : Report
shown_wrongly =
    record shown.report {
      history =
          to.Start (codes "One") [] ∷ to.Make 0 sink_t None ∷ to.Commit ∷ to.Show two_sinks
          ∷ to.Stop ∷ [];
    }

-- more rounds than were allowed
abbrev pub finishing_two : List Statement
finishing_two =
    start (codes "Two") (pos 1 ∷ []) two ∷ finish 9 ∷ []

abbrev pub outrun : Report
outrun = record hurried { history = take 10 hurried.history ++ to.Finish 9 10 ∷ drop 11 hurried.history }
