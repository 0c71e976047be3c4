-- Ports that stay closed, or are never closed, looks that don't rise, and a statement without a line.
use Rattle.std.specs.Prelude.{List, [], ◌∷◌, ◌++◌, codes, pos, Some, None}
use Rattle.report_types.specs.declared.report.HistoryLine.{HistoryLine}
use Rattle.report_types.specs.declared.report.HistoryLine.TheVariants as to
use Rattle.change_spec.specs.Statements.{Statement, start, change}
use Rattle.change_plan_laws.specs.Systems.{sink_t, source_at}
use Rattle.worked_report_laws.specs.Systems.{three}
use Rattle.worked_report_laws.specs.Alone as alone
use Rattle.worked_report_laws.specs.WrongSights.{closing}

-- a change that commits doesn't reopen the port that it made, and one that is given up not the one that it closed
abbrev pub left_closed : List HistoryLine
left_closed =
    closing ++ to.Drained 0 0 ∷ to.Remove 0 ∷ to.Make 1 (source_at (codes "s") 3) None ∷ to.Commit ∷ to.Stop
    ∷ to.Close 1 ∷ to.Drained 1 0 ∷ []

abbrev pub kept_closed : List HistoryLine
kept_closed = closing ++ to.Pending 1 ∷ to.Root 0 1 ∷ to.Abandon ∷ to.Stop ∷ to.Close 0 ∷ to.Drained 0 1 ∷ []

-- a node takes over a state though none was to move, or is made before the one that it replaces is removed
abbrev pub moved_unasked : List HistoryLine
moved_unasked =
    closing ++ to.Drained 0 0 ∷ to.Remove 0 ∷ to.Make 1 (source_at (codes "s") 3) (Some 0) ∷ to.Reopen 1 ∷ to.Commit
    ∷ to.Stop ∷ to.Close 1 ∷ to.Drained 1 0 ∷ []

abbrev pub made_too_soon : List HistoryLine
made_too_soon =
    closing ++ to.Drained 0 0 ∷ to.Make 1 (source_at (codes "s") 3) None ∷ to.Remove 0 ∷ to.Reopen 1 ∷ to.Commit
    ∷ to.Stop ∷ to.Close 1 ∷ to.Drained 1 0 ∷ []

-- the stop closes nothing
abbrev pub unclosed : List HistoryLine
unclosed = alone.start_lines ++ to.Finish 5 1 ∷ to.Stop ∷ []

-- the stop finds a port drained that isn't there
abbrev pub seen_elsewhere : List HistoryLine
seen_elsewhere =
    alone.start_lines ++ to.Finish 5 1 ∷ to.Stop ∷ to.Close 0 ∷ to.Drained 0 0 ∷ to.Drained 5 0 ∷ []

-- nothing is shown
abbrev pub unshown : List HistoryLine
unshown = to.Start (codes "One") [] ∷ to.Make 0 sink_t None ∷ to.Commit ∷ to.Stop ∷ []

-- a change that is given up found a lower port behind a higher one, in the one look that it may make
abbrev pub replacing_three : List Statement
replacing_three =
    start (codes "Three") (pos 1 ∷ []) (three 1) ∷ change (codes "Three") (pos 2 ∷ []) (three 2) 0 [] ∷ []

abbrev pub seen_falling : List HistoryLine
seen_falling =
    to.Start (codes "Three") (pos 1 ∷ []) ∷ to.Make 0 (source_at (codes "a") 1) None
    ∷ to.Make 1 (source_at (codes "b") 1) None ∷ to.Make 2 (source_at (codes "c") 1) None ∷ to.Make 3 sink_t None
    ∷ to.Link 0 3 0 ∷ to.Link 1 3 0 ∷ to.Link 2 3 0 ∷ to.Reopen 0 ∷ to.Reopen 1 ∷ to.Reopen 2 ∷ to.Commit
    ∷ to.Change (codes "Three") (pos 2 ∷ []) ∷ to.Close 0 ∷ to.Close 1 ∷ to.Close 2 ∷ to.Drained 1 0 ∷ to.Drained 0 0
    ∷ to.Pending 0 ∷ to.Root 2 1 ∷ to.Reopen 0 ∷ to.Reopen 1 ∷ to.Reopen 2 ∷ to.Abandon ∷ to.Stop ∷ to.Close 0
    ∷ to.Close 1 ∷ to.Close 2 ∷ to.Drained 0 0 ∷ to.Drained 1 0 ∷ to.Drained 2 1 ∷ []
