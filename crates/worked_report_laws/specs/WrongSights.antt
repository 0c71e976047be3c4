-- Wrong tellings of which ports a change, or the stop, found drained or open.
use Rattle.std.specs.Prelude.{List, [], ◌∷◌, ◌++◌, codes, pos, None}
use Rattle.report_types.specs.declared.report.HistoryLine.{HistoryLine}
use Rattle.report_types.specs.declared.report.HistoryLine.TheVariants as to
use Rattle.change_spec.specs.Statements.{Statement, start, change}
use Rattle.change_plan_laws.specs.Systems.{sink_t, source_at}
use Rattle.worked_report_laws.specs.Systems.{lone, lone_of, pair}

-- A source that leads nowhere is replaced, and the change may make one round: it closes the source's port.
abbrev pub replacing : List Statement
replacing =
    start (codes "Lone") (pos 2 ∷ []) lone ∷ change (codes "Lone") (pos 3 ∷ []) (lone_of 3) 1 [] ∷ []

abbrev pub closing : List HistoryLine
closing =
    to.Start (codes "Lone") (pos 2 ∷ []) ∷ to.Make 0 (source_at (codes "s") 2) None ∷ to.Reopen 0 ∷ to.Commit
    ∷ to.Change (codes "Lone") (pos 3 ∷ []) ∷ to.Close 0 ∷ []

abbrev pub committing : List HistoryLine
committing =
    to.Remove 0 ∷ to.Make 1 (source_at (codes "s") 3) None ∷ to.Reopen 1 ∷ to.Commit ∷ to.Stop ∷ to.Close 1
    ∷ to.Drained 1 0 ∷ []

abbrev pub reopening : List HistoryLine
reopening =
    to.Reopen 0 ∷ to.Abandon ∷ to.Stop ∷ to.Close 0 ∷ to.Drained 0 1 ∷ []

-- the change commits, and the port wasn't found drained, or was found so twice
abbrev pub unseen : List HistoryLine
unseen = closing ++ committing

abbrev pub seen_twice : List HistoryLine
seen_twice = closing ++ to.Drained 0 0 ∷ to.Drained 0 0 ∷ committing

-- the change is given up, and no root is left
abbrev pub given_up_idly : List HistoryLine
given_up_idly = closing ++ to.Drained 0 0 ∷ to.Pending 1 ∷ reopening

-- it is given up with another number of rounds than it was allowed
abbrev pub given_up_late : List HistoryLine
given_up_late = closing ++ to.Pending 5 ∷ to.Root 0 1 ∷ reopening

-- the port was found drained, and is open as well
abbrev pub seen_both_ways : List HistoryLine
seen_both_ways = closing ++ to.Drained 0 1 ∷ to.Pending 1 ∷ to.Root 0 1 ∷ reopening

-- of two closed ports one was found neither drained nor open
abbrev pub replacing_pair : List Statement
replacing_pair =
    start (codes "Pair") (pos 1 ∷ []) (pair 1) ∷ change (codes "Pair") (pos 2 ∷ []) (pair 2) 0 [] ∷ []

abbrev pub seen_neither_way : List HistoryLine
seen_neither_way =
    to.Start (codes "Pair") (pos 1 ∷ []) ∷ to.Make 0 (source_at (codes "a") 1) None
    ∷ to.Make 1 (source_at (codes "b") 1) None ∷ to.Make 2 sink_t None ∷ to.Link 0 2 0 ∷ to.Link 1 2 0 ∷ to.Reopen 0
    ∷ to.Reopen 1 ∷ to.Commit ∷ to.Change (codes "Pair") (pos 2 ∷ []) ∷ to.Close 0 ∷ to.Close 1 ∷ to.Pending 0
    ∷ to.Root 1 1 ∷ to.Reopen 0 ∷ to.Reopen 1 ∷ to.Abandon ∷ to.Stop ∷ to.Close 0 ∷ to.Close 1 ∷ to.Drained 0 1
    ∷ to.Drained 1 1 ∷ []

-- the stop finds a port drained twice
abbrev pub stopped_twice : List HistoryLine
stopped_twice =
    to.Start (codes "Lone") (pos 2 ∷ []) ∷ to.Make 0 (source_at (codes "s") 2) None ∷ to.Reopen 0 ∷ to.Commit
    ∷ to.Finish 5 1 ∷ to.Stop ∷ to.Close 0 ∷ to.Drained 0 0 ∷ to.Drained 0 0 ∷ []
