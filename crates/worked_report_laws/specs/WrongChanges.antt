-- Wrong lines of changes.
use Rattle.std.specs.Prelude.{List, [], ◌∷◌, codes, drop, pos, take, None}
use Rattle.report_types.specs.declared.report.HistoryLine.{HistoryLine}
use Rattle.report_types.specs.declared.report.HistoryLine.TheVariants as to
use Rattle.change_plan.specs.declared.plan_data.Move.{Move}
use Rattle.change_spec.specs.Follows.{Part}
use Rattle.change_spec.specs.Statements.{Statement, start, change}
use Rattle.change_plan_laws.specs.Systems.{line, map_m, sink_t, source_at}
use Rattle.worked_report_laws.specs.Systems.{one, pair}
use Rattle.worked_report_laws.specs.SecondLook as second_look

-- a change is skipped though none before it was given up
abbrev pub keeping_sink : List Statement
keeping_sink =
    start (codes "One") [] one ∷ change (codes "One") [] one 0 [] ∷ []

abbrev pub skipped_for_nothing : List HistoryLine
skipped_for_nothing =
    to.Start (codes "One") [] ∷ to.Make 0 sink_t None ∷ to.Commit ∷ to.Change (codes "One") []
    ∷ to.Skipped ∷ to.Stop ∷ []

-- a change that changes nothing closes all ports
abbrev pub keeping_line : List Statement
keeping_line =
    start (codes "Line") (pos 3 ∷ pos 10 ∷ []) (line 10) ∷ change (codes "Line") (pos 3 ∷ pos 10 ∷ []) (line 10) 0 []
    ∷ []

abbrev pub closed_for_nothing : List HistoryLine
closed_for_nothing =
    to.Start (codes "Line") (pos 3 ∷ pos 10 ∷ []) ∷ to.Make 0 (map_m 10) None
    ∷ to.Make 1 (source_at (codes "s") 3) None ∷ to.Make 2 sink_t None ∷ to.Link 0 2 0 ∷ to.Link 1 0 0 ∷ to.Reopen 0
    ∷ to.Reopen 1 ∷ to.Commit ∷ to.Change (codes "Line") (pos 3 ∷ pos 10 ∷ []) ∷ to.Close 0 ∷ to.Close 1
    ∷ to.Drained 0 0 ∷ to.Drained 1 0 ∷ to.Reopen 0 ∷ to.Reopen 1 ∷ to.Commit ∷ to.Stop ∷ to.Close 0 ∷ to.Close 1
    ∷ to.Drained 0 0 ∷ to.Drained 1 0 ∷ []

abbrev pub parts_for_nothing : List Part
parts_for_nothing =
    record {
      statement = start (codes "Line") (pos 3 ∷ pos 10 ∷ []) (line 10);
      lines = take 9 closed_for_nothing;
    } ∷ record {
      statement = change (codes "Line") (pos 3 ∷ pos 10 ∷ []) (line 10) 0 [];
      lines = take 8 (drop 9 closed_for_nothing);
    } ∷ []

-- two looks where one was allowed
abbrev pub looking_once : List Statement
looking_once =
    start (codes "Pair") (pos 1 ∷ []) (pair 1) ∷ change (codes "Pair") (pos 2 ∷ []) (pair 2) 0 [] ∷ []

abbrev pub looked_again : List HistoryLine
looked_again = second_look.history

-- a change moves a node to itself, and the node is neither removed nor created
abbrev pub m_to_m : Move
m_to_m = record { from = codes "m"; to = codes "m" }

abbrev pub moving_nowhere : List Statement
moving_nowhere =
    start (codes "Line") (pos 3 ∷ pos 10 ∷ []) (line 10)
    ∷ change (codes "Line") (pos 3 ∷ pos 10 ∷ []) (line 10) 0 (m_to_m ∷ []) ∷ []
