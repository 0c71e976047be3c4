-- The graph that stands, by the lines of a history: the described one of the last start or change that was committed.
use Rattle.std.specs.Prelude.{◌≡◌, ⊤, ℕ, ◌+◌, ◌-◌, List, fold, filter_map, slice_get, Option, Some, None, option_and_then, if◌then◌else◌}
use Rattle.config_graph.specs.Graph.{Graph}
use Rattle.change_spec.specs.Lawful.{is_head}
use Rattle.change_spec.specs.Members.{is_commit}
use Rattle.change_spec.specs.Statements.{Statement, graph_of}
use Rattle.report_types.specs.declared.report.HistoryLine.{HistoryLine}
use Rattle.report_types.specs.declared.report.HistoryLine.TheVariants as to
use Rattle.report_check.specs.declared.showing.Begun.{Begun as BegunFields}

-- how many starts and changes were begun, and which one, from 0 on, was the last that was committed
pub record Begun : Type 0 where
  pub heads : ℕ
  pub committed : Option ℕ

abbrev pub begun_in : BegunFields → Begun
begun_in b = record { heads = b.heads; committed = b.committed }

abbrev pub none_begun : Begun
none_begun = record { heads = 0; committed = None }

abbrev pub behind_line : Begun → HistoryLine → Begun
behind_line s l =
    if is_head l then record s { heads = s.heads + 1 } else if is_commit l then record s { committed = Some (s.heads - 1) } else s

abbrev pub begun_after : List HistoryLine → Begun
begun_after before = fold behind_line none_begun before

-- the graph that one of them describes
abbrev pub graph_at : List Graph → Begun → Option Graph
graph_at graphs s = option_and_then (slice_get graphs) s.committed

abbrev pub standing_graph : List Statement → List HistoryLine → Option Graph
standing_graph statements before = graph_at (filter_map graph_of statements) (begun_after before)

-- a graph that is shown is the one that stands
abbrev pub Shows : List Graph → Begun → HistoryLine → Type 0
Shows graphs s (to.Show g) = graph_at graphs s ≡ Some g
Shows graphs s _ = ⊤

abbrev pub IsShownBy : List Graph → List HistoryLine → HistoryLine → Type 0
IsShownBy graphs before l = Shows graphs (begun_after before) l

abbrev pub IsStandingShown : List Statement → List HistoryLine → HistoryLine → Type 0
IsStandingShown statements before l = IsShownBy (filter_map graph_of statements) before l
