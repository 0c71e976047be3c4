-- What a commit leaves, by the lines before it: the graph of the description of the start or change that it ends.
use Rattle.std.specs.Prelude.{◌≡◌, ⊤, List, Some}
use Rattle.config_graph.specs.Graph.{Graph}
use Rattle.quiesce_core.specs.Live.{IsGraphOf}
use Rattle.report_types.specs.declared.report.HistoryLine.{HistoryLine}
use Rattle.report_types.specs.declared.report.HistoryLine.TheVariants as to
use Rattle.change_spec.specs.Lawful.{described}
use Rattle.change_spec.specs.Scene.{config_after}
use Rattle.change_spec.specs.Statements.{Statement}

pub record LeavesDescribed (statements : List Statement) (before : List HistoryLine) : Type 0 where
  pub graph : Graph
  pub described_so : described statements before ≡ Some graph
  pub stands : IsGraphOf (config_after before) graph

abbrev pub IsLeftAt : List Statement → List HistoryLine → HistoryLine → Type 0
IsLeftAt statements before to.Commit = LeavesDescribed statements before
IsLeftAt statements before _ = ⊤
