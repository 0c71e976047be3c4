-- What one hears who is told of each commit of a run: the graphs that stand at the commit lines of its history, in order.
use Rattle.std.specs.Prelude.{◌≡◌, ℕ, List, ◌∷◌, ◌++◌, length, slice_get, Some}
use Rattle.std.specs.List.{count_by}
use Rattle.config_graph.specs.Graph.{Graph}
use Rattle.quiesce_core.specs.Live.{IsGraphOf}
use Rattle.report_types.specs.declared.report.HistoryLine.{HistoryLine}
use Rattle.report_types.specs.declared.report.HistoryLine.TheVariants as to
use Rattle.change_spec.specs.Members.{is_commit}
use Rattle.change_spec.specs.Scene.{config_after}

abbrev pub commit_count : List HistoryLine → ℕ
commit_count history = count_by is_commit history

-- the graph of the commit line behind these lines: that of the live nodes and their links there
pub record IsHeardBehind (graphs : List Graph) (before : List HistoryLine) : Type 0 where
  pub graph : Graph
  pub heard : slice_get graphs (commit_count before) ≡ Some graph
  pub stands : IsGraphOf (config_after before) graph

-- these are the graphs at the commit lines, in order
pub record AreCommitted (history : List HistoryLine) (graphs : List Graph) : Type 0 where
  pub count : length graphs ≡ commit_count history
  pub each : (before after : List HistoryLine) → history ≡ before ++ to.Commit ∷ after → IsHeardBehind graphs before
