-- What is heard of the items of a statement: the graph that they commit, if they do.
use Rattle.std.specs.Prelude.{◌≡◌, false, List, [], ◌∷◌, ◌++◌, Option, None, Some}
use Rattle.std.specs.List.{list_any}
use Rattle.config_graph.specs.Graph.{Graph}
use Rattle.quiesce_core.specs.Live.{IsGraphOf}
use Rattle.report_types.specs.declared.report.HistoryLine.{HistoryLine}
use Rattle.report_types.specs.declared.report.HistoryLine.TheVariants as to
use Rattle.change_spec.specs.Members.{is_commit}
use Rattle.change_board.specs.Transcripts.{Item, said, lines}
use Rattle.change_transcript_laws.specs.Pieces.{config_at}

-- items that end with their one commit, behind which this graph stands
pub record Commits (before items : List Item) (g : Graph) : Type 0 where
  pub front : List Item
  pub none_before : list_any is_commit (lines front) ≡ false
  pub are : items ≡ front ++ said to.Commit ∷ []
  pub stands : IsGraphOf (config_at (before ++ items)) g

-- what is heard of the items of a statement: the graph that they commit, if they do
abbrev pub IsHeard : List Item → List Item → Option Graph → Type 0
IsHeard before items None = list_any is_commit (lines items) ≡ false
IsHeard before items (Some g) = Commits before items g
