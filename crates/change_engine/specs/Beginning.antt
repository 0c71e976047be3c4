-- To be believed (definitions.md).
-- A start on a board: its events, told between two lines.
use Rattle.std.specs.Prelude.{◌≡◌, ℕ, ℤ, List, [], ◌∷◌, ◌++◌, flat_map}
use Rattle.config_graph.specs.Graph.{Graph}
use Rattle.quiesce_laws.specs.Starts.{start_of}
use Rattle.report_types.specs.declared.report.HistoryLine.TheVariants as to
use Rattle.change_board.specs.declared.board.Board.{Ghosts as BoardWords}
use Rattle.change_board.specs.Steps.{Deed, events_of}
use Rattle.change_board.specs.Transcripts.{Item, said}
use Rattle.change_engine.specs.Carrying.{deed_items}
use Rattle.change_engine.specs.Growing.{Grew, Telling, telling}

abbrev pub start_items : List ℕ → List ℤ → List Deed → List Item
start_items name args deeds = said (to.Start name args) ∷ (flat_map deed_items deeds ++ said to.Commit ∷ [])

pub record StartsSystem {B : Type 0} (words : BoardWords B) (old : B) (new : Telling B) (name : List ℕ) (args : List ℤ) (g : Graph)
    : Type 0 where
  pub deeds : List Deed
  pub events_are : events_of deeds ≡ start_of g
  pub grew : Grew words (telling old []) new (start_items name args deeds)
