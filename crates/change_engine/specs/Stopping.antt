-- To be believed (definitions.md).
-- How a system is stopped: the ports of all live nodes are passivated, and all logs are collected.
use Rattle.std.specs.Prelude.{◌≡◌, ℕ, List, [], ◌∷◌}
use Rattle.report_types.specs.declared.report.HistoryLine.TheVariants as to
use Rattle.quiesce_laws.specs.Steps.{live_ports}
use Rattle.change_board.specs.declared.board.Board.{Ghosts as BoardWords}
use Rattle.change_board.specs.declared.board.Collected.{Collected}
use Rattle.change_board.specs.Collecting.{Collects}
use Rattle.txn_records.specs.Entries.{config_of}
use Rattle.txn_records.specs.declared.entry.Entry.{Entry}
use Rattle.change_board.specs.Transcripts.{Item, said}
use Rattle.change_engine.specs.Growing.{Grew, Telling, telling}
use Rattle.change_engine.specs.Passivating.{IsPassivation, Passivation, left_after, passivation_items}

-- these are the ports of all live nodes
abbrev pub AreAllLive : List Entry → List ℕ → Type 0
AreAllLive r ports = ports ≡ live_ports (config_of r)

abbrev pub stop_items : List ℕ → Passivation → List Item
stop_items closed how = said to.Stop ∷ passivation_items closed how

-- a system was stopped: all that it closed was found drained, and then the logs were taken in
pub record Stops {B : Type 0} (words : BoardWords B) (old new : Telling B) (ports : List ℕ) (within : ℕ) (x : Collected)
    : Type 0 where
  pub how : Passivation
  pub is_passivation : IsPassivation ports within how
  pub none_left : left_after how.first how.rounds ≡ []
  pub quiet : B
  pub grew : Grew words old (telling quiet new.history) (stop_items ports how)
  pub collected : Collects words.stands_for quiet new.board (words.taken new.board) x
