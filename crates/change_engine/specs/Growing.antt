-- How the records of a board and the history grow together: by a transcript.
use Rattle.std.specs.Prelude.{◌≡◌, ◌⊎◌, List, ◌++◌}
use Rattle.report_types.specs.declared.report.HistoryLine.{HistoryLine}
use Rattle.txn_records.specs.declared.entry.Entry.{Entry}
use Rattle.txn_records.specs.Records.{Adds}
use Rattle.change_board.specs.declared.board.Board.{Ghosts as BoardWords}
use Rattle.change_board.specs.Transcripts.{Item, entries, lines}

-- a board, with the history that tells of it
pub record Telling (B : Type 0) : Type 0 where
  pub board : B
  pub history : List HistoryLine

abbrev pub telling : {B : Type 0} → B → List HistoryLine → Telling B
telling board history = record { board = board; history = history }

pub record Grew {B : Type 0} (words : BoardWords B) (old new : Telling B) (t : List Item) : Type 0 where
  pub adds : Adds words.stands_for old.board new.board (entries t)
  pub adds_lines : new.history ≡ old.history ++ lines t

-- Memory was wanting: the board stands for further entries, or a call of it broke off behind them. Either way what was
-- done is a run that begins as the record says.
pub record BrokeOff {B : Type 0} (words : BoardWords B) (old new : B) : Type 0 where
  pub more_ : List Entry
  pub stands : (r : List Entry) → words.stands_for old r → words.stands_for new (r ++ more_) ⊎ words.broke_off new (r ++ more_)
