-- What a run of a script leaves: its report, and the board, whose record and the report's history are told by one
-- transcript.
use Rattle.std.specs.Prelude.{◌≡◌, List, map, length, All}
use Rattle.std.specs.List.{range_with_len}
use Rattle.change_spec.specs.Endings.{status_of}
use Rattle.change_spec.specs.Statements.{Statement}
use Rattle.report_types.specs.declared.report.NodeLog.{NodeLog}
use Rattle.report_types.specs.declared.report.Report.{Report}
use Rattle.change_board.specs.Collecting.{IsEndOf, first_undone}
use Rattle.change_board.specs.declared.board.Board.{Ghosts as BoardWords}
use Rattle.change_board.specs.Transcripts.{Item, entries, lines}
use Rattle.change_engine.specs.Ending.{unfinished_after}
use Rattle.change_transcript_laws.specs.Pieces.{IsTranscript, config_at}
use Rattle.change_transcript_laws.specs.Reports.{taken_in}

pub record HasCarriedOut {B : Type 0} (words : BoardWords B) (statements : List Statement) (report : Report) (board : B)
    : Type 0 where
  pub transcript : List Item
  pub is_transcript : IsTranscript words.alone statements transcript
  pub history_is : report.history ≡ lines transcript
  -- the board stands for what was done and seen
  pub stands : words.stands_for board (entries transcript)
  -- a log of each node, with the events that the board took in
  pub logs_are : taken_in report ≡ words.taken board
  pub slots : map (λ (l : NodeLog). l.slot) report.logs ≡ range_with_len 0 (length (config_at transcript).slots)
  pub ends : All (IsEndOf (config_at transcript) (words.taken board)) report.logs
  pub unfinished_is : report.unfinished ≡ unfinished_after report.history (first_undone (config_at transcript) (words.taken board))
  pub status_is : report.status ≡ status_of report.history report.unfinished
