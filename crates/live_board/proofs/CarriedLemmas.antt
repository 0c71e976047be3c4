-- What was carried out on a board is carried out on threads, where the board isn't alone and its record is the seat's.
use Rattle.std.proofs.Common.{◌≡◌, ◌∙◌, false, List, map, length, subst}
use Rattle.std.specs.Prelude.{All}
use Rattle.std.specs.List.{range_with_len}
use Rattle.change_board.specs.Collecting.{IsEndOf, first_undone}
use Rattle.change_board.specs.Transcripts.{entries}
use Rattle.change_board.specs.declared.board.Board.{Ghosts as BoardWords}
use Rattle.change_engine.specs.Ending.{unfinished_after}
use Rattle.change_spec.specs.Statements.{Statement}
use Rattle.change_runner.specs.Ran.{HasCarriedOut}
use Rattle.change_transcript_laws.specs.Pieces.{IsTranscript}
use Rattle.report_types.specs.declared.report.NodeLog.{NodeLog}
use Rattle.report_types.specs.declared.report.Report.{Report}
use Rattle.txn_spec.specs.declared.view.NodeView.{NodeView}
use Rattle.txn_records.specs.Entries.{config_of}
use Rattle.txn_records.specs.declared.entry.Entry.{Entry}
use Rattle.live_board.specs.Ended.{CarriedOutOnThreads, collected_logs}

module _ {B : Type 0} (W : BoardWords B) (statements : List Statement) (report : Report) (board : B) (r : List Entry) (nodes : List NodeView) (alone : W.alone ≡ false)
    (stands : (t : List Entry) → W.stands_for board t → t ≡ r) (taken : W.taken board ≡ collected_logs r nodes) (h : HasCarriedOut W statements report board) where
  same : entries h.transcript ≡ r
  same = stands (entries h.transcript) h.stands

  pub carried : CarriedOutOnThreads statements report r nodes
  carried = record {
    transcript = h.transcript;
    is_transcript = subst (λ a. IsTranscript a statements h.transcript) alone h.is_transcript;
    record_is = same;
    history_is = h.history_is;
    logs_are = h.logs_are ∙ taken;
    slots = subst (λ q. map (λ (l : NodeLog). l.slot) report.logs ≡ range_with_len 0 (length (config_of q).slots)) same h.slots;
    ends = subst (λ logs. All (IsEndOf (config_of r) logs) report.logs) taken (subst (λ q. All (IsEndOf (config_of q) (W.taken board)) report.logs) same h.ends);
    unfinished_is = subst (λ logs. report.unfinished ≡ unfinished_after report.history (first_undone (config_of r) logs)) taken
        (subst (λ q. report.unfinished ≡ unfinished_after report.history (first_undone (config_of q) (W.taken board))) same h.unfinished_is);
    status_is = h.status_is;
  }
