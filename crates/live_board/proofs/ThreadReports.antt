-- The report of what was carried out on threads is the one of its transcript and its run.
use Rattle.std.proofs.Common.{◌≡◌, ◌∙◌, ℕ, List, [], ◌∷◌, map, length, refl, sym, subst}
use Rattle.std.specs.Prelude.{All}
use Rattle.std.specs.List.{range_with_len}
use Rattle.change_board.specs.Collecting.{IsEndOf, first_undone}
use Rattle.change_engine.specs.Ending.{unfinished_after}
use Rattle.change_spec.specs.Statements.{Statement}
use Rattle.report_types.specs.declared.report.NodeLog.{NodeLog}
use Rattle.report_types.specs.declared.report.Report.{Report}
use Rattle.txn_records.specs.Entries.{config_of}
use Rattle.txn_records.specs.Records.{Moment, events}
use Rattle.txn_records.specs.declared.entry.Entry.{Entry}
use Rattle.txn_spec.specs.Views.{log_in}
use Rattle.txn_spec.specs.declared.view.NodeView.{NodeView}
use Rattle.change_transcript_laws.specs.Reports.{IsReportOfTranscript, logs_in, taken_in}
use Rattle.quiesce_core.specs.Runs.{done_by}
use Rattle.live_board.specs.Ended.{CarriedOutOnThreads}

same_map : {A B : Type 0} (f g : A → B) (xs : List A) → ((x : A) → f x ≡ g x) → map f xs ≡ map g xs
same_map f g [] h = refl
same_map f g (x ∷ xs) h = λ i. h x i ∷ same_map f g xs h i

pub is_report : (statements : List Statement) (report : Report) (r : List Entry) (nodes : List NodeView) (m : List Moment) (h : CarriedOutOnThreads statements report r nodes)
    → ((n : ℕ) → done_by n (events m) ≡ log_in nodes n) → IsReportOfTranscript h.transcript m report
is_report statements report r nodes m h logs =
    let same : taken_in report ≡ logs_in m (length (config_of r).slots) = h.logs_are ∙ same_map (log_in nodes) (λ k. done_by k (events m)) (range_with_len 0 (length (config_of r).slots)) (λ n. sym (logs n)) in
    let back = sym h.record_is in
    record {
      history_is = h.history_is;
      slots = subst (λ q. map (λ (l : NodeLog). l.slot) report.logs ≡ range_with_len 0 (length (config_of q).slots)) back h.slots;
      events_are = subst (λ q. taken_in report ≡ logs_in m (length (config_of q).slots)) back same;
      ends = subst (λ q. All (IsEndOf (config_of q) (taken_in report)) report.logs) back (subst (λ t. All (IsEndOf (config_of r) t) report.logs) (sym h.logs_are) h.ends);
      unfinished_is = subst (λ q. report.unfinished ≡ unfinished_after report.history (first_undone (config_of q) (taken_in report))) back
          (subst (λ t. report.unfinished ≡ unfinished_after report.history (first_undone (config_of r) t)) (sym h.logs_are) h.unfinished_is);
      status_is = h.status_is;
    }
