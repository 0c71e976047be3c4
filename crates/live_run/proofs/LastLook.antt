-- A look behind all else changes nothing of what a report and its seat agree on.
use Rattle.std.proofs.Common.{◌≡◌, ◌∙◌, ℕ, List, [], ◌∷◌, ◌++◌, append_assoc, length, map, None, refl, ap, subst, sym}
use Rattle.std.specs.List.{range_with_len}
use Rattle.std.proofs.lemmas.List.{append-nil}
use Rattle.std.proofs.lemmas.List.Elements.{filter_map-append}
use Rattle.base.proofs.EachLaws.{each_pushed}
use Rattle.base.proofs.ListLaws.{AllByRecursion-push}
use Rattle.change_board.specs.Bearing.{Bears, IsBorne}
use Rattle.change_board.specs.Transcripts.{entries, entry_in, line_in, lines, silent}
use Rattle.change_spec.specs.Statements.{Statement}
use Rattle.live_board.specs.Ended.{AgreesWith}
use Rattle.quiesce_core.specs.State.{Configuration}
use Rattle.report_types.specs.declared.report.HistoryLine.{HistoryLine}
use Rattle.report_types.specs.declared.report.Report.{Report}
use Rattle.txn_spec.specs.Merging.{AreAllAmong, MergeIntoRun}
use Rattle.txn_spec.specs.Views.{log_in}
use Rattle.txn_spec.specs.declared.view.NodeView.{NodeView}
use Rattle.txn_records.specs.Entries.{event_in}
use Rattle.txn_records.specs.declared.entry.Entry.{Entry}
use Rattle.txn_records.specs.declared.entry.Entry.TheVariants.{Looked}
use Rattle.txn_records.proofs.EntryLaws.{config_looked}

bears_still : (r : List Entry) (p w : ℕ) (history : List HistoryLine) → Bears r history → Bears (r ++ Looked p w ∷ []) history
bears_still r p w history b = record {
  items = b.items ++ silent (Looked p w) ∷ [];
  entries_are = filter_map-append entry_in b.items (silent (Looked p w) ∷ []) ∙ ap (λ q. q ++ Looked p w ∷ []) b.entries_are;
  lines_are = filter_map-append line_in b.items (silent (Looked p w) ∷ []) ∙ append-nil (lines b.items) ∙ b.lines_are;
  borne = (each_pushed IsBorne b.items (silent (Looked p w))).1 (b.borne, refl);
}

pub agrees_still : (statements : List Statement) (report : Report) (r : List Entry) (p w : ℕ) (nodes : List NodeView) → AgreesWith statements report r nodes
    → MergeIntoRun (r ++ Looked p w ∷ []) nodes → AgreesWith statements report (r ++ Looked p w ∷ []) nodes
agrees_still statements report r p w nodes a merged = record {
  lawful = a.lawful;
  came = record {
    transcript = a.came.transcript;
    is_transcript = a.came.is_transcript;
    history_is = a.came.history_is;
    seen_behind = a.came.seen_behind ++ Looked p w ∷ [];
    quiet = AllByRecursion-push (λ x. event_in x ≡ None) a.came.seen_behind (Looked p w) a.came.quiet refl;
    record_is = ap (λ q. q ++ Looked p w ∷ []) a.came.record_is ∙ append_assoc (entries a.came.transcript) a.came.seen_behind (Looked p w ∷ []);
    moments = a.came.moments;
    is_record = a.came.is_record;
    logs = a.came.logs;
    joined = a.came.joined;
  };
  at_once = a.at_once;
  bears = bears_still r p w report.history a.bears;
  logs_are = a.logs_are ∙ ap (λ (c : Configuration). map (log_in nodes) (range_with_len 0 (length c.slots))) (sym (config_looked r p w));
  early = a.early;
  merged = merged;
  all = subst (λ (c : Configuration). AreAllAmong (length c.slots) nodes) (sym (config_looked r p w)) a.all;
}
