-- The logs and the history of a transcript's report are parts of one list of members.
use Rattle.std.proofs.Common.{◌≡◌, ◌∙◌, ℕ, zero, suc, ◌+◌, List, [], ◌∷◌, length, map, sym, ap, subst}
use Rattle.std.specs.Prelude.{filter_map, All}
use Rattle.std.specs.List.{range_with_len}
use Rattle.std.proofs.lemmas.List.Elements.{All-cons, All-nil}
use Rattle.base.proofs.PlaceLaws.{heads_are, tails_are}
use Rattle.quiesce_core.specs.Runs.{done_by}
use Rattle.quiesce_core.specs.State.{Configuration}
use Rattle.quiesce_core.specs.declared.event.Event.{Event}
use Rattle.report_types.specs.declared.report.NodeLog.{NodeLog}
use Rattle.report_types.specs.declared.report.Report.{Report}
use Rattle.change_spec.specs.Lawful.{Merge}
use Rattle.change_spec.specs.Members.{Member, made_slot, without_roots}
use Rattle.txn_records.specs.Records as records
use Rattle.txn_records.specs.Records.{IsRecordOf, Moment}
use Rattle.change_board.specs.Transcripts.{Item, entries, lines}
use Rattle.txn_records.proofs.RecordLaws.{changes_of, config_is}
use Rattle.change_transcript_laws.specs.Joining.{AreJoined}
use Rattle.change_transcript_laws.specs.Pieces.{config_at}
use Rattle.change_transcript_laws.specs.Reports.{IsReportOfTranscript}
use Rattle.change_transcript_laws.proofs.ItemLemmas.{AreFair, fair_events}
use Rattle.change_transcript_laws.proofs.LawfulLaws.{by_nodes, events_are, lines_are}
use Rattle.change_transcript_laws.proofs.MadeLaws.{slot_made, slots_are_numbered, slots_by_change, slots_by_lines}

-- each log of a list has what the function gives of its slot
logs_by : (f : ℕ → List Event) (a n : ℕ) (logs : List NodeLog) → map (λ (l : NodeLog). l.slot) logs ≡ range_with_len a n → map (λ (l : NodeLog). l.events) logs ≡ map f (range_with_len a n)
    → All (λ (l : NodeLog). f l.slot ≡ l.events) logs
logs_by f a n [] slots es = All-nil (λ (l : NodeLog). f l.slot ≡ l.events)
logs_by f a zero (l ∷ logs) slots es = absurd (cc slots)
logs_by f a (suc n) (l ∷ logs) slots es =
    All-cons (λ (k : NodeLog). f k.slot ≡ k.events) l logs
    (ap f (heads_are l.slot a (map (λ (k : NodeLog). k.slot) logs) (range_with_len (a + 1) n) slots) ∙ sym (heads_are l.events (f a) (map (λ (k : NodeLog). k.events) logs) (map f (range_with_len (a + 1) n)) es))
    (logs_by f (a + 1) n logs (tails_are l.slot a (map (λ (k : NodeLog). k.slot) logs) (range_with_len (a + 1) n) slots)
    (tails_are l.events (f a) (map (λ (k : NodeLog). k.events) logs) (map f (range_with_len (a + 1) n)) es))

module _ (t : List Item) (m : List Moment) (ms : List Member) (fair : AreFair t) (j : AreJoined t m ms) (is_of : IsRecordOf (entries t) m) where
  -- a slot for each line that makes a node
  pub slots_made : filter_map made_slot (lines t) ≡ range_with_len 0 (length (config_at t).slots)
  slots_made =
      slots_by_lines (lines t) ∙ ap (filter_map slot_made) (sym (fair_events t fair) ∙ sym (changes_of (entries t) m is_of)) ∙ slots_by_change (records.events m)
      ∙ slots_are_numbered (records.events m) is_of.runs ∙ ap (λ (c : Configuration). range_with_len 0 (length c.slots)) (sym (config_is (entries t) m is_of))

  module _ (report : Report) (has : IsReportOfTranscript t m report) where
    pub merge : Merge ms report
    merge = record {
      one_log_a_node = has.slots ∙ sym slots_made ∙ ap (filter_map made_slot) (sym has.history_is);
      logs = subst (λ es. All (λ (l : NodeLog). done_by l.slot es ≡ l.events) report.logs) (sym (events_are t m ms fair j))
          (logs_by (λ k. done_by k (records.events m)) 0 (length (config_at t).slots) report.logs has.slots has.events_are);
      by_nodes = by_nodes t m ms fair j is_of;
      history = lines_are t m ms fair j ∙ ap without_roots (sym has.history_is);
    }
