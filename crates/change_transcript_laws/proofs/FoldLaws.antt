-- Each log has a fold, and ends with its last state or tells to which node that went; and which live node isn't done is named.
use Rattle.std.proofs.Common.{◌≡◌, ◌∙◌, ℕ, ◌<◌, Bool, true, false, not, cond, get_or, List, [], ◌∷◌, length, Option, Some, None, refl, sym, ap, subst, arith}
use Rattle.std.specs.Prelude.{◌||◌, filter, filter_map, find, slice_get, All}
use Rattle.std.specs.List.{cons_option, list_any, range_with_len}
use Rattle.std.specs.Option.{option_map_or}
use Rattle.std.proofs.lemmas.Bool.{both_ways}
use Rattle.base.proofs.PlaceLaws.{slice_get-map_at}
use Rattle.component_trait.specs.Moves as moves
use Rattle.quiesce_core.specs.Doers.{is_of_change}
use Rattle.quiesce_core.specs.Runs.{done_by, state_after}
use Rattle.quiesce_core.specs.State.{Configuration, is_live}
use Rattle.quiesce_core.specs.declared.event.Event.{Event}
use Rattle.quiesce_core.specs.declared.event.Event.TheVariants.{Make}
use Rattle.report_types.specs.declared.report.HistoryLine.{HistoryLine}
use Rattle.report_types.specs.declared.report.HistoryLine.TheVariants as to
use Rattle.report_types.specs.declared.report.NodeLog.{NodeLog}
use Rattle.report_types.specs.declared.report.Report.{Report}
use Rattle.change_spec.specs.Endings.{is_made_from, moved_to}
use Rattle.change_spec.specs.Lawful.{EndsAs, IsFolded, is_unfinished}
use Rattle.change_spec.specs.Members as members
use Rattle.change_spec.specs.Members.{Member, event_of, made_slot}
use Rattle.change_spec.specs.Opening.{fold_of_node}
use Rattle.change_board.specs.Collecting.{IsEndOf, first_undone, heir_of, is_undone}
use Rattle.txn_records.specs.Records as records
use Rattle.txn_records.specs.Records.{IsRecordOf, Moment}
use Rattle.change_board.specs.Sights.{fold_seen}
use Rattle.change_board.specs.Transcripts.{Item, entries, lines}
use Rattle.txn_records.proofs.RecordLaws.{changes_of, config_is}
use Rattle.change_board.proofs.SightLaws.{seen_fold}
use Rattle.change_transcript_laws.specs.Joining.{AreJoined}
use Rattle.change_transcript_laws.specs.Pieces.{config_at}
use Rattle.change_transcript_laws.specs.Reports.{IsReportOfTranscript, taken_in}
use Rattle.change_transcript_laws.proofs.HeirLemmas.{heir_by_events, makes_from}
use Rattle.change_transcript_laws.proofs.ItemLemmas.{AreFair, fair_events}
use Rattle.change_transcript_laws.proofs.LawfulLaws.{events_are}
use Rattle.change_transcript_laws.proofs.MergeLaws.{slots_made}
use Rattle.base.proofs.RangeLaws.{range_at}
use Rattle.base.proofs.FindLaws.{find_agree, find_kept}

-- ---- which line makes a node from another

made_by_event : (n j : ℕ) (l : HistoryLine) (b : Bool) → (is_made_from n j l || b) ≡ (option_map_or (makes_from n j) (event_of l) false || b)
made_by_event n j (to.Make i made from) b = refl
made_by_event n j (to.Link p i x) b = refl
made_by_event n j (to.Unlink p) b = refl
made_by_event n j (to.Remove i) b = refl
made_by_event n j (to.Close p) b = refl
made_by_event n j (to.Reopen p) b = refl
made_by_event n j _ b = refl

through_option : (test : Event → Bool) (o : Option Event) (es : List Event) → (option_map_or test o false || list_any test es) ≡ list_any test (cons_option o es)
through_option test None es = refl
through_option test (Some e) es = refl

from_by_lines : (n j : ℕ) (ls : List HistoryLine) → list_any (is_made_from n j) ls ≡ list_any (makes_from n j) (filter_map event_of ls)
from_by_lines n j [] = refl
from_by_lines n j (l ∷ ls) =
    ap (λ b. is_made_from n j l || b) (from_by_lines n j ls) ∙ made_by_event n j l (list_any (makes_from n j) (filter_map event_of ls))
    ∙ through_option (makes_from n j) (event_of l) (filter_map event_of ls)

node_makes_none : (n j : ℕ) (e : Event) → is_of_change e ≡ false → makes_from n j e ≡ false
node_makes_none n j (Make i node from) h = absurd (both_ways true h refl)
node_makes_none n j _ h = refl

by_change : (n j : ℕ) (e : Event) (es kept : List Event) (b : Bool) → is_of_change e ≡ b → list_any (makes_from n j) kept ≡ list_any (makes_from n j) es
    → list_any (makes_from n j) (cond b (e ∷ kept) kept) ≡ list_any (makes_from n j) (e ∷ es)
by_change n j e es kept true h rest = ap (λ b. makes_from n j e || b) rest
by_change n j e es kept false h rest = rest ∙ sym (ap (λ b. b || list_any (makes_from n j) es) (node_makes_none n j e h))

from_by_change : (n j : ℕ) (es : List Event) → list_any (makes_from n j) (filter is_of_change es) ≡ list_any (makes_from n j) es
from_by_change n j [] = refl
from_by_change n j (e ∷ es) = by_change n j e es (filter is_of_change es) (is_of_change e) refl (from_by_change n j es)

-- ---- folds

module _ (t : List Item) (m : List Moment) (ms : List Member) (fair : AreFair t) (j : AreJoined t m ms) (is_of : IsRecordOf (entries t) m) (report : Report) (has : IsReportOfTranscript t m report) where
  abbrev es : List Event
  es = records.events m

  abbrev c : Configuration
  c = config_at t

  same_config : c ≡ (state_after es).config
  same_config = config_is (entries t) m is_of

  same_events : members.events ms ≡ es
  same_events = events_are t m ms fair j

  taken_at : (k : ℕ) → k < length (state_after es).config.slots → slice_get (taken_in report) k ≡ Some (done_by k es)
  taken_at k below =
      let within : k < length c.slots = subst (λ (d : Configuration). k < length d.slots) (sym same_config) below in
      ap (λ xs. slice_get xs k) has.events_are
      ∙ slice_get-map_at (λ i. done_by i es) (range_with_len 0 (length c.slots)) k k (range_at 0 (length c.slots) k within ∙ ap Some (omega arith))

  same_fold : (n : ℕ) → fold_seen c (slice_get (taken_in report)) n ≡ fold_of_node (members.events ms) n
  same_fold n =
      ap (λ d. fold_seen d (slice_get (taken_in report)) n) same_config ∙ seen_fold es (slice_get (taken_in report)) n taken_at
      ∙ sym (ap (λ zs. fold_of_node zs n) same_events)

  same_heir : (n : ℕ) → heir_of c n ≡ moved_to report.history n
  same_heir n =
      let line_test : ℕ → Bool = λ i. list_any (is_made_from n i) report.history in
      let event_test : ℕ → Bool = λ i. list_any (makes_from n i) es in
      let same_test : (i : ℕ) → line_test i ≡ event_test i = λ i.
      ap (list_any (is_made_from n i)) has.history_is ∙ from_by_lines n i (lines t)
      ∙ ap (list_any (makes_from n i)) (sym (fair_events t fair) ∙ sym (changes_of (entries t) m is_of)) ∙ from_by_change n i es in
      let slots_are : filter_map made_slot report.history ≡ range_with_len 0 (length (state_after es).config.slots) =
      ap (filter_map made_slot) has.history_is ∙ slots_made t m ms fair j is_of ∙ ap (λ (d : Configuration). range_with_len 0 (length d.slots)) same_config in
      ap (λ d. heir_of d n) same_config ∙ sym (heir_by_events n es is_of.runs)
      ∙ sym (find_agree line_test event_test (range_with_len 0 (length (state_after es).config.slots)) same_test) ∙ ap (find line_test) (sym slots_are)

  pub folds : All (IsFolded ms report.history) report.logs
  folds = λ k d within. fold_here (get_or report.logs k d) (has.ends k d within)
    where
      fold_here : (l : NodeLog) → IsEndOf c (taken_in report) l → IsFolded ms report.history l
      fold_here l h = subst (λ o. EndsAs (fold_of_node (members.events ms) l.slot) o l.last) (same_heir l.slot) (subst (λ o. EndsAs o (heir_of c l.slot) l.last) (same_fold l.slot) h)

  -- the first live node that isn't done
  pub undone : first_undone c (taken_in report) ≡ find (is_unfinished (members.events ms)) (range_with_len 0 (length (state_after (members.events ms)).config.slots))
  undone =
      let test : ℕ → Bool = λ n. cond (is_live c n) (is_undone c (taken_in report) n) false in
      let all_same : c ≡ (state_after (members.events ms)).config = same_config ∙ sym (ap (λ zs. (state_after zs).config) same_events) in
      let same_test : (n : ℕ) → test n ≡ is_unfinished (members.events ms) n = λ n.
      ap (λ d. cond (is_live d n) (is_undone c (taken_in report) n) false) all_same
      ∙ ap (λ o. cond (is_live (state_after (members.events ms)).config n) (not (option_map_or moves.is_done o false)) false) (same_fold n) in
      find_kept (is_live c) (is_undone c (taken_in report)) (range_with_len 0 (length c.slots))
      ∙ find_agree test (is_unfinished (members.events ms)) (range_with_len 0 (length c.slots)) same_test
      ∙ ap (λ (d : Configuration). find (is_unfinished (members.events ms)) (range_with_len 0 (length d.slots))) all_same
