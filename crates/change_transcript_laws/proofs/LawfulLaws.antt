-- The members of a transcript's run: they are a run of the machine, nodes' events are nodes', and what is said to be drained is so.
use Rattle.std.proofs.Common.{◌≡◌, ◌∙◌, ℕ, Bool, true, false, cond, List, [], ◌∷◌, ◌++◌, Some, None, refl, sym, ap, subst}
use Rattle.std.specs.Prelude.{All}
use Rattle.std.proofs.lemmas.Bool.{both_ways}
use Rattle.std.proofs.lemmas.List.Elements.{All-cons, All-nil}
use Rattle.std.proofs.lemmas.Option.{none-some, same_Some}
use Rattle.base.specs.Each.{Each, EachAfter}
use Rattle.quiesce_core.specs.Runs.{IsRun, state_after}
use Rattle.quiesce_core.specs.State.{exchange}
use Rattle.quiesce_core.specs.Words.{word_of}
use Rattle.quiesce_core.specs.Fields.{fields_of}
use Rattle.quiesce_core.specs.declared.event.Event.{Event}
use Rattle.quiesce_core.specs.declared.event.Event.TheVariants as event
use Rattle.quiesce_core.proofs.RunLaws.{runs_are_well_formed}
use Rattle.quiesce_core.proofs.WordLaws.{port_words_decode}
use Rattle.quiesce_laws.specs.Drained.{is_drained}
use Rattle.quiesce_word.specs.Words as words
use Rattle.quiesce_word.specs.declared.word.Word.{Word}
use Rattle.report_types.specs.declared.report.HistoryLine.{HistoryLine}
use Rattle.report_types.specs.declared.report.HistoryLine.TheVariants as to
use Rattle.change_spec.specs.Lawful.{IsDrainedAt, IsOfItsKind}
use Rattle.change_spec.specs.Members.{Member, by_node, of_history, is_root, line_of, without_roots}
use Rattle.change_spec.specs.Members as members
use Rattle.txn_records.specs.declared.entry.Entry.{Entry}
use Rattle.txn_records.specs.declared.entry.Entry.TheVariants.{Did, Looked, Sighted, Scanned}
use Rattle.txn_records.specs.Looks.{is_drained_word, serial_of}
use Rattle.txn_records.specs.Records.{IsRecordOf, IsSo, Moment}
use Rattle.txn_records.specs.Records as records
use Rattle.change_board.specs.Transcripts.{Item, entries, lines, tells}
use Rattle.change_transcript_laws.proofs.ItemLemmas.{AreFair, is_aside}
use Rattle.change_transcript_laws.specs.Joining.{AreJoined, Joint, of_node, of_line, of_entry, items_in, line_member, member_of, members_in, moments_in}
use Rattle.change_transcript_laws.proofs.JoiningLemmas.{IsKnown, by_known, joined, known, member_events, member_lines}

-- the member of a line is that line
same_line : (l : HistoryLine) (x : Member) (b : Bool) → cond b None (Some (of_history l)) ≡ Some x → x ≡ of_history l
same_line l x true h = absurd (none-some x h)
same_line l x false h = sym (same_Some (of_history l) x h)

pub line_there : (l : HistoryLine) (x : Member) → line_member l ≡ Some x → x ≡ of_history l
line_there l x h = same_line l x (is_root l) h

-- ---- nodes' events are nodes'

kind_at : (before : List Joint) (j : Joint) (x : Member) → member_of j ≡ Some x → IsKnown before j → IsOfItsKind x
kind_at before (of_node e) x h k = subst IsOfItsKind (same_Some (by_node e) x h) (k.so (records.by_node e) refl)
kind_at before (of_line l) x h k = subst IsOfItsKind (sym (line_there l x h)) tt
kind_at before (of_entry y None) x h k = absurd (none-some x h)
kind_at before (of_entry y (Some l)) x h k = subst IsOfItsKind (sym (line_there l x h)) tt

all_from : {A : Type 0} (P : A → Type 0) (before xs : List A) → EachAfter (λ ys x. P x) before xs → All P xs
all_from P before [] each = All-nil P
all_from P before (x ∷ xs) each = All-cons P x xs each.0 (all_from P (before ++ x ∷ []) xs each.1)

all_of_their_kind : (js : List Joint) → Each IsKnown js → All IsOfItsKind (members_in js)
all_of_their_kind js each = all_from IsOfItsKind [] (members_in js) (by_known (λ before x. IsOfItsKind x) kind_at js each)

-- ---- drained lines

-- of a look that found its port drained
record IsLookOf (y : Entry) (p k : ℕ) : Type 0 where
  word : ℕ
  look : y ≡ Looked p word
  drained : is_drained_word word ≡ true
  serial : serial_of word ≡ k

abbrev port_of : HistoryLine → ℕ
port_of (to.Drained p k) = p
port_of _ = 0

abbrev told_serial : HistoryLine → ℕ
told_serial (to.Drained p k) = k
told_serial _ = 0

abbrev is_drained_line : HistoryLine → Bool
is_drained_line (to.Drained p k) = true
is_drained_line _ = false

no_look : (e : Event) (p k : ℕ) → line_of e ≡ Some (to.Drained p k) → ⊥
no_look e p k h = by e h
  where
    differ : (l : HistoryLine) → is_drained_line l ≡ false → Some l ≡ Some (to.Drained p k) → ⊥
    differ l f e = both_ways (is_drained_line l) f (ap is_drained_line (same_Some l (to.Drained p k) e))

    by : (e : Event) → line_of e ≡ Some (to.Drained p k) → ⊥
    by (event.Make n made from) h = differ (to.Make n made from) refl h
    by (event.Link q n x) h = differ (to.Link q n x) refl h
    by (event.Unlink q) h = differ (to.Unlink q) refl h
    by (event.Remove n) h = differ (to.Remove n) refl h
    by (event.Close q) h = differ (to.Close q) refl h
    by (event.Reopen q) h = differ (to.Reopen q) refl h
    by _ h = none-some (to.Drained p k) h

look_of_line : (y : Entry) (p k : ℕ) → tells y ≡ Some (to.Drained p k) → IsLookOf y p k
look_of_line (Did e) p k h = absurd (no_look e p k h)
look_of_line (Looked q w) p k h = by (is_drained_word w) refl h
  where
    by : (b : Bool) → is_drained_word w ≡ b → cond b (Some (to.Drained q (serial_of w))) None ≡ Some (to.Drained p k) → IsLookOf (Looked q w) p k
    by true e h =
        let same = same_Some (to.Drained q (serial_of w)) (to.Drained p k) h in
        record { word = w; look = ap (λ i. Looked i w) (ap port_of same); drained = e; serial = ap told_serial same }
    by false e h = absurd (none-some (to.Drained p k) h)
look_of_line (Sighted n es) p k h = absurd (none-some (to.Drained p k) h)
look_of_line (Scanned b m) p k h = absurd (none-some (to.Drained p k) h)

-- the word of a look tells it
by_word : (es : List Event) (p k w : ℕ) → IsRun es → w ≡ word_of (state_after es) p → is_drained_word w ≡ true → serial_of w ≡ k
    → (is_drained (state_after es) p ≡ true) × ((exchange (state_after es) p).serial ≡ k)
by_word es p k w run so drained serial =
    let s = state_after es in
    let fields : words.unpack w ≡ fields_of s p = ap words.unpack so ∙ port_words_decode s (runs_are_well_formed es run) p in
    (sym (ap words.is_drained fields) ∙ drained, sym (ap (λ (f : Word). f.serial) fields) ∙ serial)

drained_at : (before : List Joint) (j : Joint) (x : Member) → member_of j ≡ Some x → IsKnown before j → IsDrainedAt (members_in before) x
drained_at before (of_node e) x h k = subst (IsDrainedAt (members_in before)) (same_Some (by_node e) x h) tt
drained_at before (of_line l) x h k = subst (IsDrainedAt (members_in before)) (sym (line_there l x h)) (by l k.fair_here.0)
  where
    by : (l : HistoryLine) → is_aside l ≡ true → IsDrainedAt (members_in before) (of_history l)
    by (to.Drained p n) h = absurd (both_ways false refl h)
    by _ h = tt
drained_at before (of_entry y None) x h k = absurd (none-some x h)
drained_at before (of_entry y (Some l)) x h k = subst (IsDrainedAt (members_in before)) (sym (line_there l x h)) (by l k.fair_here.0.1)
  where
    by : (l : HistoryLine) → tells y ≡ Some l → IsDrainedAt (members_in before) (of_history l)
    by (to.Drained p n) t =
        let w = look_of_line y p n t in
        let so : w.word ≡ word_of (records.state_at (moments_in before)) p = subst (λ z. IsSo (moments_in before) (records.entry z)) w.look (k.so (records.entry y) refl) in
        subst (λ es. (is_drained (state_after es) p ≡ true) × ((exchange (state_after es) p).serial ≡ n)) (sym (member_events before k.fair))
        (by_word (records.events (moments_in before)) p n w.word k.is_of.runs so w.drained w.serial)
    by _ t = tt

-- ---- a transcript and its run

pub join : (t : List Item) (m : List Moment) → IsRecordOf (entries t) m → (ms : List Member) × AreJoined t m ms
join t m is_of =
    let w = joined t m is_of.record_is in
    (members_in w.joint, record { joint = w.joint; items_are = w.items_are; moments_are = w.moments_are; members_are = refl })

module _ (t : List Item) (m : List Moment) (ms : List Member) (fair : AreFair t) (j : AreJoined t m ms) where
  fair_joint : AreFair (items_in j.joint)
  fair_joint = subst AreFair (sym j.items_are) fair

  pub events_are : members.events ms ≡ records.events m
  events_are = ap members.events (sym j.members_are) ∙ member_events j.joint fair_joint ∙ ap records.events j.moments_are

  pub lines_are : members.lines ms ≡ without_roots (lines t)
  lines_are = ap members.lines (sym j.members_are) ∙ member_lines j.joint ∙ ap (λ k. without_roots (lines k)) j.items_are

  module _ (is_of : IsRecordOf (entries t) m) where
    pub all_known : Each IsKnown j.joint
    all_known = known j.joint fair_joint (subst (λ k. IsRun (records.events k)) (sym j.moments_are) is_of.runs) (subst (λ k. Each IsSo k) (sym j.moments_are) is_of.so)

    pub runs : IsRun (members.events ms)
    runs = subst IsRun (sym events_are) is_of.runs

    pub by_nodes : All IsOfItsKind ms
    by_nodes = subst (All IsOfItsKind) j.members_are (all_of_their_kind j.joint all_known)

    pub drained : Each IsDrainedAt ms
    drained = subst (Each IsDrainedAt) j.members_are (by_known IsDrainedAt drained_at j.joint all_known)
