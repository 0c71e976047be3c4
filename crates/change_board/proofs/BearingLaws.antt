-- What a record bears of a history.
use Rattle.std.proofs.Common.{◌≡◌, Bool, true, false, cond, List, [], ◌∷◌, ◌++◌, Some, None, refl, sym, ap, ◌∙◌}
use Rattle.std.specs.Prelude.{filter_map, is_some, option_and_then}
use Rattle.std.specs.List.{AllByRecursion, cons_option}
use Rattle.std.proofs.lemmas.Bool.{both_ways}
use Rattle.base.specs.Each.{EachAfter}
use Rattle.change_spec.specs.Members.{event_of, line_of}
use Rattle.report_types.specs.declared.report.HistoryLine.{HistoryLine}
use Rattle.report_types.specs.declared.report.HistoryLine.TheVariants as to
use Rattle.quiesce_core.specs.declared.event.Event.{Event}
use Rattle.quiesce_core.specs.declared.event.Event.TheVariants.{Begin, Call, Take, Give, End, More, Ask, Hear, Miss, Close, Reopen, Make, Link, Unlink, Remove}
use Rattle.change_board.specs.Bearing.{Bears, IsBorne, IsToldSo}
use Rattle.txn_records.specs.Entries.{event_in, events_in}
use Rattle.txn_records.specs.declared.entry.Entry.{Entry}
use Rattle.txn_records.specs.declared.entry.Entry.TheVariants.{Did, Looked, Sighted, Scanned}
use Rattle.txn_records.specs.Looks.{is_drained_word, serial_of}
use Rattle.change_board.specs.Transcripts.{Item, silent, told, said, entries, lines, tells}

no_line : (l : HistoryLine) (e : Event) → None ≡ Some l → Some e ≡ event_of l
no_line l e h = absurd (both_ways false refl (ap is_some h))

-- the line of an event of the change
told_event : (e : Event) (l : HistoryLine) → line_of e ≡ Some l → Some e ≡ event_of l
told_event (Make n made from) l h = ap (option_and_then event_of) h
told_event (Link p n x) l h = ap (option_and_then event_of) h
told_event (Unlink p) l h = ap (option_and_then event_of) h
told_event (Remove n) l h = ap (option_and_then event_of) h
told_event (Close p) l h = ap (option_and_then event_of) h
told_event (Reopen p) l h = ap (option_and_then event_of) h
told_event (Begin p k v) l h = no_line l (Begin p k v) h
told_event (Call p k v) l h = no_line l (Call p k v) h
told_event (Miss p) l h = no_line l (Miss p) h
told_event (Take p k v) l h = no_line l (Take p k v) h
told_event (Give p k v) l h = no_line l (Give p k v) h
told_event (More p k v) l h = no_line l (More p k v) h
told_event (Ask p k v) l h = no_line l (Ask p k v) h
told_event (Hear p k v) l h = no_line l (Hear p k v) h
told_event (End p k v) l h = no_line l (End p k v) h

told_entry : (x : Entry) (l : HistoryLine) → tells x ≡ Some l → event_in x ≡ event_of l
told_entry (Did e) l h = told_event e l h
told_entry (Looked p w) l h = by_test (is_drained_word w) h
  where
    by_test : (b : Bool) → cond b (Some (to.Drained p (serial_of w))) None ≡ Some l → None ≡ event_of l
    by_test true h = ap (option_and_then event_of) h
    by_test false h = absurd (both_ways false refl (ap is_some h))
told_entry (Sighted n es) l h = absurd (both_ways false refl (ap is_some h))
told_entry (Scanned b m) l h = absurd (both_ways false refl (ap is_some h))

-- what is said beside is no event
said_line : (before : List Item) (l : HistoryLine) → IsBorne before (said l) → event_of l ≡ None
said_line before (to.Start name args) h = h
said_line before (to.Change name args) h = h
said_line before (to.Make n made from) h = h
said_line before (to.Link p n x) h = h
said_line before (to.Unlink p) h = h
said_line before (to.Remove n) h = h
said_line before (to.Close p) h = h
said_line before (to.Reopen p) h = h
said_line before (to.Drained p k) h = refl
said_line before to.Commit h = h
said_line before to.Abandon h = h
said_line before to.Skipped h = h
said_line before (to.Pending n) h = refl
said_line before (to.Root p k) h = refl
said_line before (to.Run k n) h = h
said_line before (to.Finish n k) h = refl
said_line before (to.Show g) h = h
said_line before to.Stop h = h

told_so : (before : List Item) (x : Item) → IsBorne before x → IsToldSo x
told_so before (silent x) h = h
told_so before (told x l) h = h
told_so before (said l) h = said_line before l h

all_told : (before t : List Item) → EachAfter IsBorne before t → AllByRecursion IsToldSo t
all_told before [] h = tt
all_told before (x ∷ t) h = (told_so before x h.0, all_told (before ++ x ∷ []) t h.1)

pub events_told : (t : List Item) → AllByRecursion IsToldSo t → events_in (entries t) ≡ filter_map event_of (lines t)
events_told [] h = refl
events_told (silent x ∷ t) h = ap (λ o. cons_option o (events_in (entries t))) h.0 ∙ events_told t h.1
events_told (told x l ∷ t) h =
    ap (λ o. cons_option o (events_in (entries t))) (told_entry x l h.0) ∙ ap (cons_option (event_of l)) (events_told t h.1)
events_told (said l ∷ t) h =
    events_told t h.1 ∙ sym (ap (λ o. cons_option o (filter_map event_of (lines t))) h.0)

pub borne_events : (r : List Entry) (history : List HistoryLine) → Bears r history → events_in r ≡ filter_map event_of history
borne_events r history h =
    ap events_in (sym h.entries_are) ∙ events_told h.items (all_told [] h.items h.borne) ∙ ap (filter_map event_of) h.lines_are
