-- The lines and the events of items: of what a change does, of looks, of scans and of passivations.
use Rattle.std.proofs.Common.{◌≡◌, ◌∙◌, Bool, true, false, cond, List, [], ◌∷◌, ◌++◌, map, Some, None, refl, sym, ap, subst}
use Rattle.std.specs.Prelude.{⊤, ℕ, filter_map, flat_map}
use Rattle.std.specs.List.{cons_option, list_all}
use Rattle.std.proofs.lemmas.Bool.{and_parts, both_ways}
use Rattle.std.proofs.lemmas.List.Elements.{filter_map-append}
use Rattle.std.proofs.lemmas.List.Sums.{fold-append}
use Rattle.quiesce_laws.specs.Steps.{change_all}
use Rattle.quiesce_core.specs.Doers.{is_of_change}
use Rattle.quiesce_core.specs.Effect.{change_next}
use Rattle.quiesce_core.specs.State.{empty}
use Rattle.quiesce_core.specs.declared.event.Event.{Event}
use Rattle.quiesce_core.specs.declared.event.Event.TheVariants.{Begin, Call, Take, Give, End, More, Ask, Hear, Miss, Close, Reopen, Make, Link, Unlink, Remove}
use Rattle.report_types.specs.declared.report.HistoryLine.{HistoryLine}
use Rattle.report_types.specs.declared.report.HistoryLine.TheVariants as to
use Rattle.change_spec.specs.Members.{event_of}
use Rattle.change_spec.specs.Scene.{config_after}
use Rattle.txn_records.specs.Entries.{config_of, event_in, events_in}
use Rattle.txn_records.specs.declared.entry.Entry.{Entry}
use Rattle.txn_records.specs.declared.entry.Entry.TheVariants.{Looked}
use Rattle.txn_records.specs.Looks.{is_drained_word, serial_of}
use Rattle.change_board.specs.Scans.{Found, look_entry, scan_entries}
use Rattle.change_board.specs.Sights.{Sight, sight_entry}
use Rattle.change_board.specs.Steps.{Deed, events_of}
use Rattle.change_board.specs.Transcripts.{Item, silent, told, said, entries, lines, tells}
use Rattle.change_engine.specs.Carrying.{deed_items, event_item, sight_item}
use Rattle.change_engine.specs.Finishing.{ScanSeen, all_entries, seen_entries}
use Rattle.change_engine.specs.Passivating.{Passivation, WaitingRound, close_item, look_item, passivation_items, round_items, silent_items}
use Rattle.change_transcript_laws.specs.Pieces.{config_at}
use Rattle.change_engine.proofs.ItemLaws.{entries_both}
use Rattle.change_engine.specs.Draining.{root_item}
use Rattle.change_engine.specs.declared.passivating.LeftRoot.{LeftRoot}

-- ---- items whose lines tell what their entries say

-- a line that is no event, and tells of no look
abbrev pub is_aside : HistoryLine → Bool
is_aside (to.Make n made from) = false
is_aside (to.Link p n x) = false
is_aside (to.Unlink p) = false
is_aside (to.Remove n) = false
is_aside (to.Close p) = false
is_aside (to.Reopen p) = false
is_aside (to.Drained p k) = false
is_aside _ = true

pub aside_event : (l : HistoryLine) → is_aside l ≡ true → event_of l ≡ None
aside_event (to.Make n made from) h = absurd (both_ways false refl h)
aside_event (to.Link p n x) h = absurd (both_ways false refl h)
aside_event (to.Unlink p) h = absurd (both_ways false refl h)
aside_event (to.Remove n) h = absurd (both_ways false refl h)
aside_event (to.Close p) h = absurd (both_ways false refl h)
aside_event (to.Reopen p) h = absurd (both_ways false refl h)
aside_event _ h = refl

abbrev pub IsFair : Item → Type 0
IsFair (silent x) = event_in x ≡ None
IsFair (told x l) = (event_in x ≡ event_of l) × (tells x ≡ Some l)
IsFair (said l) = is_aside l ≡ true

abbrev pub AreFair : List Item → Type 0
AreFair [] = ⊤
AreFair (x ∷ t) = IsFair x × AreFair t

pub fair_both : (t u : List Item) → AreFair t → AreFair u → AreFair (t ++ u)
fair_both [] u f g = g
fair_both (x ∷ t) u f g = (f.0, fair_both t u f.1 g)

pub fair_events : (t : List Item) → AreFair t → events_in (entries t) ≡ filter_map event_of (lines t)
fair_events [] f = refl
fair_events (silent x ∷ t) f = ap (λ o. cons_option o (events_in (entries t))) f.0 ∙ fair_events t f.1
fair_events (told x l ∷ t) f = ap (λ o. cons_option o (events_in (entries t))) f.0.0 ∙ ap (cons_option (event_of l)) (fair_events t f.1)
fair_events (said l ∷ t) f = fair_events t f.1 ∙ sym (ap (λ o. cons_option o (filter_map event_of (lines t))) (aside_event l f.0))

-- so both make one configuration
pub fair_config : (t : List Item) → AreFair t → config_at t ≡ config_after (lines t)
fair_config t f = ap (change_all empty.config) (fair_events t f)

-- ---- what a change does

fair_event : (e : Event) → is_of_change e ≡ true → IsFair (event_item e)
fair_event (Make n node from) h = (refl, refl)
fair_event (Link p n x) h = (refl, refl)
fair_event (Unlink p) h = (refl, refl)
fair_event (Remove n) h = (refl, refl)
fair_event (Close p) h = (refl, refl)
fair_event (Reopen p) h = (refl, refl)
fair_event (Begin p k v) h = absurd (both_ways false refl h)
fair_event (Call p k v) h = absurd (both_ways false refl h)
fair_event (Miss p) h = absurd (both_ways false refl h)
fair_event (Take p k v) h = absurd (both_ways false refl h)
fair_event (Give p k v) h = absurd (both_ways false refl h)
fair_event (More p k v) h = absurd (both_ways false refl h)
fair_event (Ask p k v) h = absurd (both_ways false refl h)
fair_event (Hear p k v) h = absurd (both_ways false refl h)
fair_event (End p k v) h = absurd (both_ways false refl h)

pub fair_sights : (ss : List Sight) → AreFair (map sight_item ss)
fair_sights [] = tt
fair_sights (s ∷ ss) = (refl, fair_sights ss)

pub fair_roots : (xs : List LeftRoot) → AreFair (map root_item xs)
fair_roots [] = tt
fair_roots (x ∷ xs) = (refl, fair_roots xs)

pub fair_deeds : (deeds : List Deed) → list_all is_of_change (events_of deeds) ≡ true → AreFair (flat_map deed_items deeds)
fair_deeds [] h = tt
fair_deeds (d ∷ deeds) h =
    let w = and_parts (is_of_change d.event) (list_all is_of_change (events_of deeds)) h in
    fair_both (deed_items d) (flat_map deed_items deeds) (fair_event d.event w.0, fair_sights d.sights) (fair_deeds deeds w.1)

-- ---- looks

fair_look : (p w : ℕ) (b : Bool) → is_drained_word w ≡ b → IsFair (cond b (told (Looked p w) (to.Drained p (serial_of w))) (silent (Looked p w)))
fair_look p w true e = (refl, ap (λ b. cond b (Some (to.Drained p (serial_of w))) None) e)
fair_look p w false e = refl

fair_looks : (found : List Found) → AreFair (map look_item found)
fair_looks [] = tt
fair_looks (f ∷ found) = (fair_look f.port f.word (is_drained_word f.word) refl, fair_looks found)

-- ---- scans

fair_sightings : (ss : List Sight) (es : List Entry) → AreFair (silent_items es) → AreFair (silent_items (map sight_entry ss ++ es))
fair_sightings [] es f = f
fair_sightings (s ∷ ss) es f = (refl, fair_sightings ss es f)

fair_look_entries : (found : List Found) → AreFair (silent_items (map look_entry found))
fair_look_entries [] = tt
fair_look_entries (f ∷ found) = (refl, fair_look_entries found)

pub fair_scan : (begins moved : Bool) (ss : List Sight) (found : List Found) → AreFair (silent_items (scan_entries begins moved ss found))
fair_scan begins moved ss found = (refl, fair_sightings ss (map look_entry found) (fair_look_entries found))

silent_both : (es fs : List Entry) → silent_items (es ++ fs) ≡ silent_items es ++ silent_items fs
silent_both [] fs = refl
silent_both (e ∷ es) fs = ap (λ t. silent e ∷ t) (silent_both es fs)

pub fair_scans : (scans : List ScanSeen) → AreFair (silent_items (all_entries scans))
fair_scans [] = tt
fair_scans (w ∷ scans) =
    subst AreFair (sym (silent_both (seen_entries w) (all_entries scans)))
    (fair_both (silent_items (seen_entries w)) (silent_items (all_entries scans)) (fair_scan true w.answer.moved w.sights w.found) (fair_scans scans))

pub fair_run : (looks : List Found) (scans : List ScanSeen) → AreFair (silent_items (map look_entry looks ++ all_entries scans))
fair_run looks scans =
    subst AreFair (sym (silent_both (map look_entry looks) (all_entries scans)))
    (fair_both (silent_items (map look_entry looks)) (silent_items (all_entries scans)) (fair_look_entries looks) (fair_scans scans))

-- ---- passivations

fair_closes : (ps : List ℕ) → AreFair (map close_item ps)
fair_closes [] = tt
fair_closes (p ∷ ps) = ((refl, refl), fair_closes ps)

fair_round : (w : WaitingRound) → AreFair (round_items w)
fair_round w =
    fair_both (silent_items (scan_entries false w.moved w.sights w.scan)) (map look_item w.found) (fair_scan false w.moved w.sights w.scan) (fair_looks w.found)

fair_rounds : (rounds : List WaitingRound) → AreFair (flat_map round_items rounds)
fair_rounds [] = tt
fair_rounds (w ∷ rounds) = fair_both (round_items w) (flat_map round_items rounds) (fair_round w) (fair_rounds rounds)

pub fair_passivation : (ports : List ℕ) (how : Passivation) → AreFair (passivation_items ports how)
fair_passivation ports how =
    let shut = map close_item ports in
    let first = map look_item how.first in
    fair_both (shut ++ first) (flat_map round_items how.rounds) (fair_both shut first (fair_closes ports) (fair_looks how.first)) (fair_rounds how.rounds)

-- ---- configurations of items, one behind the other

pub config_over : (t u : List Item) → config_at (t ++ u) ≡ change_all (config_at t) (events_in (entries u))
config_over t u =
    ap config_of (entries_both t u) ∙ ap (change_all empty.config) (filter_map-append event_in (entries t) (entries u))
    ∙ fold-append change_next empty.config (events_in (entries t)) (events_in (entries u))
