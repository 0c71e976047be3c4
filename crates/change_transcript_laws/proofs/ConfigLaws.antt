-- The configuration behind the items of each statement.
use Rattle.std.proofs.Common.{◌≡◌, ◌∙◌, ℕ, List, [], ◌∷◌, ◌++◌, map, Option, Some, None, refl, sym, ap}
use Rattle.std.specs.Prelude.{ℤ, filter_map, flat_map}
use Rattle.std.specs.List.{cons_option}
use Rattle.std.specs.Option.{option_map_or}
use Rattle.std.proofs.lemmas.List.{append-nil}
use Rattle.std.proofs.lemmas.List.Elements.{filter_map-append}
use Rattle.quiesce_laws.specs.Steps.{change_all}
use Rattle.quiesce_core.specs.State.{empty}
use Rattle.quiesce_core.specs.declared.event.Event.{Event}
use Rattle.report_types.specs.declared.report.HistoryLine.{HistoryLine}
use Rattle.report_types.specs.declared.report.HistoryLine.TheVariants as to
use Rattle.change_spec.specs.Members.{event_of, line_of}
use Rattle.txn_records.specs.Entries.{event_in, events_in}
use Rattle.txn_records.specs.declared.entry.Entry.{Entry}
use Rattle.txn_records.specs.declared.entry.Entry.TheVariants.{Did}
use Rattle.change_board.specs.Scans.{Found, look_entry}
use Rattle.change_board.specs.Sights.{Sight, sight_entry}
use Rattle.change_board.specs.Steps.{Deed, events_of}
use Rattle.change_board.specs.Transcripts.{Item, silent, told, said, entries, entry_in, lines}
use Rattle.change_engine.specs.Beginning.{start_items}
use Rattle.change_engine.specs.Carrying.{deed_items, sight_item}
use Rattle.change_engine.specs.Finishing.{ScanSeen, all_entries}
use Rattle.change_engine.specs.Passivating.{silent_items}
use Rattle.change_transcript_laws.specs.Pieces.{config_at}
use Rattle.change_transcript_laws.proofs.ItemLemmas.{config_over, fair_events, fair_run, fair_scans}
use Rattle.change_engine.proofs.ItemLaws.{entries_both, lines_both, silent_entries, silent_lines, sight_entries, sight_lines}

-- ---- what a change does

no_sights : (ss : List Sight) → events_in (entries (map sight_item ss)) ≡ []
no_sights [] = refl
no_sights (s ∷ ss) = no_sights ss

one_entry : (e : Event) (o : Option HistoryLine) → entry_in (option_map_or (told (Did e)) o (silent (Did e))) ≡ Some (Did e)
one_entry e None = refl
one_entry e (Some l) = refl

deed_event : (d : Deed) → events_in (entries (deed_items d)) ≡ d.event ∷ []
deed_event d =
    ap (λ o. events_in (cons_option o (entries (map sight_item d.sights)))) (one_entry d.event (line_of d.event)) ∙ ap (λ es. d.event ∷ es) (no_sights d.sights)

pub deed_events : (deeds : List Deed) → events_in (entries (flat_map deed_items deeds)) ≡ events_of deeds
deed_events [] = refl
deed_events (d ∷ deeds) =
    ap events_in (entries_both (deed_items d) (flat_map deed_items deeds)) ∙ filter_map-append event_in (entries (deed_items d)) (entries (flat_map deed_items deeds))
    ∙ ap (λ es. es ++ events_in (entries (flat_map deed_items deeds))) (deed_event d) ∙ ap (λ es. d.event ∷ es) (deed_events deeds)

-- deeds between lines that are no entries
pub deeds_config : (before : List Item) (deeds : List Deed) (l : HistoryLine) → config_at (before ++ (flat_map deed_items deeds ++ said l ∷ [])) ≡ change_all (config_at before) (events_of deeds)
deeds_config before deeds l =
    let es = events_in (entries (flat_map deed_items deeds)) in
    config_over before (flat_map deed_items deeds ++ said l ∷ [])
    ∙ ap (change_all (config_at before)) (ap events_in (entries_both (flat_map deed_items deeds) (said l ∷ []))
    ∙ ap events_in (append-nil (entries (flat_map deed_items deeds))) ∙ deed_events deeds)

pub start_config : (name : List ℕ) (args : List ℤ) (deeds : List Deed) → config_at (start_items name args deeds) ≡ change_all empty.config (events_of deeds)
start_config name args deeds = deeds_config (said (to.Start name args) ∷ []) deeds to.Commit

-- ---- lines and looks leave it

pub said_config : (t : List Item) (l : HistoryLine) → config_at (t ++ said l ∷ []) ≡ config_at t
said_config t l = config_over t (said l ∷ [])

quiet_config : (t : List Item) (es : List Entry) (l : HistoryLine) → events_in es ≡ [] → config_at (t ++ (silent_items es ++ said l ∷ [])) ≡ config_at t
quiet_config t es l h =
    config_over t (silent_items es ++ said l ∷ [])
    ∙ ap (change_all (config_at t)) (ap events_in (entries_both (silent_items es) (said l ∷ []) ∙ append-nil (entries (silent_items es)) ∙ silent_entries es) ∙ h)

quiet_events : (es : List Entry) → events_in (entries (silent_items es)) ≡ filter_map event_of [] → events_in es ≡ []
quiet_events es h = ap events_in (sym (silent_entries es)) ∙ h

pub run_config : (t : List Item) (looks : List Found) (scans : List ScanSeen) (k ended : ℕ)
    → config_at (t ++ (silent_items (map look_entry looks ++ all_entries scans) ++ said (to.Run k ended) ∷ [])) ≡ config_at t
run_config t looks scans k ended =
    let es = map look_entry looks ++ all_entries scans in
    quiet_config t es (to.Run k ended) (quiet_events es (fair_events (silent_items es) (fair_run looks scans) ∙ ap (filter_map event_of) (silent_lines es)))

pub finish_config : (t : List Item) (scans : List ScanSeen) (n rounds : ℕ) → config_at (t ++ (silent_items (all_entries scans) ++ said (to.Finish n rounds) ∷ [])) ≡ config_at t
finish_config t scans n rounds =
    let es = all_entries scans in
    quiet_config t es (to.Finish n rounds) (quiet_events es (fair_events (silent_items es) (fair_scans scans) ∙ ap (filter_map event_of) (silent_lines es)))

pub scans_config : (t : List Item) (scans : List ScanSeen) → config_at (t ++ silent_items (all_entries scans)) ≡ config_at t
scans_config t scans =
    let es = all_entries scans in
    config_over t (silent_items es) ∙ ap (change_all (config_at t)) (fair_events (silent_items es) (fair_scans scans) ∙ ap (filter_map event_of) (silent_lines es))

pub sights_config : (t : List Item) (ss : List Sight) → config_at (t ++ map sight_item ss) ≡ config_at t
sights_config t ss = config_over t (map sight_item ss) ∙ ap (change_all (config_at t)) (no_sights ss)

-- ---- sights are no lines

pub sights_lines : (t : List Item) (ss : List Sight) → lines (t ++ map sight_item ss) ≡ lines t
sights_lines t ss = lines_both t (map sight_item ss) ∙ ap (λ ls. lines t ++ ls) (sight_lines ss) ∙ append-nil (lines t)

pub sights_behind : (t : List Item) (ss : List Sight) → entries (t ++ map sight_item ss) ≡ entries t ++ map sight_entry ss
sights_behind t ss = entries_both t (map sight_item ss) ∙ ap (λ es. entries t ++ es) (sight_entries ss)
