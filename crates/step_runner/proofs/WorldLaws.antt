-- The worlds behind items of a transcript, one list behind the other.
use Rattle.std.proofs.Common.{◌≡◌, ◌∙◌, Bool, List, [], ◌∷◌, ◌++◌, map, Option, Some, None, refl, ap, subst}
use Rattle.std.specs.Prelude.{⊤, ℕ, flat_map, fold}
use Rattle.std.specs.List.{cons_option}
use Rattle.std.specs.Option.{option_map_or}
use Rattle.std.proofs.lemmas.List.Sums.{fold-append}
use Rattle.base.proofs.EachLaws.{each_parts}
use Rattle.base.specs.Each.{EachAfter}
use Rattle.txn_records.specs.declared.entry.Entry.{Entry}
use Rattle.txn_records.specs.declared.entry.Entry.TheVariants.{Did, Looked, Sighted, Scanned}
use Rattle.change_board.specs.Scans.{Found, look_entry, scan_entries}
use Rattle.change_board.specs.Sights.{Sight, sight_entry}
use Rattle.change_board.specs.Steps.{Deed, events_of}
use Rattle.change_board.specs.Transcripts.{Item, silent, told, entries, entry_in}
use Rattle.change_engine.specs.Carrying.{deed_items, sight_item}
use Rattle.change_engine.specs.Passivating.{close_item, look_item, silent_items}
use Rattle.change_spec.specs.Members.{line_of}
use Rattle.change_spec.specs.Serial.{after_changes}
use Rattle.report_types.specs.declared.report.HistoryLine.{HistoryLine}
use Rattle.report_types.specs.declared.report.HistoryLine.TheVariants as to
use Rattle.change_transcript_laws.specs.Pieces.{config_at}
use Rattle.quiesce_core.specs.declared.event.Event.{Event}
use Rattle.quiesce_core.specs.declared.event.Event.TheVariants.{Close}
use Rattle.step_board.specs.Playing.{HasWholeRounds, IsSoAt, IsSoIn, play, played}
use Rattle.step_board.specs.RunFacts.{config_here, played_more, round_goes_on, rounds_play}
use Rattle.node_turn_laws.specs.Reached.{IsReached}
use Rattle.node_turn_laws.specs.Round.{round}
use Rattle.node_turn_laws.specs.World.{World, nowhere, with_event}
use Rattle.step_runner.specs.Behind.{AreByRounds, world_behind}
use Rattle.change_engine.proofs.ItemLaws.{entries_both, silent_entries, look_entries}

-- the world behind items that begin in this one
abbrev pub play_items : World → List Item → World
play_items w t = fold play w (entries t)

pub play_both : (w : World) (t u : List Item) → play_items w (t ++ u) ≡ play_items (play_items w t) u
play_both w t u = ap (fold play w) (entries_both t u) ∙ fold-append play w (entries t) (entries u)

pub behind_both : (t u : List Item) → world_behind (t ++ u) ≡ play_items (world_behind t) u
behind_both t u = play_both nowhere t u

-- ---- what entries say is so in the worlds in which they are played

abbrev pub AreSo : World → List Entry → Type 0
AreSo w [] = ⊤
AreSo w (x ∷ xs) = IsSoIn w x × AreSo (play w x) xs

so_after : (r xs : List Entry) → EachAfter IsSoAt r xs → AreSo (played r) xs
so_after r [] h = tt
so_after r (x ∷ xs) h = (h.0, subst (λ w. AreSo w xs) (played_more r x) (so_after (r ++ x ∷ []) xs h.1))

pub so_parts : (w : World) (xs ys : List Entry) → AreSo w (xs ++ ys) → AreSo w xs × AreSo (fold play w xs) ys
so_parts w [] ys h = (tt, h)
so_parts w (x ∷ xs) ys h = let p = so_parts (play w x) xs ys h.1 in ((h.0, p.0), p.1)

pub so_items : (w : World) (t u : List Item) → AreSo w (entries (t ++ u)) → AreSo w (entries t) × AreSo (play_items w t) (entries u)
so_items w t u h = so_parts w (entries t) (entries u) (subst (AreSo w) (entries_both t u) h)

rounds_parts : (t u : List Item) → AreByRounds (t ++ u) → HasWholeRounds (entries t) × EachAfter IsSoAt (entries t) (entries u)
rounds_parts t u h = each_parts IsSoAt [] (entries t) (entries u) (subst HasWholeRounds (entries_both t u) h)

pub front_of_rounds : (t u : List Item) → AreByRounds (t ++ u) → AreByRounds t
front_of_rounds t u h = (rounds_parts t u h).0

pub so_behind : (t u : List Item) → AreByRounds (t ++ u) → AreSo (world_behind t) (entries u)
so_behind t u h = so_after (entries t) (entries u) (rounds_parts t u h).1

-- ---- the worlds are reached, and have the configurations that the items make

reach_one : (w : World) (x : Entry) → IsReached w → IsSoIn w x → IsReached (play w x)
reach_one w (Did e) r so = IsReached.by_change w e r so.0 so.1
reach_one w (Looked p v) r so = r
reach_one w (Sighted n es) r so = r
reach_one w (Scanned b m) r so = (round_goes_on w b r).reached

pub reach_all : (w : World) (xs : List Entry) → IsReached w → AreSo w xs → IsReached (fold play w xs)
reach_all w [] r so = r
reach_all w (x ∷ xs) r so = reach_all (play w x) xs (reach_one w x r so.0) so.1

pub reached_behind : (t : List Item) → AreByRounds t → IsReached (world_behind t)
reached_behind t h = (rounds_play (entries t) h).reached

pub config_behind : (t : List Item) → AreByRounds t → config_at t ≡ (world_behind t).machine.config
config_behind t h = config_here (entries t) (played (entries t)) (rounds_play (entries t) h)

-- ---- what a change does

one_event : (e : Event) (o : Option HistoryLine) (xs : List Entry) → cons_option (entry_in (option_map_or (told (Did e)) o (silent (Did e)))) xs ≡ Did e ∷ xs
one_event e None xs = refl
one_event e (Some l) xs = refl

pub play_sights : (w : World) (ss : List Sight) → play_items w (map sight_item ss) ≡ w
play_sights w [] = refl
play_sights w (s ∷ ss) = play_sights w ss

play_deed : (w : World) (d : Deed) → play_items w (deed_items d) ≡ with_event w d.event
play_deed w d = ap (fold play w) (one_event d.event (line_of d.event) (entries (map sight_item d.sights))) ∙ play_sights (with_event w d.event) d.sights

pub play_deeds : (w : World) (deeds : List Deed) → play_items w (flat_map deed_items deeds) ≡ after_changes w (events_of deeds)
play_deeds w [] = refl
play_deeds w (d ∷ deeds) =
    play_both w (deed_items d) (flat_map deed_items deeds) ∙ ap (λ v. play_items v (flat_map deed_items deeds)) (play_deed w d)
    ∙ play_deeds (with_event w d.event) deeds

pub play_closes : (w : World) (ps : List ℕ) → play_items w (map close_item ps) ≡ after_changes w (map Close ps)
play_closes w [] = refl
play_closes w (p ∷ ps) = play_closes (with_event w (Close p)) ps

pub looks_leave : (w : World) (fs : List Found) → fold play w (map look_entry fs) ≡ w
looks_leave w [] = refl
looks_leave w (f ∷ fs) = looks_leave w fs

pub play_looks : (w : World) (fs : List Found) → play_items w (map look_item fs) ≡ w
play_looks w fs = ap (fold play w) (look_entries fs) ∙ looks_leave w fs

pub sights_leave : (w : World) (ss : List Sight) → fold play w (map sight_entry ss) ≡ w
sights_leave w [] = refl
sights_leave w (s ∷ ss) = sights_leave w ss

pub play_scan : (w : World) (begins moved : Bool) (ss : List Sight) (fs : List Found)
    → play_items w (silent_items (scan_entries begins moved ss fs)) ≡ (round begins w).world
play_scan w begins moved ss fs =
    let v = (round begins w).world in
    ap (fold play w) (silent_entries (scan_entries begins moved ss fs)) ∙ fold-append play v (map sight_entry ss) (map look_entry fs)
    ∙ ap (λ u. fold play u (map look_entry fs)) (sights_leave v ss) ∙ looks_leave v fs
