-- The entries and the lines of items: of what is seen, and of what a change does. And all of a start is a change's.
use Rattle.std.proofs.Common.{◌≡◌, ◌∙◌, ℕ, Bool, true, false, cond, List, [], ◌∷◌, ◌++◌, map, Option, Some, None, refl, sym, ap}
use Rattle.std.specs.Prelude.{◌&&◌, filter_map, flat_map, option_map}
use Rattle.std.specs.List.{cons_option, enumerate_from, list_all}
use Rattle.std.specs.Option.{option_map_or}
use Rattle.std.proofs.lemmas.List.Concat.{flat_map-cons}
use Rattle.std.proofs.lemmas.List.Elements.{filter_map-append}
use Rattle.std.proofs.lemmas.List.Folds.{list_all-append}
use Rattle.std.proofs.lemmas.Grind.{flat_map-append}
use Rattle.std.proofs.lemmas.List.{append-nil}
use Rattle.config_graph.specs.Graph.{Graph, ports, target_of}
use Rattle.config_graph.specs.declared.node.Port.{Port}
use Rattle.config_graph.specs.declared.node.Target.{Target}
use Rattle.change_spec.specs.Members.{line_of, lines_of_events}
use Rattle.report_types.specs.declared.report.HistoryLine.{HistoryLine}
use Rattle.report_types.specs.declared.report.HistoryLine.TheVariants as to
use Rattle.txn_records.specs.declared.entry.Entry.{Entry}
use Rattle.txn_records.specs.declared.entry.Entry.TheVariants.{Did, Looked}
use Rattle.txn_records.specs.Looks.{is_drained_word, serial_of}
use Rattle.quiesce_core.specs.Doers.{is_of_change}
use Rattle.quiesce_core.specs.declared.event.Event.{Event}
use Rattle.quiesce_core.specs.declared.event.Event.TheVariants.{Link}
use Rattle.quiesce_laws.specs.Starts.{link_of, make_of, reopen_of, start_of}
use Rattle.change_board.specs.Scans.{Found, look_entry}
use Rattle.change_board.specs.Sights.{Sight, sight_entry}
use Rattle.change_board.specs.Steps.{Deed, deed_entries, entries_of, events_of}
use Rattle.change_board.specs.Transcripts.{Item, silent, told, said, entries, entry_in, line_in, lines}
use Rattle.change_engine.specs.Carrying.{deed_items, event_item, sight_item}
use Rattle.change_engine.specs.Passivating.{close_item, item_at, look_item, silent_items}
use Rattle.change_engine.specs.Finishing.{ScanSeen, all_entries, seen_entries}

pub entries_both : (t u : List Item) → entries (t ++ u) ≡ entries t ++ entries u
entries_both t u = filter_map-append entry_in t u

pub lines_both : (t u : List Item) → lines (t ++ u) ≡ lines t ++ lines u
lines_both t u = filter_map-append line_in t u

-- ---- what is seen and not told, and what is told alone

pub silent_entries : (es : List Entry) → entries (silent_items es) ≡ es
silent_entries [] = refl
silent_entries (e ∷ es) = ap (λ xs. e ∷ xs) (silent_entries es)

pub silent_lines : (es : List Entry) → lines (silent_items es) ≡ []
silent_lines [] = refl
silent_lines (e ∷ es) = silent_lines es

pub said_entries : (ls : List HistoryLine) → entries (map said ls) ≡ []
said_entries [] = refl
said_entries (l ∷ ls) = said_entries ls

pub said_lines : (ls : List HistoryLine) → lines (map said ls) ≡ ls
said_lines [] = refl
said_lines (l ∷ ls) = ap (λ zs. l ∷ zs) (said_lines ls)

-- ---- what looks see

looked : (p w : ℕ) → entry_in (item_at p w) ≡ Some (Looked p w)
looked p w = by (is_drained_word w)
  where
    by : (b : Bool) → entry_in (cond b (told (Looked p w) (to.Drained p (serial_of w))) (silent (Looked p w))) ≡ Some (Looked p w)
    by true = refl
    by false = refl

pub look_entries : (found : List Found) → entries (map look_item found) ≡ map look_entry found
look_entries [] = refl
look_entries (f ∷ found) =
    ap (λ o. cons_option o (entries (map look_item found))) (looked f.port f.word) ∙ ap (λ es. look_entry f ∷ es) (look_entries found)

-- ---- what a change does

pub sight_entries : (ss : List Sight) → entries (map sight_item ss) ≡ map sight_entry ss
sight_entries [] = refl
sight_entries (s ∷ ss) = ap (λ es. sight_entry s ∷ es) (sight_entries ss)

pub sight_lines : (ss : List Sight) → lines (map sight_item ss) ≡ []
sight_lines [] = refl
sight_lines (s ∷ ss) = sight_lines ss

item_entry : (e : Event) → entry_in (event_item e) ≡ Some (Did e)
item_entry e = by (line_of e)
  where
    by : (o : Option HistoryLine) → entry_in (option_map_or (told (Did e)) o (silent (Did e))) ≡ Some (Did e)
    by None = refl
    by (Some l) = refl

item_line : (e : Event) → line_in (event_item e) ≡ line_of e
item_line e = by (line_of e)
  where
    by : (o : Option HistoryLine) → line_in (option_map_or (told (Did e)) o (silent (Did e))) ≡ o
    by None = refl
    by (Some l) = refl

deed_is : (d : Deed) → entries (deed_items d) ≡ deed_entries d
deed_is d = ap (λ o. cons_option o (entries (map sight_item d.sights))) (item_entry d.event) ∙ ap (λ es. Did d.event ∷ es) (sight_entries d.sights)

deed_lines : (d : Deed) (ls : List HistoryLine) → lines (deed_items d) ++ ls ≡ cons_option (line_of d.event) ls
deed_lines d ls =
    ap (λ o. cons_option o (lines (map sight_item d.sights)) ++ ls) (item_line d.event)
    ∙ ap (λ zs. cons_option (line_of d.event) zs ++ ls) (sight_lines d.sights) ∙ by (line_of d.event)
  where
    by : (o : Option HistoryLine) → cons_option o [] ++ ls ≡ cons_option o ls
    by None = refl
    by (Some l) = refl

pub carried_entries : (ds : List Deed) → entries (flat_map deed_items ds) ≡ entries_of ds
carried_entries [] = refl
carried_entries (d ∷ ds) =
    ap entries (flat_map-cons deed_items d ds) ∙ entries_both (deed_items d) (flat_map deed_items ds)
    ∙ ap (λ es. es ++ entries (flat_map deed_items ds)) (deed_is d) ∙ ap (λ es. deed_entries d ++ es) (carried_entries ds)
    ∙ sym (flat_map-cons deed_entries d ds)

pub carried_lines : (ds : List Deed) → lines (flat_map deed_items ds) ≡ lines_of_events (events_of ds)
carried_lines [] = refl
carried_lines (d ∷ ds) =
    ap lines (flat_map-cons deed_items d ds) ∙ lines_both (deed_items d) (flat_map deed_items ds)
    ∙ deed_lines d (lines (flat_map deed_items ds)) ∙ ap (cons_option (line_of d.event)) (carried_lines ds)

pub close_lines : (ps : List ℕ) → lines (map close_item ps) ≡ map to.Close ps
close_lines [] = refl
close_lines (p ∷ ps) = ap (λ ls. to.Close p ∷ ls) (close_lines ps)

-- ---- all of a start is a change's

pub all_mapped : {A : Type 0} (test : Event → Bool) (f : A → Event) → ((x : A) → test (f x) ≡ true) → (xs : List A) → list_all test (map f xs) ≡ true
all_mapped test f h [] = refl
all_mapped test f h (x ∷ xs) = ap (λ b. b && list_all test (map f xs)) (h x) ∙ all_mapped test f h xs

links_of_change : (g : Graph) (ps : List (ℕ × Port)) → list_all is_of_change (filter_map (link_of g) ps) ≡ true
links_of_change g [] = refl
links_of_change g (q ∷ ps) = by (target_of g.links q.1.node q.1.require) (links_of_change g ps)
  where
    by : (o : Option Target) → list_all is_of_change (filter_map (link_of g) ps) ≡ true
        → list_all is_of_change (cons_option (option_map (λ (t : Target). Link q.0 t.node t.provide) o) (filter_map (link_of g) ps)) ≡ true
    by None rest = rest
    by (Some t) rest = rest

pub start_is_of_change : (g : Graph) → list_all is_of_change (start_of g) ≡ true
start_is_of_change g =
    let makes = map make_of (enumerate_from 0 g.nodes) in
    let links = filter_map (link_of g) (enumerate_from 0 (ports g.nodes)) in
    let opens = map reopen_of (enumerate_from 0 (ports g.nodes)) in
    list_all-append is_of_change (makes ++ links) opens
    ∙ ap (λ b. b && list_all is_of_change opens) (list_all-append is_of_change makes links
    ∙ ap (λ b. b && list_all is_of_change links) (all_mapped is_of_change make_of (λ x. refl) (enumerate_from 0 g.nodes))
    ∙ links_of_change g (enumerate_from 0 (ports g.nodes)))
    ∙ all_mapped is_of_change reopen_of (λ x. refl) (enumerate_from 0 (ports g.nodes))

pub entries_pushed : (scans : List ScanSeen) (w : ScanSeen) → all_entries (scans ++ w ∷ []) ≡ all_entries scans ++ seen_entries w
entries_pushed scans w = flat_map-append seen_entries scans (w ∷ []) ∙ ap (λ es. all_entries scans ++ es) (append-nil (seen_entries w))
