-- A start on a board, its room, and what stands after it.
use Rattle.std.proofs.Common.{◌≡◌, ℕ, ◌+◌, ◌≤◌, true, cond, List, [], ◌∷◌, ◌++◌, append_assoc, length, map, Option, Some, None, refl, sym, ap, ◌∙◌, subst, arith}
use Rattle.std.specs.Prelude.{ℤ, filter, filter_map, flat_map, option_map}
use Rattle.std.specs.List.{cons_option, enumerate_from, list_all}
use Rattle.std.proofs.lemmas.Bool.{and_parts}
use Rattle.std.proofs.lemmas.List.{append-nil}
use Rattle.std.proofs.lemmas.List.Concat.{flat_map-cons}
use Rattle.std.proofs.lemmas.List.Elements.{filter_map-append}
use Rattle.report_types.specs.declared.report.HistoryLine.{HistoryLine}
use Rattle.report_types.specs.declared.report.HistoryLine.TheVariants as to
use Rattle.quiesce_laws.specs.Steps.{change_all}
use Rattle.quiesce_laws.proofs.MeanwhileLaws.{now_is}
use Rattle.config_graph.specs.Graph.{Graph, IsGraph, ports, target_of}
use Rattle.config_graph.specs.Sound.{Sound}
use Rattle.config_graph.specs.declared.TheConstants.{MAX_NODES, MAX_PORTS}
use Rattle.config_graph.specs.declared.node.Node.{Node}
use Rattle.config_graph.specs.declared.node.Port.{Port}
use Rattle.config_graph.specs.declared.node.Target.{Target}
use Rattle.quiesce_core.specs.Doers.{is_of_change}
use Rattle.quiesce_core.specs.Live.{IsGraphOf}
use Rattle.quiesce_core.specs.Runs.{state_after}
use Rattle.quiesce_core.specs.Start.{started}
use Rattle.quiesce_core.specs.State.{State, empty}
use Rattle.quiesce_core.specs.declared.event.Event.{Event}
use Rattle.quiesce_core.specs.declared.event.Event.TheVariants.{Link}
use Rattle.quiesce_core.proofs.GraphLaws.{graph_started}
use Rattle.quiesce_laws.specs.Starts.{link_of, make_of, reopen_of, start_of}
use Rattle.txn_records.specs.Entries.{config_of, event_in, events_in}
use Rattle.txn_records.specs.Records.{Adds}
use Rattle.change_board.specs.Sights.{Sight, sight_entry}
use Rattle.change_board.specs.Steps.{HasRoomForAll, Deed, Room, deed_entries, entries_of, less_one, events_of}
use Rattle.change_board.specs.Transcripts.{entries, lines, said}
use Rattle.change_engine.specs.Beginning.{StartsSystem, start_items}
use Rattle.change_engine.specs.Calls.{HasStarted}
use Rattle.change_engine.specs.Carrying.{CarriesOut, deed_items}
use Rattle.change_lists.specs.Layouts.{IsLayoutOf}
use Rattle.change_engine.specs.declared.engine.Engine.{Engine}
use Rattle.change_board.specs.declared.board.Board.{Ghosts as BoardWords}
use Rattle.change_engine.specs.Growing.{telling}
use Rattle.change_engine.proofs.ItemLaws.{entries_both, carried_entries, start_is_of_change}

-- the events of deeds are those that were done
deed_events : (d : Deed) → events_in (deed_entries d) ≡ d.event ∷ []
deed_events d = ap (λ es. d.event ∷ es) (sights d.sights)
  where
    sights : (ss : List Sight) → events_in (map sight_entry ss) ≡ []
    sights [] = refl
    sights (s ∷ ss) = sights ss

pub deeds_events : (ds : List Deed) → events_in (entries_of ds) ≡ events_of ds
deeds_events [] = refl
deeds_events (d ∷ ds) =
    ap events_in (flat_map-cons deed_entries d ds) ∙ filter_map-append event_in (deed_entries d) (entries_of ds)
    ∙ ap (λ es. es ++ events_in (entries_of ds)) (deed_events d) ∙ ap (λ es. d.event ∷ es) (deeds_events ds)

-- there is room for each node that a start makes
module _ (rest : List Event) (fits : (room : Room) → HasRoomForAll room rest) where
  makes_fit : (k : ℕ) (ms : List Node) (room : Room) → length ms ≤ room.nodes → HasRoomForAll room (map make_of (enumerate_from k ms) ++ rest)
  makes_fit k [] room few = fits room
  makes_fit k (m ∷ ms) room few = (record { node = omega (arith, few); source = refl }, makes_fit (k + 1) ms (less_one room) (omega (arith, few)))

links_fit : (g : Graph) (rest : List Event) → ((room : Room) → HasRoomForAll room rest) → (ps : List (ℕ × Port)) (room : Room) → HasRoomForAll room (filter_map (link_of g) ps ++ rest)
links_fit g rest fits [] room = fits room
links_fit g rest fits (p ∷ ps) room = by (target_of g.links p.1.node p.1.require) (links_fit g rest fits ps room)
  where
    by : (o : Option Target) → HasRoomForAll room (filter_map (link_of g) ps ++ rest)
        → HasRoomForAll room (cons_option (option_map (λ (t : Target). Link p.0 t.node t.provide) o) (filter_map (link_of g) ps) ++ rest)
    by None h = h
    by (Some t) h = (tt, h)

opens_fit : (ps : List (ℕ × Port)) (room : Room) → HasRoomForAll room (map reopen_of ps)
opens_fit [] room = tt
opens_fit (p ∷ ps) room = (tt, opens_fit ps room)

pub start_fits : (g : Graph) (room : Room) → length g.nodes ≤ room.nodes → HasRoomForAll room (start_of g)
start_fits g room few =
    let makes = map make_of (enumerate_from 0 g.nodes) in
    let links = filter_map (link_of g) (enumerate_from 0 (ports g.nodes)) in
    let opens = map reopen_of (enumerate_from 0 (ports g.nodes)) in
    subst (HasRoomForAll room) (sym (append_assoc makes links opens))
    (makes_fit (links ++ opens) (links_fit g opens (opens_fit (enumerate_from 0 (ports g.nodes))) (enumerate_from 0 (ports g.nodes))) 0 g.nodes room few)

-- the configuration that a start's events make is that of the started system
all_kept : (es : List Event) → list_all is_of_change es ≡ true → filter is_of_change es ≡ es
all_kept [] h = refl
all_kept (e ∷ es) h =
    let parts = and_parts (is_of_change e) (list_all is_of_change es) h in
    ap (λ b. cond b (e ∷ filter is_of_change es) (filter is_of_change es)) parts.0 ∙ ap (λ zs. e ∷ zs) (all_kept es parts.1)

pub start_config : (g : Graph) → state_after (start_of g) ≡ started g → change_all empty.config (start_of g) ≡ (started g).config
start_config g is =
    ap (change_all empty.config) (sym (all_kept (start_of g) (start_is_of_change g))) ∙ sym (now_is [] (start_of g)) ∙ ap (λ (s : State). s.config) is

pub began : {B : Type 0} (W : BoardWords B) (a mid b : B) (before history : List HistoryLine) (name : List ℕ) (args : List ℤ) (es : List Event) (g : Graph)
    → Adds W.stands_for a mid [] → before ≡ [] → es ≡ start_of g → CarriesOut W (telling mid before) (telling b history) (to.Start name args ∷ []) es (to.Commit ∷ []) → StartsSystem W a (telling b history) name args g
began W a mid b before history name args es g kept none_ are x = record {
  deeds = x.deeds;
  events_are = x.events_are ∙ are;
  grew = record {
    adds = λ r s. x.grew.adds r (subst (W.stands_for mid) (append-nil r) (kept r s));
    adds_lines = x.grew.adds_lines ∙ ap (λ ls. ls ++ lines (start_items name args x.deeds)) none_;
  };
}

pub start_entries : (name : List ℕ) (args : List ℤ) (deeds : List Deed) → entries (start_items name args deeds) ≡ entries_of deeds
start_entries name args deeds = entries_both (flat_map deed_items deeds) (said to.Commit ∷ []) ∙ append-nil (entries (flat_map deed_items deeds)) ∙ carried_entries deeds

pub has_started : {B : Type 0} (W : BoardWords B) (a : B) (e : Engine B) (name : List ℕ) (args : List ℤ) (g : Graph) → W.stands_for a [] → IsGraph g → Sound g
    → length g.nodes ≤ MAX_NODES → length (ports g.nodes) ≤ MAX_PORTS → state_after (start_of g) ≡ started g
    → StartsSystem W a (telling e.board e.history.items) name args g → IsLayoutOf e.layout (started g).config g → e.graph ≡ g → e.change ≡ None → HasStarted W e name args g
has_started W a e name args g nothing is_graph sound nodes few is x layout graph change =
    let t = start_items name args x.deeds in
    let made : config_of (entries t) ≡ (started g).config =
    ap config_of (start_entries name args x.deeds) ∙ ap (change_all empty.config) (deeds_events x.deeds ∙ x.events_are) ∙ start_config g is in
    record {
      deeds = x.deeds;
      events_are = x.events_are;
      idle = record {
        tells = record {
          board = x.grew.adds [] nothing;
          history = x.grew.adds_lines;
          graph = subst (λ h. IsGraphOf (config_of (entries t)) h) (sym graph) (subst (λ c. IsGraphOf c g) (sym made) (graph_started g sound nodes few));
          is_graph = subst IsGraph (sym graph) is_graph;
          sound = subst Sound (sym graph) sound;
          layout = subst (λ h. IsLayoutOf e.layout (config_of (entries t)) h) (sym graph) (subst (λ c. IsLayoutOf e.layout c g) (sym made) layout);
        };
        none_open = change;
      };
      graph_is = graph;
    }
