-- What a scan and a collection come to on a board.
use Rattle.std.proofs.Common.{◌≡◌, ◌∙◌, ◌<◌, Bool, true, false, List, [], ◌++◌, length, map, Result, Ok, Err, sym, ap, subst}
use Rattle.std.specs.Prelude.{All, IfOk, filter_map}
use Rattle.std.specs.List.{range_with_len}
use Rattle.std.proofs.lemmas.Bool.{and_parts, false≢true}
use Rattle.std.proofs.lemmas.List.Elements.{filter_map-append}
use Rattle.atomic_table.specs.Seated.{TableId}
use Rattle.change_board.specs.Collecting.{Collects, IsEndOf, first_undone}
use Rattle.change_board.specs.Scans.{AddsScan, Found, IsSeenTwice, all_ports, is_seen_at_rest, look_entry, scan_entries}
use Rattle.change_board.specs.Sights.{Sight, sight_entry}
use Rattle.change_board.specs.declared.board.Collected.{Collected}
use Rattle.change_board.specs.declared.board.Scan.{Scan}
use Rattle.component_trait.specs.States.{NodeState}
use Rattle.quiesce_core.specs.declared.event.Event.{Event}
use Rattle.state_handover.specs.declared.any_node.AnyNode.{AnyNode}
use Rattle.txn_records.specs.Entries.{config_of, event_in}
use Rattle.txn_records.specs.declared.entry.Entry.{Entry}
use Rattle.live_board.specs.Ended.{collected_logs}
use Rattle.live_board.specs.Boards.{BoardSeen, FitsNodes, StandsLive, taken_in}
use Rattle.live_board.specs.Collecting.{Gathers, all_logs}
use Rattle.live_board.specs.Lengths.{IsLast, is_as_last, length_in}
use Rattle.live_board.specs.Scanning.{IsScan}
use Rattle.live_board.specs.Turning.{Ways}
use Rattle.live_board.proofs.BoardLaws.{adds_no_entry, adds_seen, here, last_here}
use Rattle.live_board.proofs.QuietLaws.{quiet_looks, quiet_sights}
use Rattle.live_board.proofs.TakenLemmas.{taken_all}

quiet_scan : (b m : Bool) (ss : List Sight) (fs : List Found) → filter_map event_in (scan_entries b m ss fs) ≡ []
quiet_scan b m ss fs = filter_map-append event_in (map sight_entry ss) (map look_entry fs) ∙ ap (λ (xs : List Event). xs ++ filter_map event_in (map look_entry fs)) (quiet_sights ss) ∙ quiet_looks fs

false_true : {A : Type 0} → false ≡ true → A
false_true is = absurd (false≢true is)

module _ (v old : BoardSeen) (view : v ≡ old) (new : BoardSeen) (sources : new.room.sources ≡ v.room.sources) (lines : new.lines ≡ v.lines) (heirs : new.heirs ≡ v.heirs) where
  pub adds_scan : (S : AnyNode → NodeState) (gates : TableId) (before after : Ways) (begins : Bool) (s : Scan) → IsScan S gates v.entries new.entries before after v.last new.last begins s → AddsScan StandsLive false old new begins s
  adds_scan S gates before after begins s i = record {
    sights = i.sights;
    found = i.found;
    adds = adds_seen v old view new sources lines heirs (scan_entries begins s.moved i.sights i.found) (quiet_scan begins s.moved i.sights i.found) i.known i.adds (λ r h. i.last_is);
    at_ports = λ r h. i.at_ports ∙ ap (λ q. all_ports (config_of q)) (sym (here v old view new r h));
    all_sighted = λ on r h. false_true on;
    done = λ on r h. false_true on;
    at_rest = λ r h on. subst (λ q. is_seen_at_rest (config_of q) i.sights i.found ≡ true) (sym (here v old view new r h)) (and_parts (is_seen_at_rest (config_of v.entries) i.sights i.found) (is_as_last (config_of v.entries) v.last (length_in i.sights)) (sym i.done ∙ on)).0;
    twice = λ off r h on. subst (λ q. IsSeenTwice q i.sights) (sym (here v old view new r h)) (i.twice (subst (λ q. IsLast q v.last) (here v old view new r h) (last_here v old view new r h)) on);
    ended = i.ended;
  }

  adds_collected : new.entries ≡ v.entries → new.last ≡ v.last → (x : Collected) → Gathers (config_of v.entries) new.nodes x → Collects StandsLive old new (taken_in new) x
  adds_collected is last x gathered = record {
    sights = [];
    adds = adds_no_entry v old view new is last fits;
    events = gathered.events ∙ sym all;
    slots = λ r h. gathered.slots ∙ ap (λ (q : List Entry). range_with_len 0 (length (config_of q).slots)) (sym (here v old view new r h));
    ends = λ r h.
        subst (λ t. All (IsEndOf (config_of r) t) x.logs) (sym all)
        (subst (λ (q : List Entry). All (IsEndOf (config_of q) (all_logs (config_of v.entries) new.nodes)) x.logs) (sym (here v old view new r h)) gathered.ends);
    undone = λ r h.
        gathered.undone ∙ ap (λ (q : List Entry). first_undone (config_of q) (all_logs (config_of v.entries) new.nodes)) (sym (here v old view new r h)) ∙ ap (first_undone (config_of r)) (sym all);
  }
    where
      all : taken_in new ≡ all_logs (config_of v.entries) new.nodes
      all =
          taken_all new (λ n few. gathered.all n (subst (λ (q : List Entry). n < length (config_of q).slots) is few)) ∙ ap (λ (q : List Entry). collected_logs q new.nodes) is

      fits : FitsNodes (config_of v.entries) v.room.sources v.lines v.heirs → FitsNodes (config_of v.entries) new.room.sources new.lines new.heirs
      fits f =
          subst (λ i. FitsNodes (config_of v.entries) i new.lines new.heirs) (sym sources)
          (subst (λ i. FitsNodes (config_of v.entries) v.room.sources i new.heirs) (sym lines) (subst (λ hs. FitsNodes (config_of v.entries) v.room.sources v.lines hs) (sym heirs) f))

  pub adds_where_ok : {E : Type 0} → new.entries ≡ v.entries → new.last ≡ v.last → (x : Result Collected E) → IfOk x (Gathers (config_of v.entries) new.nodes) → IfOk x (Collects StandsLive old new (taken_in new))
  adds_where_ok is last (Ok x) gathered = adds_collected is last x gathered
  adds_where_ok is last (Err e) gathered = tt
