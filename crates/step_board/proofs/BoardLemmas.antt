-- What a scan and the taking in of logs come to on a board.
use Rattle.std.proofs.Common.{◌≡◌, ◌∙◌, ◌<◌, ℕ, Bool, List, [], ◌∷◌, ◌++◌, Option, Some, Result, Ok, Err, map, length, refl, sym, ap, subst, arith}
use Rattle.std.specs.Prelude.{◌&&◌, All, IfOk, OnErr, find, is_none, not, slice_get, slice_index_or}
use Rattle.std.specs.List.{list_all, range_with_len}
use Rattle.std.proofs.Math.Logic.{∥∥₁_map}
use Rattle.std.proofs.lemmas.List.Elements.{All-weaker}
use Rattle.std.proofs.lemmas.List.FromFn.{length-map-range_with_len}
use Rattle.std.proofs.lemmas.Option.{slice_get-get_or}
use Rattle.change_board.specs.Collecting.{IsEndOf, first_undone, heir_of}
use Rattle.txn_records.specs.Entries.{config_of}
use Rattle.txn_records.specs.declared.entry.Entry.{Entry}
use Rattle.txn_records.specs.Records.{Adds}
use Rattle.change_board.specs.Scans.{SightsAll, all_ports, is_idle_if_live, is_seen_at_rest, live_nodes, look_entry, ports_of, scan_entries}
use Rattle.change_board.specs.Sights.{Sight, is_seen_done, seen_in, sight_entry}
use Rattle.change_spec.specs.Lawful.{EndsAs}
use Rattle.change_spec.specs.Opening.{fold_of_node}
use Rattle.report_types.specs.declared.report.NodeLog.{NodeLog}
use Rattle.quiesce_core.specs.Runs.{done_by}
use Rattle.quiesce_core.specs.State.{State}
use Rattle.quiesce_core.specs.declared.event.Event.{Event}
use Rattle.node_turn_laws.specs.Reached.{IsReached}
use Rattle.node_turn_laws.specs.Round.{is_done, round}
use Rattle.node_turn_laws.specs.World.{World, state_of}
use Rattle.step_board.specs.Agreeing.{config_at}
use Rattle.step_board.specs.Going.{BrokeOff, GaveTurns, ShowsSome}
use Rattle.step_board.specs.Playing.{played}
use Rattle.step_board.specs.RunFacts.{config_here, round_goes_on, rounds_play}
use Rattle.step_board.specs.Seeing.{first_undone_in, found_all, sight_of, sights_of}
use Rattle.step_board.specs.Standing.{AreLogs, StandsFor}
use Rattle.step_board.proofs.SeeingLaws.{all_agree, find_agree, log_there, looks_at_all, looks_seen, seen_done, seen_state, sighted_at, sights_seen}
use Rattle.step_board.proofs.StandingLemmas.{AreSeen, scan_adds, seen_both}
use Rattle.base.proofs.FindLaws.{none_left}

slots_sighted : (logs : List (List Event)) (ns : List ℕ) → map (λ (x : Sight). x.slot) (map (sight_of logs) ns) ≡ ns
slots_sighted logs [] = refl
slots_sighted logs (n ∷ ns) = ap (λ ks. n ∷ ks) (slots_sighted logs ns)

module _ {B : Type 0} (S : B → World → Type 0) where
  pub some_after : {E : Type 0} (a b : B) (begins : Bool) (r : Result Bool E) → IfOk r (λ moved. GaveTurns S a b begins moved) → OnErr r (BrokeOff S a b) → ShowsSome S a → ShowsSome S b
  some_after a b begins (Ok moved) gave broke some = ∥∥₁_map some (λ h. ((round begins h.0).world, (gave h.0 h.1).shows))
  some_after a b begins (Err e) gave broke some = ∥∥₁_map some (λ h. let w = broke h.0 h.1 in (w.world, w.shows))

  module _ (machine : B → State) (machine_is : (b : B) (w : World) → S b w → w.machine ≡ machine b) (are_reached : (b : B) (w : World) → S b w → IsReached w)
      (folds : (w : World) → IsReached w → (n : ℕ) → state_of w n ≡ fold_of_node w.events n) (logs : B → List (List Event))
      (logs_are : (b : B) (w : World) → S b w → logs b ≡ map (λ n. done_by n w.events) (range_with_len 0 (length w.machine.config.slots))) where
    -- ---- scans

    seen_there : (b : B) (w : World) → S b w → AreSeen w (map sight_entry (sights_of (logs b)) ++ map look_entry (found_all (machine b)))
    seen_there b w s =
        seen_both w (map sight_entry (sights_of (logs b))) (map look_entry (found_all (machine b))) (sights_seen w (logs b) (logs_are b w s))
        (looks_seen w (machine b) (all_ports (machine b).config) (machine_is b w s))

    pub scan_entries_added : (a b : B) (begins moved : Bool) → GaveTurns S a b begins moved → Adds (StandsFor S) a b (scan_entries begins moved (sights_of (logs b)) (found_all (machine b)))
    scan_entries_added a b begins moved gave =
        scan_adds S machine machine_is a b begins moved (map sight_entry (sights_of (logs b)) ++ map look_entry (found_all (machine b))) gave (seen_there b)

    config_behind : (a b : B) (begins moved : Bool) → GaveTurns S a b begins moved → (r : List Entry) → StandsFor S a r → config_of r ≡ (machine b).config
    config_behind a b begins moved gave r h =
        let w = played r in
        let p = rounds_play r h.rounds in
        config_here r w p ∙ sym (round_goes_on w begins p.reached).config ∙ ap (λ (s : State). s.config) (machine_is b (round begins w).world (gave w h.shows).shows)

    pub looked_at_all : (a b : B) (begins moved : Bool) → GaveTurns S a b begins moved → (r : List Entry) → StandsFor S a r → ports_of (found_all (machine b)) ≡ all_ports (config_of r)
    looked_at_all a b begins moved gave r h =
        looks_at_all (machine b) (all_ports (machine b).config) ∙ ap all_ports (sym (config_behind a b begins moved gave r h))

    log_length : (b : B) (w : World) → S b w → length (logs b) ≡ length w.machine.config.slots
    log_length b w s = ap length (logs_are b w s) ∙ length-map-range_with_len (λ n. done_by n w.events) 0 (length w.machine.config.slots)

    pub sighted_all : (a b : B) (begins moved : Bool) → GaveTurns S a b begins moved → (r : List Entry) → StandsFor S a r → SightsAll (config_of r) (sights_of (logs b))
    sighted_all a b begins moved gave r h =
        let v = (round begins (played r)).world in
        let s = (gave (played r) h.shows).shows in
        slots_sighted (logs b) (range_with_len 0 (length (logs b)))
        ∙ ap (range_with_len 0) (log_length b v s ∙ ap (λ (t : State). length t.config.slots) (machine_is b v s) ∙ ap (λ c. length c.slots) (sym (config_behind a b begins moved gave r h)))

    log_at_slot : (b : B) (w : World) → S b w → (k : ℕ) → k < length w.machine.config.slots → slice_index_or (logs b) k [] ≡ done_by k w.events
    log_at_slot b w s k below = log_there w (logs b) (logs_are b w s) k (omega (arith, below, log_length b w s))

    -- the log of each node made is there, and has all that it did
    log_is : (b : B) (w : World) → S b w → (k : ℕ) → k < length w.machine.config.slots → slice_get (logs b) k ≡ Some (done_by k w.events)
    log_is b w s k below =
        slice_get-get_or (logs b) k [] (omega (arith, below, log_length b w s)) ∙ ap (λ es. Some es) (log_at_slot b w s k below)

    sight_is : (b : B) (w : World) → S b w → (k : ℕ) → k < length w.machine.config.slots → seen_in (sights_of (logs b)) k ≡ Some (done_by k w.events)
    sight_is b w s k below =
        sighted_at (logs b) k (omega (arith, below, log_length b w s)) ∙ ap (λ es. Some es) (log_at_slot b w s k below)

    pub seen_at_rest : (a b : B) (begins moved idle rests : Bool) → GaveTurns S a b begins moved
        → ((w : World) → S b w → rests ≡ (is_none (first_undone_in w) && idle)) → idle ≡ list_all (is_idle_if_live (machine b).config) (found_all (machine b))
        → (r : List Entry) → StandsFor S a r → rests ≡ is_seen_at_rest (config_of r) (sights_of (logs b)) (found_all (machine b))
    seen_at_rest a b begins moved idle rests gave rests_is idle_is r h =
        let v = (round begins (played r)).world in
        let s = (gave (played r) h.shows).shows in
        let same = config_behind a b begins moved gave r h in
        let here = sym (ap (λ (t : State). t.config) (machine_is b v s)) in
        let c = config_of r in
        let found = found_all (machine b) in
        let done : is_none (first_undone_in v) ≡ list_all (is_seen_done c (seen_in (sights_of (logs b)))) (live_nodes c) =
        sym (none_left (is_done v) (live_nodes v.machine.config))
        ∙ ap (λ d. list_all (is_done v) (live_nodes d)) (sym (same ∙ here))
        ∙ sym (all_agree (is_seen_done c (seen_in (sights_of (logs b)))) (is_done v) (live_nodes c)
        (seen_done v (are_reached b v s) (folds v (are_reached b v s)) c (same ∙ here) (seen_in (sights_of (logs b))) (sight_is b v s))) in
        rests_is v s ∙ ap (λ x. x && idle) done ∙ ap (λ x. list_all (is_seen_done c (seen_in (sights_of (logs b)))) (live_nodes c) && x)
        (idle_is ∙ ap (λ d. list_all (is_idle_if_live d) found) (sym same))

    -- ---- logs

    pub ends_so : (b : B) (given : List NodeLog) → AreLogs S b (machine b) (logs b) given → (r : List Entry) → StandsFor S b r → All (IsEndOf (config_of r) (logs b)) given
    ends_so b given h r stands =
        let w = played r in
        let s = stands.shows in
        let same = config_at S machine machine_is b r stands in
        let here = same ∙ sym (ap (λ (t : State). t.config) (machine_is b w s)) in
        All-weaker (λ (l : NodeLog). EndsAs (state_of w l.slot) (heir_of (machine b).config l.slot) l.last) (IsEndOf (config_of r) (logs b))
        (λ l ends. subst (λ o. EndsAs o (heir_of (config_of r) l.slot) l.last) (sym (seen_state w (are_reached b w s) (folds w (are_reached b w s)) (config_of r) here (slice_get (logs b)) (log_is b w s) l.slot))
        (subst (λ c. EndsAs (state_of w l.slot) (heir_of c l.slot) l.last) (sym same) ends))
        given (h.ends w s)

    pub undone_so : (b : B) (first : Option ℕ) → ((w : World) → S b w → first ≡ first_undone_in w) → (r : List Entry) → StandsFor S b r → first ≡ first_undone (config_of r) (logs b)
    undone_so b first undone_is r stands =
        let w = played r in
        let s = stands.shows in
        let c = config_of r in
        let here = config_at S machine machine_is b r stands ∙ sym (ap (λ (t : State). t.config) (machine_is b w s)) in
        undone_is w s ∙ ap (λ d. find (λ n. not (is_done w n)) (live_nodes d)) (sym here)
        ∙ sym (find_agree (λ n. not (is_seen_done c (slice_get (logs b)) n)) (λ n. not (is_done w n)) (live_nodes c)
        (λ n. ap not (seen_done w (are_reached b w s) (folds w (are_reached b w s)) c here (slice_get (logs b)) (log_is b w s) n)))
