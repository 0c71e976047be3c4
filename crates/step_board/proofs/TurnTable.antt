-- A node's turn in a table.
use Rattle.std.proofs.Common.{◌≡◌, ◌∙◌, ℕ, Bool, true, List, map, set, Option, Some, None, Result, Ok, Err, OnOk, OnErr, refl, ap, sym, subst, append-nil}
use Rattle.std.specs.Prelude.{slice_get}
use Rattle.std.proofs.lemmas.List.{set-get_or}
use Rattle.std.proofs.lemmas.Option.{get_or_from_slice_get, same_Some}
use Rattle.base.proofs.PlaceLaws.{slice_get-map_at}
use Rattle.base.proofs.MapLaws.{map_set}
use Rattle.component_trait.specs.States.{NodeState}
use Rattle.quiesce_core.specs.State.{State, is_live}
use Rattle.quiesce_core.specs.WellFormed.{IsWellFormed}
use Rattle.quiesce_core.proofs.RunLaws.{runs_are_well_formed}
use Rattle.node_gate.specs.Core.{FitsCore, node_at}
use Rattle.node_gate.specs.Loads.{Loads}
use Rattle.port_queue.specs.Inboxes.{Counts}
use Rattle.state_handover.specs.declared.any_node.AnyNode.{AnyNode}
use Rattle.node_turn_laws.specs.Turn.{looks, move_of, turn}
use Rattle.node_turn_laws.specs.World.{World}
use Rattle.node_host.specs.Hosted.{SeatSeen, node_of}
use Rattle.node_host.specs.Moved.{Moved}
use Rattle.node_host.specs.Posting.{IsHinted}
use Rattle.node_host.specs.Told.{FitsToldState}
use Rattle.node_host.specs.Trying.{own_box}
use Rattle.node_host.specs.Turning.{event_of}
use Rattle.node_host.specs.declared.turning.Turn.{Turn}
use Rattle.step_board.specs.Entries.{NodeSeen, here}
use Rattle.step_board.specs.Seen.{seen}
use Rattle.step_board.specs.Worlds.{ShowsIn}
use Rattle.step_board.specs.declared.held.Held.{Held}
use Rattle.step_board.proofs.NodeTableLemmas.{fits_in, here_in, node_in_}
use Rattle.step_board.proofs.NodeTurnLemmas.{gate_of, turn_shows}

-- the node in slot n, and its seat, before its turn and after
module _ {E : Type 0} (S : AnyNode → NodeState) (s t : State) (xs : List Held) (ends : List ℕ) (tells tells' : ℕ → Option (List ℕ)) (n : ℕ) (begins : Bool) (old new : Held) (x x' : NodeSeen) (at : slice_get xs n ≡ Some old)
    (old_is : seen S old ≡ here x) (new_is : seen S new ≡ here x') (live : is_live s.config n ≡ true) (c c' : ℕ → Counts) (lo lo' : Option Loads) (r : Result Turn E) (seat seat' : SeatSeen) (known_is : seat.known ≡ x.known) (known_is' : seat'.known ≡ x'.known)
    (moved : Moved (node_of x.slot x.first x.state) (event_of r) x.state x'.state x.log x'.log seat seat' (Some s) (Some t)) (slot_kept : x'.slot ≡ x.slot) (first_kept : x'.first ≡ x.first) (past_kept : x'.past ≡ x.past) where
  at_entry : slice_get (map (seen S) xs) n ≡ Some (here x)
  at_entry = slice_get-map_at (seen S) xs n old at ∙ ap Some old_is

  then_is : map (seen S) (set xs n new) ≡ set (map (seen S) xs) n (here x')
  then_is = map_set (seen S) xs n new ∙ ap (set (map (seen S) xs) n) new_is

  module _ (k : ℕ) (of_slot : k ≡ x.slot) (fits : FitsCore t k x'.known) (told : x'.known.service ≡ None → x'.state.service ≡ None) where
    both : (exact : (u : State) (held : List ℕ) → FitsToldState (Some s) (node_of x.slot x.first x.state) seat.known u → tells x.slot ≡ Some held → event_of r ≡ move_of u x.slot x.state (own_box x.slot x.first x.waiting held) begins)
        → IsHinted (gate_of s lo lo') (node_of x.slot x.first x.state) seat.known (λ u. looks u x.slot x.state) (event_of r) (record { waiting = x.waiting; counts = c; told = tells }) (record { waiting = x'.waiting; counts = c'; told = tells' })
        → (w : World) → ShowsIn s (map (seen S) xs) ends tells w → ShowsIn t (map (seen S) (set xs n new)) ends tells' (turn w n begins).world × (event_of r ≡ (turn w n begins).event)
    both exact hinted w h =
        let there = here_in S s xs ends tells w h n old x at old_is in
        let place : x.slot ≡ n = there.place in
        let fits_old : FitsCore s x.slot seat.known = subst (λ i. FitsCore s i seat.known) (sym place) (subst (λ y. FitsCore s n y) (sym known_is) (fits_in S s xs ends tells w h n x there live)) in
        let is_told : FitsToldState (Some s) (node_of x.slot x.first x.state) seat.known s =
        record {
          told = refl;
          formed = subst (λ (u : State). IsWellFormed u) (sym h.holds.state) (runs_are_well_formed w.events h.holds.runs);
          fits = fits_old;
          node = subst (λ i. node_at s.config i ≡ node_of i x.first x.state) (sym place) (node_in_ S s xs ends tells w h n x there);
        } in
        let all =
        turn_shows s t (map (seen S) xs) ends tells tells' w h x x' (subst (λ i. slice_get (map (seen S) xs) i ≡ Some (here x)) (sym place) at_entry) (subst (λ i. is_live s.config i ≡ true) (sym place) live) begins c c' lo lo'
        (event_of r) seat seat' known_is known_is' moved slot_kept first_kept past_kept (subst (λ i. FitsCore t i x'.known) of_slot fits) told is_told (λ held tell. exact s held is_told tell) hinted in (
          subst (λ l. ShowsIn t l ends tells' (turn w n begins).world) (sym then_is) (subst (λ i. ShowsIn t (set (map (seen S) xs) i (here x')) ends tells' (turn w i begins).world) place all.0),
          sym (subst (λ i. (turn w i begins).event ≡ event_of r) place all.1),
        )

    pub shows_ok : ((u : State) (held : List ℕ) → FitsToldState (Some s) (node_of x.slot x.first x.state) seat.known u → tells x.slot ≡ Some held → OnOk r (event_of r ≡ move_of u x.slot x.state (own_box x.slot x.first x.waiting held) begins))
        → OnOk r (IsHinted (gate_of s lo lo') (node_of x.slot x.first x.state) seat.known (λ u. looks u x.slot x.state) (event_of r) (record { waiting = x.waiting; counts = c; told = tells }) (record { waiting = x'.waiting; counts = c'; told = tells' }))
        → OnOk r ((w : World) → ShowsIn s (map (seen S) xs) ends tells w → ShowsIn t (map (seen S) (set xs n new)) ends tells' (turn w n begins).world × (event_of r ≡ (turn w n begins).event))
    shows_ok exact hinted =
        by r refl
      where
        by : (q : Result Turn E) → r ≡ q → OnOk q ((w : World) → ShowsIn s (map (seen S) xs) ends tells w → ShowsIn t (map (seen S) (set xs n new)) ends tells' (turn w n begins).world × (event_of r ≡ (turn w n begins).event))
        by (Err e) is = tt
        by (Ok v) is =
            both
            (λ u held told_ tell. subst (λ q. OnOk q (event_of r ≡ move_of u x.slot x.state (own_box x.slot x.first x.waiting held) begins)) is (exact u held told_ tell))
            (subst (λ q. OnOk q (IsHinted (gate_of s lo lo') (node_of x.slot x.first x.state) seat.known (λ u. looks u x.slot x.state) (event_of r) (record { waiting = x.waiting; counts = c; told = tells }) (record { waiting = x'.waiting; counts = c'; told = tells' }))) is hinted)

  -- after want of memory
  pub shows_err : OnErr r ((x'.waiting ≡ x.waiting) × (x'.known ≡ x.known) × (t ≡ s) × (tells' ≡ tells))
      → OnErr r ((w : World) → ShowsIn s (map (seen S) xs) ends tells w → ShowsIn t (map (seen S) (set xs n new)) ends tells' w)
  shows_err kept =
      by r refl
    where
      same_all : event_of r ≡ None → x'.waiting ≡ x.waiting → x'.known ≡ x.known → x' ≡ x
      same_all none_ waiting known =
          let m : Moved (node_of x.slot x.first x.state) None x.state x'.state x.log x'.log seat seat' (Some s) (Some t) = subst (λ o. Moved (node_of x.slot x.first x.state) o x.state x'.state x.log x'.log seat seat' (Some s) (Some t)) none_ moved in
          ap (λ a. record { slot = a; first = x'.first; state = x'.state; known = x'.known; log = x'.log; past = x'.past; waiting = x'.waiting }) slot_kept
          ∙ ap (λ a. record { slot = x.slot; first = a; state = x'.state; known = x'.known; log = x'.log; past = x'.past; waiting = x'.waiting }) first_kept
          ∙ ap (λ a. record { slot = x.slot; first = x.first; state = a; known = x'.known; log = x'.log; past = x'.past; waiting = x'.waiting }) (sym (same_Some x.state x'.state m.folds))
          ∙ ap (λ a. record { slot = x.slot; first = x.first; state = x.state; known = a; log = x'.log; past = x'.past; waiting = x'.waiting }) known
          ∙ ap (λ a. record { slot = x.slot; first = x.first; state = x.state; known = x.known; log = a; past = x'.past; waiting = x'.waiting }) (m.logged ∙ append-nil x.log)
          ∙ ap (λ a. record { slot = x.slot; first = x.first; state = x.state; known = x.known; log = x.log; past = a; waiting = x'.waiting }) past_kept
          ∙ ap (λ a. record { slot = x.slot; first = x.first; state = x.state; known = x.known; log = x.log; past = x.past; waiting = a }) waiting

      same_entries : x' ≡ x → map (seen S) (set xs n new) ≡ map (seen S) xs
      same_entries is =
          then_is ∙ ap (λ y. set (map (seen S) xs) n (here y)) is
          ∙ ap (set (map (seen S) xs) n) (sym (get_or_from_slice_get (map (seen S) xs) n (here x) (here x) at_entry))
          ∙ set-get_or (map (seen S) xs) n (here x)

      by : (q : Result Turn E) → r ≡ q → OnErr q ((w : World) → ShowsIn s (map (seen S) xs) ends tells w → ShowsIn t (map (seen S) (set xs n new)) ends tells' w)
      by (Ok v) is = tt
      by (Err e) is =
          let k = subst (λ q. OnErr q ((x'.waiting ≡ x.waiting) × (x'.known ≡ x.known) × (t ≡ s) × (tells' ≡ tells))) is kept in
          let none_ : event_of r ≡ None = ap event_of is in
          λ w h.
          subst (λ l. ShowsIn t l ends tells' w) (sym (same_entries (same_all none_ k.0 k.1)))
          (subst (λ u. ShowsIn u (map (seen S) xs) ends tells' w) (sym k.2) (subst (λ f. ShowsIn s (map (seen S) xs) ends f w) (sym k.3) h))
