-- A round that moves nothing leaves all as it is, so each round behind it is as it.
use Rattle.std.proofs.Common.{◌≡◌, ◌∙◌, ℕ, zero, suc, Bool, true, false, cond, List, [], ◌∷◌, length, Option, Some, None, refl, sym, ap}
use Rattle.std.specs.Prelude.{◌||◌, fold, is_some}
use Rattle.std.specs.List.{Contains, range_with_len}
use Rattle.std.specs.Option.{option_map_or}
use Rattle.std.proofs.lemmas.Bool.{both_ways}
use Rattle.base.proofs.ContainsLaws.{Contains-from_filter, Contains-here, Contains-there}
use Rattle.base.proofs.OptionLaws.{map_or_true}
use Rattle.component_trait.specs.States.{NodeState}
use Rattle.quiesce_core.specs.State.{is_live, slot}
use Rattle.quiesce_core.specs.declared.event.Event.{Event}
use Rattle.quiesce_core.specs.declared.state.Slot.{Slot}
use Rattle.node_turn_laws.specs.Reached.{IsReached}
use Rattle.node_turn_laws.specs.Round.{Round, after_rounds, give_turn, live_nodes, round}
use Rattle.node_turn_laws.specs.Turn.{Turn, do_event, looks, turn, turn_in, without_hint}
use Rattle.node_turn_laws.specs.World.{World, state_of}
use Rattle.node_turn_laws.proofs.HintLaws.{hinted_where_reached, well_where_reached}
use Rattle.node_turn_laws.proofs.RestLaws.{AreIdle, box_stays, posts_nothing}
use Rattle.node_turn_laws.proofs.StillLaws.{moved_on}

module _ (w : World) (reached : IsReached w) (idle : AreIdle w.machine) where
  abbrev still_round : Round
  still_round = record { world = w; moved = false }

  turn_stays : (n : ℕ) (allowed : Bool) → is_live w.machine.config n ≡ true → (turn w n allowed).event ≡ None → turn w n allowed ≡ record { event = None; world = w }
  turn_stays n allowed live none_ =
      let k = map_or_true (λ (x : Slot). x.live) (slot w.machine.config n) live in
      let posted = ap (λ (v : World). option_map_or (turn_in v n allowed) (state_of v n) (record { event = None; world = v }))
      (posts_nothing w (hinted_where_reached w reached) idle (well_where_reached w reached) n k.0 k.1) in
      posted ∙ by (state_of w n) (sym (ap (λ (t : Turn). t.event) posted) ∙ none_)
    where
      in_state : Option NodeState → Turn
      in_state o = option_map_or (turn_in w n allowed) o (record { event = None; world = w })

      by : (o : Option NodeState) → (in_state o).event ≡ None → in_state o ≡ record { event = None; world = w }
      by None still = refl
      by (Some t) still =
          let v = cond (looks w.machine n t) (without_hint w n) w in
          (λ i. record { event = still i; world = option_map_or (do_event v n) (still i) v })
          ∙ (λ i. record { event = None; world = box_stays w (hinted_where_reached w reached) idle n (looks w.machine n t) i })

  turns_stay : (ns : List ℕ) (allowed : Bool) → ((n : ℕ) → Contains ns n → is_live w.machine.config n ≡ true)
      → (fold (give_turn allowed) still_round ns).moved ≡ false → fold (give_turn allowed) still_round ns ≡ still_round
  turns_stay [] allowed live still = refl
  turns_stay (n ∷ ns) allowed live still =
      let here = turn_stays n allowed (live n (Contains-here n ns)) (by (turn w n allowed).event refl) in
      let next = ap (λ (t : Turn). fold (give_turn allowed) (record { world = t.world; moved = false || is_some t.event }) ns) here in
      next ∙ turns_stay ns allowed (λ k in_. live k (Contains-there n k ns in_)) (sym (ap (λ (r : Round). r.moved) next) ∙ still)
    where
      by : (o : Option Event) → (turn w n allowed).event ≡ o → (turn w n allowed).event ≡ None
      by None is = is
      by (Some e) is =
          absurd (both_ways (fold (give_turn allowed) (give_turn allowed still_round n) ns).moved still (moved_on allowed ns (give_turn allowed still_round n) (ap is_some is)))

  module _ (allowed : Bool) (still : (round allowed w).moved ≡ false) where
    round_stays : round allowed w ≡ still_round
    round_stays = turns_stay (live_nodes w) allowed
        (λ n in_. (Contains-from_filter (is_live w.machine.config) (range_with_len 0 (length w.machine.config.slots)) n in_).1) still

    pub rounds_stay : (j : ℕ) → round allowed (after_rounds allowed w j) ≡ still_round
    rounds_stay zero = round_stays
    rounds_stay (suc j) = ap (λ (r : Round). round allowed r.world) (rounds_stay j) ∙ round_stays
