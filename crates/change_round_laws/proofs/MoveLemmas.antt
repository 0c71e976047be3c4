-- Where no node may begin a transaction, an event of a turn is one of what is open, and less is left behind it.
use Rattle.std.proofs.Common.{◌≡◌, ◌∙◌, ℕ, ◌+◌, ◌<◌, ◌≤◌, Bool, true, false, cond, List, [], ◌∷◌, Option, Some, None, refl, sym, ap, arith}
use Rattle.std.specs.Prelude.{is_none, is_some}
use Rattle.std.specs.Option.{option_map_or}
use Rattle.std.proofs.lemmas.Bool.{both_ways}
use Rattle.component_trait.specs.States.{NodeState}
use Rattle.quiesce_laws.specs.Advances.{is_advance, is_begin}
use Rattle.node_turn_laws.proofs.HintLaws.{traffic_where_reached, well_where_reached}
use Rattle.node_turn_laws.proofs.LookLaws.{Avoids, ends_avoid, passes, serves_avoid}
use Rattle.quiesce_core.specs.Doers.{is_of_change}
use Rattle.quiesce_core.specs.Effect.{effect}
use Rattle.quiesce_core.specs.Rest.{rest}
use Rattle.quiesce_core.specs.Runs.{Step}
use Rattle.quiesce_core.specs.State.{State, exchange, is_live, service}
use Rattle.quiesce_core.specs.Traffic.{IsConsistent}
use Rattle.quiesce_core.specs.WellFormed.{IsWellFormed}
use Rattle.quiesce_core.specs.declared.event.Event.{Event}
use Rattle.quiesce_core.specs.declared.event.Event.TheVariants.{Take, Begin, Call, Give, End, More, Ask, Hear, Miss, Close, Reopen, Make, Link, Unlink, Remove}
use Rattle.quiesce_core.specs.declared.state.Service.{Service}
use Rattle.node_turn_laws.proofs.ReachedLaws.{turn_goes_on}
use Rattle.node_turn_laws.specs.Reached.{IsReached}
use Rattle.node_turn_laws.proofs.TurnLaws.{turns_do}
use Rattle.node_turn_laws.specs.Hints.{after_move, without_hints}
use Rattle.node_turn_laws.specs.Turn.{ends, is_for, move_of, or_else, post_waiting, serves, takes, turn, turn_in}
use Rattle.node_turn_laws.specs.World.{World, inbox, state_of}

-- what quiesce_laws says
abbrev pub RestFalls : Type 0
RestFalls = (s t : State) (e : Event) → IsWellFormed s → IsConsistent s → Step s e t → is_advance e ≡ true → rest t < rest s

no_begin : Avoids is_begin
no_begin = record {
  ending = λ p k v. refl;
  asking = λ p k v. refl;
  giving = λ p k v. refl;
  sending = λ p k v. refl;
  hearing = λ p k v. refl;
  calling = λ p k v. refl;
  missing = λ p. refl;
}

move_begins_none : (s : State) (n : ℕ) (t : NodeState) (box : List ℕ) → passes is_begin (move_of s n t box false) ≡ false
move_begins_none s n t box = by (ends s n t) (serves s n t) (service s n) (ends_avoid is_begin no_begin s n t) (serves_avoid is_begin no_begin s n t)
  where
    taking : (b : Bool) (o : Option Event) → passes is_begin o ≡ false → passes is_begin (or_else (cond b o None) None) ≡ false
    taking true (Some e) h = h
    taking true None h = refl
    taking false o h = refl

    taken : (xs : List ℕ) → passes is_begin (takes s n xs) ≡ false
    taken [] = refl
    taken (p ∷ xs) = one (is_for s n p)
      where
        one : (b : Bool) → passes is_begin (cond b (Some (Take p (exchange s p).serial (exchange s p).value)) None) ≡ false
        one true = refl
        one false = refl

    by : (a b : Option Event) (c : Option Service) → passes is_begin a ≡ false → passes is_begin b ≡ false
        → passes is_begin (or_else a (or_else b (or_else (cond (is_none c) (takes s n box) None) None))) ≡ false
    by (Some e) b c x y = x
    by None (Some e) c x y = y
    by None None c x y = taking (is_none c) (takes s n box) (taken box)

turn_begins_none : (w : World) (n : ℕ) → passes is_begin (turn w n false).event ≡ false
turn_begins_none w n = by (state_of (post_waiting w n) n)
  where
    by : (o : Option NodeState) → passes is_begin (option_map_or (turn_in (post_waiting w n) n false) o (record { event = None; world = post_waiting w n })).event ≡ false
    by None = refl
    by (Some t) = move_begins_none (post_waiting w n).machine n t (inbox (post_waiting w n) n)

advances : (e : Event) → is_of_change e ≡ false → is_begin e ≡ false → is_advance e ≡ true
advances (Begin p k v) node none_ = absurd (both_ways true none_ refl)
advances (Call p k v) node none_ = refl
advances (Take p k v) node none_ = refl
advances (Give p k v) node none_ = refl
advances (End p k v) node none_ = refl
advances (More p k v) node none_ = refl
advances (Ask p k v) node none_ = refl
advances (Hear p k v) node none_ = refl
advances (Miss p) node none_ = refl
advances (Close p) node none_ = absurd (both_ways true node refl)
advances (Reopen p) node none_ = absurd (both_ways true node refl)
advances (Make n made from) node none_ = absurd (both_ways true node refl)
advances (Link p n x) node none_ = absurd (both_ways true node refl)
advances (Unlink p) node none_ = absurd (both_ways true node refl)
advances (Remove n) node none_ = absurd (both_ways true node refl)

pub turn_spends : RestFalls → (w : World) (n : ℕ) → IsReached w → is_live w.machine.config n ≡ true → rest (turn w n false).world.machine + cond (is_some (turn w n false).event) 1 0 ≤ rest w.machine
turn_spends falls w n r live =
    let after = ap (λ (x : World). rest x.machine) (turns_do w n false) in
    by (turn w n false).event refl after
  where
    by : (o : Option Event) → (turn w n false).event ≡ o → rest (turn w n false).world.machine ≡ rest (without_hints (after_move w n (turn w n false).event)).machine
        → rest (turn w n false).world.machine + cond (is_some (turn w n false).event) 1 0 ≤ rest w.machine
    by None e after =
        let same = ap (λ o. rest (without_hints (after_move w n o)).machine) e in
        let none_ : ◌≡◌ {A = ℕ} (cond (is_some (turn w n false).event) 1 0) 0 = ap {B = ℕ} (λ (o : Option Event). cond (is_some o) 1 0) e in
        omega (arith, after, same, none_)
    by (Some x) e after =
        let g = turn_goes_on w n false x r live e in
        let same = ap (λ o. rest (without_hints (after_move w n o)).machine) e in
        let one : ◌≡◌ {A = ℕ} (cond (is_some (turn w n false).event) 1 0) 1 = ap {B = ℕ} (λ (o : Option Event). cond (is_some o) 1 0) e in
        let not_begun : is_begin x ≡ false = sym (ap (passes is_begin) e) ∙ turn_begins_none w n in
        let less : rest (effect w.machine x) < rest w.machine =
        falls w.machine (effect w.machine x) x (well_where_reached w r) (traffic_where_reached w r) (record { allowed = g.allowed; changed = refl }) (advances x g.of_node not_begun) in
        omega (arith, after, same, one, less)
