-- While all ports of a row are idle, and no port of its source is open, its nodes do nothing; and so it is where its source's port
-- is closed and idle.
use Rattle.std.proofs.Common.{◌≡◌, ◌∙◌, ℕ, Bool, true, false, not, List, [], ◌∷◌, Some, refl, sym, ap, inl, inr}
use Rattle.std.specs.Prelude.{◌==◌, option_map}
use Rattle.std.specs.Option.{option_map_or}
use Rattle.std.proofs.lemmas.Bool.{and_parts, both_ways, eq-eqb, eqb-true, false_from_ne_true}
use Rattle.std.proofs.lemmas.Option.{none-some}
use Rattle.base.proofs.OptionLaws.{map_or_true}
use Rattle.config_graph.specs.declared.kind.Kind.TheVariants.{Map}
use Rattle.config_graph.specs.declared.node.Target.{Target}
use Rattle.component_trait.specs.Fold.{after_event}
use Rattle.component_trait.specs.States.{NodeState}
use Rattle.quiesce_word.specs.Phases.{is_idle}
use Rattle.quiesce_word.proofs.PhaseLaws.{answered_busy, asked_busy, more_busy, serving_busy}
use Rattle.quiesce_core.specs.Rules.{serves_through}
use Rattle.quiesce_core.specs.Runs.{is_doer}
use Rattle.quiesce_core.specs.State.{State, depends, exchange, gate, is_live, owner, provision, service, slot, target}
use Rattle.quiesce_core.specs.declared.event.Event.{Event}
use Rattle.quiesce_core.specs.declared.event.Event.TheVariants.{Begin, Call, Take, Give, End, More, Ask, Hear, Miss}
use Rattle.quiesce_core.specs.declared.state.Service.{Service}
use Rattle.quiesce_core.specs.declared.state.Slot.{Slot}
use Rattle.quiesce_core.proofs.StateLaws.{taken_busy}
use Rattle.result_laws.proofs.FactLaws.{Facts, of_parts}
use Rattle.result_laws.proofs.Passing.{Stop, ToMap, Way}
use Rattle.result_laws.specs.Rows.{rows_serve_rows}
use Rattle.result_laws.proofs.EventLaws.{Now, idle_untaken, led_to}
use Rattle.result_laws.proofs.Linking.{AllLinked}
use Rattle.result_laws.proofs.RowSlots.{led_by_row, row_port, row_slot}
use Rattle.result_laws.proofs.Onward.{free_map, unserved}
use Rattle.result_laws.proofs.Touching.{IsOnWay}

-- all ports of a row are idle, and those that are open are ports of maps
pub record IsStill (s : State) (f : ℕ → NodeState) : Type 0 where
  pub idle : (q : ℕ) → row_port s.config q ≡ true → is_idle (exchange s q).phase ≡ true
  pub opened : (q : ℕ) → (gate s.config q).closed ≡ false → row_port s.config q ≡ true → (f (owner s.config q)).kind ≡ Map

module _ (s : State) (f g : ℕ → NodeState) (facts : Facts s f) (still : IsStill s f) (linked : AllLinked rows_serve_rows s.config) where
  -- so is each that leads to one of it
  idle_to : (p : ℕ) (t : Target) → target s.config p ≡ Some t → row_slot s.config t.node ≡ true → is_idle (exchange s p).phase ≡ true
  idle_to p t leads of_row = still.idle p (led_by_row s.config linked facts.well.sound p t leads of_row)

  serves_none : (n p : ℕ) → row_slot s.config n ≡ true → serves_through s n p ≡ true → ⊥
  serves_none n p of_row h =
      let v = map_or_true (λ (v : Service). depends s.config n (provision s.config v.port) p) (service s n) h in
      let it = facts.traffic.serving n v.0 v.1 in
      both_ways (is_idle (exchange s v.0.port).phase) (serving_busy (exchange s v.0.port).phase it.busy) (idle_to v.0.port (record { node = n; provide = it.provide }) it.linked of_row)

  busy_to : (p n : ℕ) → row_slot s.config n ≡ true → option_map_or (λ m. m == n) (option_map (λ (t : Target). t.node) (target s.config p)) false ≡ true → is_idle (exchange s p).phase ≡ false → ⊥
  busy_to p n of_row does busy = let t = led_to s f g facts p n does in both_ways (is_idle (exchange s p).phase) busy (idle_to p t.0 t.1 (ap (row_slot s.config) t.2 ∙ of_row))

  own_busy : (p n : ℕ) → row_slot s.config n ≡ true → (owner s.config p == n) ≡ true → is_idle (exchange s p).phase ≡ false → ⊥
  own_busy p n of_row does busy = both_ways (is_idle (exchange s p).phase) busy (still.idle p (ap (row_slot s.config) (eqb-true (owner s.config p) n does) ∙ of_row))

  -- a map wants nothing
  map_begins_none : (first p j v : ℕ) (n t : NodeState) → n.kind ≡ Map → after_event first n (Begin p j v) ≡ Some t → ⊥
  map_begins_none first p j v n t kind h = none-some t (sym (ap (λ x. after_event first x (Begin p j v)) (of_parts n Map n.service kind refl)) ∙ h)

  -- and its nodes do nothing
  pub nothing_happens : (e : Event) → Now s f g e → (n : ℕ) → row_slot s.config n ≡ true → is_doer s n e ≡ true → ⊥
  nothing_happens (Begin p k v) now n of_row does =
      let live = (and_parts _ (is_live s.config (owner s.config p)) now.legal.live).1 in
      let m = map_or_true (λ (x : Slot). x.live) (slot s.config (owner s.config p)) live in
      map_begins_none m.0.first_port p k v (f (owner s.config p)) (g (owner s.config p))
      (still.opened p (open_gate (gate s.config p).closed now.legal.opened) (ap (row_slot s.config) (eqb-true (owner s.config p) n does) ∙ of_row))
      (now.folds.mine (owner s.config p) m.0 m.1 (eq-eqb (owner s.config p) (owner s.config p) refl))
    where
      open_gate : (b : Bool) → not b ≡ true → b ≡ false
      open_gate true h = absurd (both_ways false refl h)
      open_gate false h = refl
  nothing_happens (Call p k v) now n of_row does = serves_none (owner s.config p) p (ap (row_slot s.config) (eqb-true (owner s.config p) n does) ∙ of_row) now.legal.serves_through
  nothing_happens (Miss p) now n of_row does = serves_none (owner s.config p) p (ap (row_slot s.config) (eqb-true (owner s.config p) n does) ∙ of_row) now.legal.serves_through
  nothing_happens (Take p k v) now n of_row does = busy_to p n of_row does (asked_busy (exchange s p).phase now.legal.asked)
  nothing_happens (Give p k v) now n of_row does = busy_to p n of_row does (taken_busy s p facts.traffic now.legal.taken)
  nothing_happens (More p k v) now n of_row does = busy_to p n of_row does (taken_busy s p facts.traffic now.legal.taken)
  nothing_happens (Hear p k v) now n of_row does = busy_to p n of_row does (taken_busy s p facts.traffic now.legal.taken)
  nothing_happens (Ask p k v) now n of_row does = own_busy p n of_row does (more_busy (exchange s p).phase now.legal.in_more)
  nothing_happens (End p k v) now n of_row does = own_busy p n of_row does (answered_busy (exchange s p).phase now.legal.answered)
  nothing_happens _ now n of_row does = both_ways true now.of_node refl

  -- so none of its nodes does an event
  pub none_does : (e : Event) → Now s f g e → (n : ℕ) → row_slot s.config n ≡ true → is_doer s n e ≡ false
  none_does e now n of_row = false_from_ne_true (is_doer s n e) (nothing_happens e now n of_row)

-- below an idle port each port of a row is idle
pub all_idle : (s : State) (f : ℕ → NodeState) → Facts s f → (ms : List Stop) (p t q : ℕ) → Way s.config f p ms t → is_idle (exchange s p).phase ≡ true → (n : ℕ) → IsOnWay ms t n → (n ≡ t → ⊥) → owner s.config q ≡ n
    → ((m : Stop) (r : ℕ) → ToMap s.config f r m → owner s.config q ≡ m.at → q ≡ m.port) → is_idle (exchange s q).phase ≡ true
all_idle s f facts [] p t q w idle n on not_sink owned one = absurd (not_sink on)
all_idle s f facts (m ∷ ms) p t q w idle n (inl here) not_sink owned one =
    let free = free_map s f f facts m p w.0 (unserved s f f facts m p w.0 (idle_untaken s f f facts p idle)) in
    ap (λ i. is_idle (exchange s i).phase) (one m p w.0 (owned ∙ here)) ∙ free
all_idle s f facts (m ∷ ms) p t q w idle n (inr later) not_sink owned one =
    all_idle s f facts ms m.port t q w.1 (free_map s f f facts m p w.0 (unserved s f f facts m p w.0 (idle_untaken s f f facts p idle))) n later not_sink owned one
