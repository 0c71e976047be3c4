-- What is asked, taken up and settled at a port is what was sent there last: at each place of a run of sources, maps,
-- buffers and sinks.
use Rattle.std.proofs.Common.{◌≡◌, ◌∙◌, ℕ, ◌+◌, ◌<◌, Bool, true, false, cond, not, List, [], ◌∷◌, ◌++◌, append_assoc, Option, Some, None, refl, sym, ap, subst, arith, ⊎_elim}
use Rattle.std.specs.Prelude.{◌==◌, is_some, option_map}
use Rattle.std.specs.Option.{option_map_or}
use Rattle.std.proofs.lemmas.Bool.{and_parts, both_ways, cases_Bool, cases_eq, eq-eqb, eqb-true, false_from_ne_true, ltb-true, ne_eqb}
use Rattle.std.proofs.lemmas.List.{append-nil}
use Rattle.std.proofs.lemmas.Option.{none-some, same_Some}
use Rattle.base.proofs.OptionLaws.{map_or_true, option_map_some}
use Rattle.config_graph.specs.declared.TheConstants.{VALUE_LIMIT}
use Rattle.config_graph.specs.declared.kind.Kind.{Kind}
use Rattle.config_graph.specs.declared.node.Target.{Target}
use Rattle.component_trait.specs.Fold.{after_event, asked_by, calls_at, is_give, is_more, is_request, may_take, wants_at}
use Rattle.component_trait.specs.Moves as moves
use Rattle.component_trait.specs.States.{NodeState}
use Rattle.component_trait.proofs.FoldLaws.{fold_keeps_kind, where_so_then}
use Rattle.quiesce_word.specs.Phases.{is_asked, is_idle, is_in_more}
use Rattle.quiesce_word.proofs.PhaseLaws.{asked_busy, more_busy, serving_busy}
use Rattle.quiesce_core.specs.Alters.{exchange_by, exchange_next, service_by, service_next}
use Rattle.quiesce_core.specs.Doers.{is_of_change, is_of_owner}
use Rattle.quiesce_core.specs.Effect.{effect}
use Rattle.quiesce_core.specs.Legal.{Legal}
use Rattle.quiesce_core.specs.Rules.{value_limit}
use Rattle.quiesce_core.specs.Runs.{IsRun, is_doer, state_after}
use Rattle.quiesce_core.specs.State.{Configuration, State, exchange, owner, service, slot, target}
use Rattle.quiesce_core.specs.declared.event.Event.{Event}
use Rattle.quiesce_core.specs.declared.event.Event.TheVariants.{Begin, Call, Take, Give, End, More, Ask, Hear, Miss}
use Rattle.quiesce_core.specs.declared.state.Exchange.{Exchange}
use Rattle.quiesce_core.specs.declared.state.Service.{Service}
use Rattle.quiesce_core.specs.declared.state.Slot.{Slot}
use Rattle.quiesce_core.proofs.AlterLaws.{reconfigured, services_next}
use Rattle.quiesce_core.proofs.ConfigurationLaws.{linked_made, owner_kept}
use Rattle.quiesce_core.proofs.InductionLaws.{IsNext, place}
use Rattle.quiesce_core.proofs.RunLaws.{node_events_keep_the_configuration}
use Rattle.quiesce_core.proofs.StateLaws.{busy_made, taken_busy}
use Rattle.node_turn_laws.specs.Agreement.{expects}
use Rattle.change_round_laws.proofs.FoldLaws.{StatesAreHanded}
use Rattle.result_laws.specs.Coming.{HasFolds, come}
use Rattle.result_laws.proofs.AgreeingLaws.{change_does}
use Rattle.result_laws.proofs.ComingLaws.{at_place, facts, fits_of, folds_before, old_stays}
use Rattle.result_laws.proofs.EventLaws.{led_to, nothing_there}
use Rattle.result_laws.proofs.FactLaws.{Facts}
use Rattle.result_laws.specs.Flows.{is_of_flow, same_side}
use Rattle.result_laws.specs.UnderWay.{is_port_of_flow}
use Rattle.result_laws.proofs.Asking.{asked, begins_asked, call_first, calls_asked, expects_first, give_asks, is_turn, served_stays, take_asks, want_first}
use Rattle.result_laws.proofs.Doing.{Does, does_at, waits_never}
use Rattle.result_laws.proofs.Linking.{AllLinked}
use Rattle.result_laws.proofs.Ports.{exchange_then, last_sent, port_of, sent_next, sent_then}
use Rattle.result_laws.proofs.Stepping.{no_more, served}

pub record Values (es : List Event) : Type 0 where
  pub none_replied : (p : ℕ) → is_port_of_flow es p ≡ true → is_in_more (exchange (state_after es) p).phase ≡ false
  pub waiting : (p : ℕ) → is_port_of_flow es p ≡ true → is_asked (exchange (state_after es) p).phase ≡ true → (exchange (state_after es) p).value ≡ last_sent p es
  pub serving : (n : ℕ) (v : Service) → is_of_flow (come es n).kind ≡ true → service (state_after es) n ≡ Some v → served (come es n) ≡ last_sent v.port es
  pub asking : (p : ℕ) → is_port_of_flow es p ≡ true → is_idle (exchange (state_after es) p).phase ≡ false → asked (come es (owner (state_after es).config p)) ≡ last_sent p es
  pub small : (p : ℕ) → last_sent p es < VALUE_LIMIT

nothing_sent : Values []
nothing_sent = record {
  none_replied = λ p fl. refl;
  waiting = λ p fl h. absurd (both_ways false refl h);
  serving = λ n v fl h. absurd (cc h);
  asking = λ p fl h. absurd (both_ways true h refl);
  small = λ p. omega arith;
}

-- by either of two exchanges
either_at : (P : Exchange → ℕ → Type 0) (b : Bool) (x y : Exchange) (v w : ℕ) → P x v → P y w → P (cond b x y) (cond b v w)
either_at P true x y v w left right = left
either_at P false x y v w left right = right

either_one : (P : Exchange → Type 0) (b : Bool) (x y : Exchange) → P x → P y → P (cond b x y)
either_one P true x y left right = left
either_one P false x y left right = right

-- the port of a service, but after a Take
port_was : (o : Option Service) (v : Service) (e : Event) → is_turn e ≡ false → service_by o e ≡ Some v → (u : Service) × (o ≡ Some u) × (u.port ≡ v.port)
port_was o v (Call q k j) plain h = let b = option_map_some (λ (u : Service). record u { calls = u.calls + 1 }) o v h in (b.0, b.1, ap (λ (u : Service). u.port) b.2)
port_was o v (Miss q) plain h = let b = option_map_some (λ (u : Service). record u { calls = u.calls + 1 }) o v h in (b.0, b.1, ap (λ (u : Service). u.port) b.2)
port_was o v (Take q k j) plain h = absurd (both_ways true plain refl)
port_was o v (Give q k j) plain h = absurd (both_ways true plain refl)
port_was o v (More q k j) plain h = let b = option_map_some (λ (u : Service). record u { mores = u.mores + 1; heard = false }) o v h in (b.0, b.1, ap (λ (u : Service). u.port) b.2)
port_was o v (Hear q k j) plain h = let b = option_map_some (λ (u : Service). record u { heard = true }) o v h in (b.0, b.1, ap (λ (u : Service). u.port) b.2)
port_was o v _ plain h = (v, h, refl)

module _ (handed : StatesAreHanded) (es : List Event) (e : Event) (here : IsNext es e) (run' : IsRun (es ++ e ∷ [])) (later : HasFolds (es ++ e ∷ [])) (apart : AllLinked same_side (state_after es).config) (was : Values es) where
  abbrev s : State
  s = state_after es

  abbrev t : State
  t = state_after (es ++ e ∷ [])

  abbrev f : ℕ → NodeState
  f = come es

  abbrev g : ℕ → NodeState
  g = come (es ++ e ∷ [])

  now_facts : Facts s f
  now_facts = facts handed es here.run (folds_before handed es e here run' later)

  -- a port that leads to a node of flow is one of a node of flow
  port_side : (q n x : ℕ) → target s.config q ≡ Some (record { node = n; provide = x }) → is_port_of_flow es q ≡ is_of_flow (f n).kind
  port_side q n x leads =
      let own = here.well.sound.ports q (linked_made s.config q (record { node = n; provide = x }) leads) in
      let into = map_or_true (λ (m : Slot). m.live) (slot s.config n) (here.well.sound.targets q (record { node = n; provide = x }) leads).live in
      let fits = fits_of handed es here.run (folds_before handed es e here run' later) in
      ap is_of_flow (fits.kinds (owner s.config q) own.node own.made) ∙ sides own.node.node.kind into.0.node.kind (apart q (record { node = n; provide = x }) own.node into.0 leads own.made into.1) ∙ sym (ap is_of_flow (fits.kinds n into.0 into.1))
    where
      sides : (k l : Kind) → same_side k l ≡ true → is_of_flow k ≡ is_of_flow l
      sides k l h = by (is_of_flow k) (is_of_flow l) h
        where
          by : (a b : Bool) → cond a b (not b) ≡ true → a ≡ b
          by true b h = sym h
          by false true h = absurd (both_ways false refl h)
          by false false h = refl

  service_then : (n : ℕ) → service t n ≡ service_next s n e
  service_then n = ap (λ (x : State). service x n) here.next ∙ services_next s e here.well here.legal n

  serving_is_busy : (n : ℕ) (v : Service) → service s n ≡ Some v → is_idle (exchange s v.port).phase ≡ false
  serving_is_busy n v is = serving_busy (exchange s v.port).phase (here.traffic.serving n v is).busy

  -- at a busy port nothing is sent
  sent_stays : (q : ℕ) → is_idle (exchange s q).phase ≡ false → last_sent q (es ++ e ∷ []) ≡ last_sent q es
  sent_stays q busy = sent_then (λ x. x) es e here q ∙ by e here.legal
    where
      idle_apart : (p : ℕ) → is_idle (exchange s p).phase ≡ true → (p == q) ≡ false
      idle_apart p idle = false_from_ne_true (p == q) (λ h. both_ways (is_idle (exchange s q).phase) busy (ap (λ i. is_idle (exchange s i).phase) (sym (eqb-true p q h)) ∙ idle))

      by : (z : Event) → Legal s z → sent_next q (last_sent q es) z ≡ last_sent q es
      by (Begin p k v) l = ap (λ b. cond b v (last_sent q es)) (idle_apart p l.idle)
      by (Call p k v) l = ap (λ b. cond b v (last_sent q es)) (idle_apart p l.idle)
      by _ l = refl

  small_then : (q : ℕ) → last_sent q (es ++ e ∷ []) < VALUE_LIMIT
  small_then q = subst (λ x. x < VALUE_LIMIT) (sym (sent_then (λ x. x) es e here q)) (by e here.legal)
    where
      either : (b : Bool) (v : ℕ) → v < VALUE_LIMIT → cond b v (last_sent q es) < VALUE_LIMIT
      either true v h = h
      either false v h = was.small q

      by : (z : Event) → Legal s z → sent_next q (last_sent q es) z < VALUE_LIMIT
      by (Begin p k v) l = either (p == q) v (ltb-true v value_limit l.value)
      by (Call p k v) l = either (p == q) v (ltb-true v value_limit l.value)
      by _ l = was.small q

  abbrev IsWaiting : Exchange → ℕ → Type 0
  IsWaiting x v = is_asked x.phase ≡ true → x.value ≡ v

  waiting_then : (q : ℕ) → is_port_of_flow es q ≡ true → is_asked (exchange t q).phase ≡ true → (exchange t q).value ≡ last_sent q (es ++ e ∷ [])
  waiting_then q fl = subst (λ x. IsWaiting x (last_sent q (es ++ e ∷ []))) (sym (exchange_then (λ x. x) es e here q))
      (subst (λ v. IsWaiting (exchange_next s q e) v) (sym (sent_then (λ x. x) es e here q)) (by e here.legal))
    where
      by : (z : Event) → Legal s z → IsWaiting (exchange_next s q z) (sent_next q (last_sent q es) z)
      by (Begin p k v) l = either_at IsWaiting (p == q) (exchange_by (service s (owner s.config q)) (exchange s q) (Begin p k v)) (exchange s q) v (last_sent q es) (λ h. refl) (was.waiting q fl)
      by (Call p k v) l = either_at IsWaiting (p == q) (exchange_by (service s (owner s.config q)) (exchange s q) (Call p k v)) (exchange s q) v (last_sent q es) (λ h. refl) (was.waiting q fl)
      by (Give p k v) l = either_one (λ x. IsWaiting x (last_sent q es)) (p == q) (exchange_by (service s (owner s.config q)) (exchange s q) (Give p k v)) (exchange s q) (λ h. absurd (both_ways false refl h)) (was.waiting q fl)
      by (More p k v) l = either_one (λ x. IsWaiting x (last_sent q es)) (p == q) (exchange_by (service s (owner s.config q)) (exchange s q) (More p k v)) (exchange s q) (λ h. absurd (both_ways false refl h)) (was.waiting q fl)
      by (Ask p k v) l = either_if (p == q) (λ same. absurd (both_ways (is_in_more (exchange s q).phase) (was.none_replied q fl) (ap (λ i. is_in_more (exchange s i).phase) (sym (eqb-true p q same)) ∙ l.in_more)))
        where
          either_if : (b : Bool) → (b ≡ true → ⊥) → IsWaiting (cond b (exchange_by (service s (owner s.config q)) (exchange s q) (Ask p k v)) (exchange s q)) (last_sent q es)
          either_if true h = absurd (h refl)
          either_if false h = was.waiting q fl
      by (End p k v) l = either_one (λ x. IsWaiting x (last_sent q es)) (p == q) (exchange_by (service s (owner s.config q)) (exchange s q) (End p k v)) (exchange s q) (λ h. absurd (both_ways false refl h)) (was.waiting q fl)
      by _ l = was.waiting q fl

  -- ---- an event of a node

  module _ (of_node : is_of_change e ≡ false) where
    w : Does es e
    w = does_at handed es e here run' later of_node

    kind_then : (n : ℕ) → (g n).kind ≡ (f n).kind
    kind_then n = ⊎_elim
        (λ (same : n ≡ w.at). ap (λ i. (g i).kind) same ∙ fold_keeps_kind w.made.first_port (f w.at) (g w.at) (e ∷ []) w.led ∙ sym (ap (λ i. (f i).kind) same))
        (λ (other : n ≡ w.at → ⊥). ap (λ (x : NodeState). x.kind) (w.others n other))
        (cases_eq n w.at)

    same_config : t.config ≡ s.config
    same_config = ap (λ (x : State). x.config) here.next ∙ node_events_keep_the_configuration s e of_node

    same_port : (q : ℕ) → is_port_of_flow (es ++ e ∷ []) q ≡ is_port_of_flow es q
    same_port q = ap is_of_flow (ap (λ (c : Configuration). (g (owner c q)).kind) same_config ∙ kind_then (owner s.config q))

    -- who does an event of a target at a port of flow is of flow
    target_flows : (q : ℕ) → option_map_or (λ m. m == w.at) (option_map (λ (x : Target). x.node) (target s.config q)) false ≡ true → is_port_of_flow es q ≡ is_of_flow (f w.at).kind
    target_flows q does = let led = led_to s f f now_facts q w.at does in port_side q led.0.node led.0.provide led.1 ∙ ap (λ i. is_of_flow (f i).kind) led.2

    sends_no_more : (p k v : ℕ) → is_of_flow (f w.at).kind ≡ true → e ≡ More p k v → ⊥
    sends_no_more p k v flow at =
        both_ways _ (no_more (f w.at).kind (f w.at).arg (f w.at).kept (f w.at).service v flow)
        (where_so_then (is_more v (moves.next (f w.at))) (moves.after_more (f w.at)) (g w.at) (sym (ap (after_event w.made.first_port (f w.at)) at) ∙ w.led)).0

    none_replied_then : (q : ℕ) → is_port_of_flow es q ≡ true → is_in_more (exchange t q).phase ≡ false
    none_replied_then q fl = subst (λ (x : Exchange). is_in_more x.phase ≡ false) (sym (exchange_then (λ x. x) es e here q)) (by e refl)
      where
        one : (p : ℕ) (x : Exchange) → is_in_more x.phase ≡ false → is_in_more (cond (p == q) x (exchange s q)).phase ≡ false
        one p x h = either_one (λ y. is_in_more y.phase ≡ false) (p == q) x (exchange s q) h (was.none_replied q fl)

        by : (z : Event) → e ≡ z → is_in_more (exchange_next s q z).phase ≡ false
        by (Begin p k v) at = one p (exchange_by (service s (owner s.config q)) (exchange s q) (Begin p k v)) refl
        by (Call p k v) at = one p (exchange_by (service s (owner s.config q)) (exchange s q) (Call p k v)) refl
        by (Give p k v) at = one p (exchange_by (service s (owner s.config q)) (exchange s q) (Give p k v)) refl
        by (More p k v) at = either_if (p == q) (λ same. sends_no_more p k v (sym (target_flows p (subst (λ z. is_doer s w.at z ≡ true) at w.does)) ∙ ap (is_port_of_flow es) (eqb-true p q same) ∙ fl) at)
          where
            either_if : (b : Bool) → (b ≡ true → ⊥) → is_in_more (cond b (exchange_by (service s (owner s.config q)) (exchange s q) (More p k v)) (exchange s q)).phase ≡ false
            either_if true h = absurd (h refl)
            either_if false h = was.none_replied q fl
        by (Ask p k v) at = one p (exchange_by (service s (owner s.config q)) (exchange s q) (Ask p k v)) refl
        by (End p k v) at = one p (exchange_by (service s (owner s.config q)) (exchange s q) (End p k v)) refl
        by _ at = was.none_replied q fl

    -- who serves took up what was sent
    serving_then : (n : ℕ) (v : Service) → is_of_flow (f n).kind ≡ true → service t n ≡ Some v → served (g n) ≡ last_sent v.port (es ++ e ∷ [])
    serving_then n v fl is = ⊎_elim
        (λ (same : n ≡ w.at). subst (λ i. served (g i) ≡ last_sent v.port (es ++ e ∷ [])) (sym same) (mine (ap (λ i. is_of_flow (f i).kind) (sym same) ∙ fl) (sym (ap (λ b. cond b (service_by (service s w.at) e) (service s w.at)) w.does) ∙ sym (service_then w.at) ∙ ap (service t) (sym same) ∙ is)))
        (λ (other : n ≡ w.at → ⊥).
        let old : service s n ≡ Some v = sym (ap (λ b. cond b (service_by (service s n) e) (service s n)) (w.only_one n other)) ∙ sym (service_then n) ∙ is in
        ap served (w.others n other) ∙ was.serving n v fl old ∙ sym (sent_stays v.port (serving_is_busy n v old)))
        (cases_eq n w.at)
      where
        took : (p k x : ℕ) → is_of_flow (f w.at).kind ≡ true → e ≡ Take p k x → Some (record { port = p; calls = 0; mores = 0; heard = true }) ≡ Some v → served (g w.at) ≡ last_sent v.port (es ++ e ∷ [])
        took p k x flow at h =
            let l = subst (Legal s) at here.legal in
            let led = where_so_then (may_take (f w.at)) (moves.after_take (f w.at) x) (g w.at) (sym (ap (after_event w.made.first_port (f w.at)) at) ∙ w.led) in
            let value : x ≡ (exchange s p).value = eqb-true x (exchange s p).value (and_parts (k == (exchange s p).serial) (x == (exchange s p).value) l.message).1 in
            let there : last_sent p (es ++ e ∷ []) ≡ last_sent p es = sent_then (λ x. x) es e here p ∙ ap (sent_next p (last_sent p es)) at in
            sym (ap served led.1) ∙ value ∙ was.waiting p (target_flows p (subst (λ z. is_doer s w.at z ≡ true) at w.does) ∙ flow) l.asked ∙ sym there ∙ ap (λ i. last_sent i (es ++ e ∷ [])) (ap (λ (u : Service). u.port) (same_Some _ v h))

        goes_on : is_of_flow (f w.at).kind ≡ true → is_turn e ≡ false → service_by (service s w.at) e ≡ Some v → served (g w.at) ≡ last_sent v.port (es ++ e ∷ [])
        goes_on flow plain h =
            let u = port_was (service s w.at) v e plain h in
            served_stays w.made.first_port (f w.at) (g w.at) e plain w.led ∙ was.serving w.at u.0 flow u.1 ∙ sym (sent_stays u.0.port (serving_is_busy w.at u.0 u.1)) ∙ ap (λ i. last_sent i (es ++ e ∷ [])) u.2

        mine : is_of_flow (f w.at).kind ≡ true → service_by (service s w.at) e ≡ Some v → served (g w.at) ≡ last_sent v.port (es ++ e ∷ [])
        mine flow h = by e refl (λ plain. goes_on flow plain h) h
          where
            by : (z : Event) → e ≡ z → (is_turn e ≡ false → served (g w.at) ≡ last_sent v.port (es ++ e ∷ [])) → service_by (service s w.at) e ≡ Some v → served (g w.at) ≡ last_sent v.port (es ++ e ∷ [])
            by (Take p k x) at on h = took p k x flow at (sym (ap (service_by (service s w.at)) at) ∙ h)
            by (Give p k x) at on h = absurd (none-some v (sym (ap (service_by (service s w.at)) at) ∙ h))
            by _ at on h = on (ap is_turn at)

    -- what is asked at a busy port stays, but by the owner's own event there
    owner_slot : (q : ℕ) → is_idle (exchange s q).phase ≡ false → (m : Slot) × (slot s.config (owner s.config q) ≡ Some m)
    owner_slot q busy = let p = here.well.sound.ports q (busy_made s q here.traffic busy) in (p.node, p.made)

    asks_stay : (q : ℕ) → is_port_of_flow es q ≡ true → is_idle (exchange s q).phase ≡ false → (is_of_owner e ≡ true → q ≡ port_of e → ⊥) → asked (g (owner s.config q)) ≡ asked (f (owner s.config q))
    asks_stay q fl busy away = ⊎_elim
        (λ (same : owner s.config q ≡ w.at). ap (λ i. asked (g i)) same ∙ by e refl (sym same) ∙ sym (ap (λ i. asked (f i)) same))
        (λ (other : owner s.config q ≡ w.at → ⊥). ap asked (w.others (owner s.config q) other))
        (cases_eq (owner s.config q) w.at)
      where
        after : (z : Event) → e ≡ z → after_event w.made.first_port (f w.at) z ≡ Some (g w.at)
        after z at = sym (ap (after_event w.made.first_port (f w.at)) at) ∙ w.led

        awaited : w.at ≡ owner s.config q → expects (is_some (exchange s q).within) w.made.first_port (f w.at) q ≡ true
        awaited same = now_facts.expected w.at q w.made w.there (sym same) busy

        flow_of : w.at ≡ owner s.config q → is_of_flow (f w.at).kind ≡ true
        flow_of same = ap (λ i. is_of_flow (f i).kind) same ∙ fl

        -- an event of its own is at its one port, and so is this one
        own : w.at ≡ owner s.config q → (p : ℕ) → port_of e ≡ p → is_of_owner e ≡ true → p ≡ w.made.first_port → ⊥
        own same p at of_owner first =
            away of_owner (expects_first (is_some (exchange s q).within) (f w.at) w.made.first_port q (flow_of same) (awaited same) ∙ sym first ∙ sym at)

        by : (z : Event) → e ≡ z → w.at ≡ owner s.config q → asked (g w.at) ≡ asked (f w.at)
        by (Take p k v) at same =
            let led = where_so_then (may_take (f w.at)) (moves.after_take (f w.at) v) (g w.at) (after (Take p k v) at) in
            sym (ap asked led.1) ∙ take_asks (is_some (exchange s q).within) (f w.at).kind (f w.at).arg (f w.at).kept (f w.at).service w.made.first_port q v (flow_of same) (awaited same) led.0
        by (Give p k v) at same =
            let led = where_so_then (is_give v (moves.next (f w.at))) (moves.after_give (f w.at)) (g w.at) (after (Give p k v) at) in
            sym (ap asked led.1) ∙ give_asks (is_some (exchange s q).within) (f w.at).kind (f w.at).arg (f w.at).kept (f w.at).service w.made.first_port q v (flow_of same) (awaited same) led.0
        by (Begin p k v) at same = sym (ap asked (where_so_then (is_request w.made.first_port p v (moves.wants (f w.at))) (f w.at) (g w.at) (after (Begin p k v) at)).1)
        by (Call p k v) at same = sym (ap asked (where_so_then (is_request w.made.first_port p v (asked_by (moves.next (f w.at)))) (f w.at) (g w.at) (after (Call p k v) at)).1)
        by (Ask p k v) at same = sym (ap asked (where_so_then _ (f w.at) (g w.at) (after (Ask p k v) at)).1)
        by (Miss p) at same =
            let led = where_so_then (calls_at w.made.first_port (f w.at) p) (moves.after_answer (f w.at) 0) (g w.at) (after (Miss p) at) in
            absurd (own same p (ap port_of at) (ap is_of_owner at) (call_first (f w.at).kind (f w.at).arg (f w.at).kept (f w.at).service w.made.first_port p (flow_of same) led.0))
        by (End p k v) at same = absurd (own same p (ap port_of at) (ap is_of_owner at) (at_end (calls_at w.made.first_port (f w.at) p) refl (after (End p k v) at)))
          where
            at_end : (b : Bool) → calls_at w.made.first_port (f w.at) p ≡ b → cond b (Some (moves.after_answer (f w.at) v)) (cond (wants_at w.made.first_port (f w.at) p) (Some (moves.after_end (f w.at) v)) None) ≡ Some (g w.at) → p ≡ w.made.first_port
            at_end true is h = call_first (f w.at).kind (f w.at).arg (f w.at).kept (f w.at).service w.made.first_port p (flow_of same) is
            at_end false is h = want_first (f w.at).kind (f w.at).arg (f w.at).kept (f w.at).service w.made.first_port p (flow_of same) (where_so_then (wants_at w.made.first_port (f w.at) p) (moves.after_end (f w.at) v) (g w.at) h).0
        by (More p k v) at same = absurd (sends_no_more p k v (flow_of same) at)
        by (Hear p k v) at same = absurd (both_ways _ (waits_never (f w.at) (flow_of same) w.bounded) (where_so_then (moves.waits (f w.at)) (moves.after_answer (f w.at) v) (g w.at) (after (Hear p k v) at)).0)
        by _ at same = absurd (none-some _ (after _ at))

    owner_then : (q : ℕ) → owner t.config q ≡ owner s.config q
    owner_then q = ap (λ (c : Configuration). owner c q) same_config

    -- where the port was busy, and the event isn't its owner's there
    kept_on : (q : ℕ) → is_port_of_flow es q ≡ true → is_idle (exchange s q).phase ≡ false → (is_of_owner e ≡ true → q ≡ port_of e → ⊥) → asked (g (owner t.config q)) ≡ last_sent q (es ++ e ∷ [])
    kept_on q fl busy away = ap (λ i. asked (g i)) (owner_then q) ∙ asks_stay q fl busy away ∙ was.asking q fl busy ∙ sym (sent_stays q busy)

    -- what its owner begins or calls with is what it asks
    starts : (q : ℕ) → (v : ℕ) → w.at ≡ owner s.config q → g w.at ≡ f w.at → asked (f w.at) ≡ v → last_sent q (es ++ e ∷ []) ≡ v → asked (g (owner t.config q)) ≡ last_sent q (es ++ e ∷ [])
    starts q v owned same is sent = ap (λ i. asked (g i)) (owner_then q ∙ sym owned) ∙ ap asked same ∙ is ∙ sym sent

    asking_then : (q : ℕ) → is_port_of_flow es q ≡ true → is_idle (exchange t q).phase ≡ false → asked (g (owner t.config q)) ≡ last_sent q (es ++ e ∷ [])
    asking_then q fl busy = ⊎_elim
        (λ (same : q ≡ port_of e). by e refl here.legal same)
        (λ (other : q ≡ port_of e → ⊥). kept_on q fl (sym (ap (λ (x : Exchange). is_idle x.phase) (elsewhere other)) ∙ busy) (λ o h. other h))
        (cases_eq q (port_of e))
      where
        then_busy : is_idle (exchange_next s q e).phase ≡ false
        then_busy = sym (ap (λ (x : Exchange). is_idle x.phase) (exchange_then (λ x. x) es e here q)) ∙ busy

        elsewhere : (q ≡ port_of e → ⊥) → exchange t q ≡ exchange s q
        elsewhere other = exchange_then (λ x. x) es e here q ∙ passes e other
          where
            one : (z : Event) (p : ℕ) → (q ≡ p → ⊥) → cond (p == q) (exchange_by (service s (owner s.config q)) (exchange s q) z) (exchange s q) ≡ exchange s q
            one z p h = ap (λ b. cond b (exchange_by (service s (owner s.config q)) (exchange s q) z) (exchange s q)) (ne_eqb p q (λ same. h (sym same)))

            passes : (z : Event) → (q ≡ port_of z → ⊥) → exchange_next s q z ≡ exchange s q
            passes (Begin p k v) h = one (Begin p k v) p h
            passes (Call p k v) h = one (Call p k v) p h
            passes (Give p k v) h = one (Give p k v) p h
            passes (More p k v) h = one (More p k v) p h
            passes (Ask p k v) h = one (Ask p k v) p h
            passes (End p k v) h = one (End p k v) p h
            passes _ h = refl

        owned : (p : ℕ) (z : Event) → e ≡ z → is_doer s w.at z ≡ (owner s.config p == w.at) → q ≡ p → w.at ≡ owner s.config q
        owned p z at does same = sym (ap (owner s.config) same ∙ eqb-true (owner s.config p) w.at (sym does ∙ sym (ap (is_doer s w.at) at) ∙ w.does))

        flow_of : w.at ≡ owner s.config q → is_of_flow (f w.at).kind ≡ true
        flow_of same = ap (λ i. is_of_flow (f i).kind) same ∙ fl

        after : (z : Event) → e ≡ z → after_event w.made.first_port (f w.at) z ≡ Some (g w.at)
        after z at = sym (ap (after_event w.made.first_port (f w.at)) at) ∙ w.led

        sent_is : (z : Event) (v : ℕ) → e ≡ z → sent_next q (last_sent q es) z ≡ v → last_sent q (es ++ e ∷ []) ≡ v
        sent_is z v at h = sent_then (λ x. x) es e here q ∙ ap (sent_next q (last_sent q es)) at ∙ h

        not_owner : is_of_owner e ≡ false → is_of_owner e ≡ true → q ≡ port_of e → ⊥
        not_owner plain yes_ h = both_ways (is_of_owner e) plain yes_

        by : (z : Event) → e ≡ z → Legal s z → q ≡ port_of e → asked (g (owner t.config q)) ≡ last_sent q (es ++ e ∷ [])
        by (Begin p k v) at l same' =
            let same : q ≡ p = same' ∙ ap port_of at in
            let led = where_so_then (is_request w.made.first_port p v (moves.wants (f w.at))) (f w.at) (g w.at) (after (Begin p k v) at) in
            starts q v (owned p (Begin p k v) at refl same) (sym led.1) (begins_asked (f w.at).kind (f w.at).arg (f w.at).kept (f w.at).service w.made.first_port p v (flow_of (owned p (Begin p k v) at refl same)) led.0)
            (sent_is (Begin p k v) v at (ap (λ b. cond b v (last_sent q es)) (eq-eqb p q (sym same))))
        by (Call p k v) at l same' =
            let same : q ≡ p = same' ∙ ap port_of at in
            let led = where_so_then (is_request w.made.first_port p v (asked_by (moves.next (f w.at)))) (f w.at) (g w.at) (after (Call p k v) at) in
            starts q v (owned p (Call p k v) at refl same) (sym led.1) (calls_asked (f w.at).kind (f w.at).arg (f w.at).kept (f w.at).service w.made.first_port p v (flow_of (owned p (Call p k v) at refl same)) led.0)
            (sent_is (Call p k v) v at (ap (λ b. cond b v (last_sent q es)) (eq-eqb p q (sym same))))
        by (Miss p) at l same' =
            let same : q ≡ p = same' ∙ ap port_of at in
            absurd (both_ways (is_idle (exchange s q).phase) (sym (ap (λ z. is_idle (exchange_next s q z).phase) at) ∙ then_busy) (ap (λ i. is_idle (exchange s i).phase) same ∙ l.idle))
        by (Ask p k v) at l same' =
            let same : q ≡ p = same' ∙ ap port_of at in
            absurd (both_ways (is_in_more (exchange s q).phase) (was.none_replied q fl) (ap (λ i. is_in_more (exchange s i).phase) same ∙ l.in_more))
        by (End p k v) at l same' =
            let same : q ≡ p = same' ∙ ap port_of at in
            absurd (both_ways true (sym (ap (λ z. is_idle (exchange_next s q z).phase) at
            ∙ ap (λ b. is_idle (cond b (exchange_by (service s (owner s.config q)) (exchange s q) (End p k v)) (exchange s q)).phase) (eq-eqb p q (sym same))) ∙ then_busy) refl)
        by (Take p k v) at l same' = kept_on q fl (sym (ap (λ z. is_idle (exchange_next s q z).phase) at) ∙ then_busy) (not_owner (ap is_of_owner at))
        by (Hear p k v) at l same' = kept_on q fl (sym (ap (λ z. is_idle (exchange_next s q z).phase) at) ∙ then_busy) (not_owner (ap is_of_owner at))
        by (Give p k v) at l same' =
            let same : q ≡ p = same' ∙ ap port_of at in
            kept_on q fl (ap (λ i. is_idle (exchange s i).phase) same ∙ taken_busy s p here.traffic l.taken) (not_owner (ap is_of_owner at))
        by (More p k v) at l same' =
            absurd (sends_no_more p k v (sym (target_flows p (subst (λ z. is_doer s w.at z ≡ true) at w.does)) ∙ ap (is_port_of_flow es) (sym (same' ∙ ap port_of at)) ∙ fl) at)
        by _ at l same' = absurd (both_ways true (sym (ap is_of_change at) ∙ of_node) refl)

    node_values : Values (es ++ e ∷ [])
    node_values = record {
      none_replied = λ q fl. none_replied_then q (sym (same_port q) ∙ fl);
      waiting = λ q fl. waiting_then q (sym (same_port q) ∙ fl);
      serving = λ n v fl. serving_then n v (sym (ap is_of_flow (kind_then n)) ∙ fl);
      asking = λ q fl. asking_then q (sym (same_port q) ∙ fl);
      small = small_then;
    }

  -- ---- an event of the change

  module _ (change : is_of_change e ≡ true) where
    same_exchange : (q : ℕ) → exchange t q ≡ exchange s q
    same_exchange q = exchange_then (λ x. x) es e here q ∙ nothing_there s q e change

    same_sent : (q : ℕ) → last_sent q (es ++ e ∷ []) ≡ last_sent q es
    same_sent q = sent_then (λ x. x) es e here q ∙ by e change
      where
        by : (z : Event) → is_of_change z ≡ true → sent_next q (last_sent q es) z ≡ last_sent q es
        by (Begin p k v) h = absurd (both_ways false refl h)
        by (Call p k v) h = absurd (both_ways false refl h)
        by _ h = refl

    port_stays : (q : ℕ) → is_idle (exchange s q).phase ≡ false → is_port_of_flow (es ++ e ∷ []) q ≡ is_port_of_flow es q
    port_stays q busy =
        let low = busy_made s q here.traffic busy in
        let own = here.well.sound.ports q low in
        let owns : owner t.config q ≡ owner s.config q = ap (λ (x : State). owner x.config q) here.next ∙ owner_kept s.config (effect s e).config e (reconfigured s e here.legal) q low in
        ap (λ i. is_of_flow (g i).kind) owns ∙ ap (λ (x : NodeState). is_of_flow x.kind) (old_stays handed es e here run' change (owner s.config q) own.node own.made)

    not_replied : (q : ℕ) → is_port_of_flow (es ++ e ∷ []) q ≡ true → (b : Bool) → is_in_more (exchange s q).phase ≡ b → is_in_more (exchange s q).phase ≡ false
    not_replied q fl false is = is
    not_replied q fl true is = was.none_replied q (sym (port_stays q (more_busy (exchange s q).phase is)) ∙ fl)

    change_values : Values (es ++ e ∷ [])
    change_values = record {
      none_replied = λ q fl. ap (λ (x : Exchange). is_in_more x.phase) (same_exchange q) ∙ not_replied q fl (is_in_more (exchange s q).phase) refl;
      waiting = λ q fl h. waiting_then q (sym (port_stays q (asked_busy (exchange s q).phase (sym (ap (λ (x : Exchange). is_asked x.phase) (same_exchange q)) ∙ h))) ∙ fl) h;
      serving = λ n v fl is.
          let old : service s n ≡ Some v = sym (ap (λ b. cond b (service_by (service s n) e) (service s n)) (change_does s e n change)) ∙ sym (service_then n) ∙ is in
          let it = here.traffic.serving n v old in
          let live = (here.well.sound.targets v.port (record { node = n; provide = it.provide }) it.linked).live in
          let m = map_or_true (λ (x : Slot). x.live) (slot s.config n) live in
          ap served (old_stays handed es e here run' change n m.0 m.1) ∙ was.serving n v (ap (λ (x : NodeState). is_of_flow x.kind) (sym (old_stays handed es e here run' change n m.0 m.1)) ∙ fl) old ∙ sym (same_sent v.port);
      asking = λ q fl busy.
          let was_busy : is_idle (exchange s q).phase ≡ false = sym (ap (λ (x : Exchange). is_idle x.phase) (same_exchange q)) ∙ busy in
          let made = busy_made s q here.traffic was_busy in
          let p = here.well.sound.ports q made in
          let owns : owner t.config q ≡ owner s.config q = ap (λ (x : State). owner x.config q) here.next ∙ owner_kept s.config (effect s e).config e (reconfigured s e here.legal) q made in
          ap (λ i. asked (g i)) owns ∙ ap asked (old_stays handed es e here run' change (owner s.config q) p.node p.made) ∙ was.asking q (sym (port_stays q was_busy) ∙ fl) was_busy ∙ sym (same_sent q);
      small = small_then;
    }

  values_next : Values (es ++ e ∷ [])
  values_next = ⊎_elim
      (λ (change : is_of_change e ≡ true). change_values change)
      (λ (of_node : is_of_change e ≡ false). node_values of_node)
      (cases_Bool (is_of_change e))

module _ (handed : StatesAreHanded) where
  values_from : (done_ rest : List Event) → IsRun (done_ ++ rest) → HasFolds (done_ ++ rest) → ((before after : List Event) → done_ ++ rest ≡ before ++ after → AllLinked same_side (state_after before).config) → Values done_ → Values (done_ ++ rest)
  values_from done_ [] run folds apart was = subst Values (sym (append-nil done_)) was
  values_from done_ (e ∷ rest) run folds apart was =
      let all = append_assoc done_ (e ∷ []) rest in
      let at = at_place handed (done_ ++ e ∷ rest) run folds done_ rest e refl in
      let next = values_next handed done_ e (place done_ rest e run) at.0 at.1 (apart done_ (e ∷ rest) refl) was in
      subst Values all (values_from (done_ ++ e ∷ []) rest (subst (λ xs. IsRun xs) (sym all) run) (subst (λ xs. HasFolds xs) (sym all) folds) (λ before after is. apart before after (sym all ∙ is)) next)

  pub keep_values : (es : List Event) → IsRun es → HasFolds es → ((before after : List Event) → es ≡ before ++ after → AllLinked same_side (state_after before).config) → Values es
  keep_values es run folds apart = values_from [] es run folds apart nothing_sent
