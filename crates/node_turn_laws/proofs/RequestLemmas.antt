-- Which requests wait after an event of a node.
use Rattle.std.proofs.Common.{◌≡◌, ◌∙◌, ℕ, ◌+◌, Bool, true, false, cond, Option, Some, None, refl, sym, ap, ⊎_elim, not}
use Rattle.std.specs.Prelude.{◌==◌, ◌&&◌, option_and_then, option_map}
use Rattle.std.specs.Option.{option_map_or}
use Rattle.std.proofs.lemmas.Bool.{and_right, both_ways, cases_eq, eq-eqb, eqb-true, false_from_ne_true, ne_eqb}
use Rattle.base.proofs.OptionLaws.{None-from_is_none, Some-from_is_some}
use Rattle.config_graph.specs.declared.node.Target.{Target}
use Rattle.quiesce_word.proofs.PhaseLaws.{answered_not_asked, asked_busy}
use Rattle.quiesce_word.specs.Phases.{is_asked, is_idle, is_in_more}
use Rattle.quiesce_core.proofs.AlterLaws.{exchanges_next, services_next}
use Rattle.quiesce_core.proofs.PortEventLaws.{served_there}
use Rattle.quiesce_core.proofs.RunLaws.{node_events_keep_the_configuration}
use Rattle.quiesce_core.proofs.StateLaws.{is_taken_if, taken_busy, target_service_is}
use Rattle.quiesce_core.specs.Alters.{exchange_next, service_next}
use Rattle.quiesce_core.specs.Doers.{is_of_change}
use Rattle.quiesce_core.specs.Effect.{effect}
use Rattle.quiesce_core.specs.Legal.{Legal}
use Rattle.quiesce_core.specs.Rules.{is_taken}
use Rattle.quiesce_core.specs.Runs.{is_doer}
use Rattle.quiesce_core.specs.State.{Configuration, State, exchange, service, target, target_service}
use Rattle.quiesce_core.specs.Traffic.{IsConsistent}
use Rattle.quiesce_core.specs.WellFormed.{IsWellFormed}
use Rattle.quiesce_core.specs.declared.event.Event.{Event}
use Rattle.quiesce_core.specs.declared.event.Event.TheVariants.{Begin, Call, Take, Give, End, More, Ask, Hear, Miss, Close, Reopen, Make, Link, Unlink, Remove}
use Rattle.quiesce_core.specs.declared.state.Exchange.{Exchange}
use Rattle.quiesce_core.specs.declared.state.Service.{Service}
use Rattle.node_turn_laws.specs.Requests.{waits}

-- whether a service is that of the port
abbrev pub is_of : ℕ → Option Service → Bool
is_of p o = option_map_or (λ (v : Service). v.port == p) o false

taken_at : (s : State) (p : ℕ) (t : Target) → target s.config p ≡ Some t → is_taken s p ≡ is_of p (service s t.node)
taken_at s p t e = ap (is_of p) (target_service_is s p t e)

taken_nowhere : (s : State) (p : ℕ) → target s.config p ≡ None → is_taken s p ≡ false
taken_nowhere s p e = ap (λ o. is_of p (option_and_then (λ (t : Target). service s t.node) o)) e

pub same_taken : (s st : State) (p : ℕ) → target st.config p ≡ target s.config p → ((n : ℕ) → is_of p (service st n) ≡ is_of p (service s n)) → is_taken st p ≡ is_taken s p
same_taken s st p to served = by (target s.config p) refl
  where
    by : (o : Option Target) → target s.config p ≡ o → is_taken st p ≡ is_taken s p
    by None e = taken_nowhere st p (to ∙ e) ∙ sym (taken_nowhere s p e)
    by (Some t) e = taken_at st p t (to ∙ e) ∙ served t.node ∙ sym (taken_at s p t e)

-- ---- services, by an event

either_of : (p : ℕ) (b : Bool) (x y : Option Service) → (b ≡ true → is_of p x ≡ is_of p y) → is_of p (cond b x y) ≡ is_of p y
either_of p true x y h = h refl
either_of p false x y h = refl

one_more_call : (p : ℕ) (o : Option Service) → is_of p (option_map (λ (w : Service). record w { calls = w.calls + 1 }) o) ≡ is_of p o
one_more_call p None = refl
one_more_call p (Some v) = refl

one_more_message : (p : ℕ) (o : Option Service) → is_of p (option_map (λ (w : Service). record w { mores = w.mores + 1; heard = false }) o) ≡ is_of p o
one_more_message p None = refl
one_more_message p (Some v) = refl

now_heard : (p : ℕ) (o : Option Service) → is_of p (option_map (λ (w : Service). record w { heard = true }) o) ≡ is_of p o
now_heard p None = refl
now_heard p (Some v) = refl

of_one_port : (p q : ℕ) (o : Option Service) → is_of q o ≡ true → (q ≡ p → ⊥) → is_of p o ≡ false
of_one_port p q None h other = refl
of_one_port p q (Some v) h other = ne_eqb v.port p (λ same. other (sym (eqb-true v.port q h) ∙ same))

-- the event is about port q: it is taken up there, or given back
services_of_others : (s : State) (e : Event) → IsWellFormed s → (l : Legal s e) → (p : ℕ)
    → ((n : ℕ) → is_of p (service_next s n e) ≡ is_of p (service s n)) → is_of_change e ≡ false → is_taken (effect s e) p ≡ is_taken s p
services_of_others s e w l p served node =
    same_taken s (effect s e) p (ap (λ (c : Configuration). target c p) (node_events_keep_the_configuration s e node))
    (λ n. ap (is_of p) (services_next s e w l n) ∙ served n)

-- ---- what waits

both : (st : State) (p : ℕ) (a b : Bool) → is_asked (exchange st p).phase ≡ a → is_taken st p ≡ b → waits st p ≡ (a && not b)
both st p a b asked taken = λ i. asked i && not (taken i)

pub unasked : (st : State) (p : ℕ) → is_asked (exchange st p).phase ≡ false → waits st p ≡ false
unasked st p h = λ i. h i && not (is_taken st p)

pub taken_already : (st : State) (p : ℕ) → is_taken st p ≡ true → waits st p ≡ false
taken_already st p h = (λ i. is_asked (exchange st p).phase && not (h i)) ∙ and_right (is_asked (exchange st p).phase) false refl

same_phase : (s st : State) (p : ℕ) → exchange st p ≡ exchange s p → is_taken st p ≡ is_taken s p → waits st p ≡ waits s p
same_phase s st p x taken = both st p (is_asked (exchange s p).phase) (is_taken s p) (ap (λ (y : Exchange). is_asked y.phase) x) taken

-- what waits at a port after an event of a node
abbrev pub waits_after : State → ℕ → Event → Bool
waits_after s p (Begin q k v) = cond (q == p) true (waits s p)
waits_after s p (Call q k v) = cond (q == p) true (waits s p)
waits_after s p (Take q k v) = cond (q == p) false (waits s p)
waits_after s p _ = waits s p

module _ (s : State) (w : IsWellFormed s) (k : IsConsistent s) (p : ℕ) where
  elsewhere : (e : Event) (q : ℕ) → (l : Legal s e) → exchange_next s p e ≡ exchange s p → is_taken (effect s e) p ≡ is_taken s p → waits (effect s e) p ≡ waits s p
  elsewhere e q l same taken = same_phase s (effect s e) p (exchanges_next s e w l p ∙ same) taken

  untaken_if_idle : is_idle (exchange s p).phase ≡ true → is_taken s p ≡ false
  untaken_if_idle idle = false_from_ne_true (is_taken s p) (λ taken. both_ways (is_idle (exchange s p).phase) (taken_busy s p k taken) idle)

  pub waits_next : (e : Event) → Legal s e → is_of_change e ≡ false → waits (effect s e) p ≡ waits_after s p e
  waits_next (Begin q i v) l node =
      let e : Event = Begin q i v in
      let taken = services_of_others s e w l p (λ n. either_of p (is_doer s n e) (service s n) (service s n) (λ _. refl)) node in
      ⊎_elim
      (λ (same : q ≡ p). rw (eq-eqb q p same)
      (both (effect s e) p true false
      (ap (λ (x : Exchange). is_asked x.phase) (exchanges_next s e w l p) ∙ rw (eq-eqb q p same) refl)
      (taken ∙ untaken_if_idle (ap (λ j. is_idle (exchange s j).phase) (sym same) ∙ l.idle))))
      (λ (other : q ≡ p → ⊥). rw (ne_eqb q p other) (elsewhere e q l (rw (ne_eqb q p other) refl) taken))
      (cases_eq q p)
  waits_next (Call q i v) l node =
      let e : Event = Call q i v in
      let taken = services_of_others s e w l p (λ n. either_of p (is_doer s n e) (option_map (λ (u : Service). record u { calls = u.calls + 1 }) (service s n)) (service s n) (λ _. one_more_call p (service s n))) node in
      ⊎_elim
      (λ (same : q ≡ p). rw (eq-eqb q p same)
      (both (effect s e) p true false
      (ap (λ (x : Exchange). is_asked x.phase) (exchanges_next s e w l p) ∙ rw (eq-eqb q p same) refl)
      (taken ∙ untaken_if_idle (ap (λ j. is_idle (exchange s j).phase) (sym same) ∙ l.idle))))
      (λ (other : q ≡ p → ⊥). rw (ne_eqb q p other) (elsewhere e q l (rw (ne_eqb q p other) refl) taken))
      (cases_eq q p)
  waits_next (Miss q) l node =
      let e : Event = Miss q in
      let taken = services_of_others s e w l p (λ n. either_of p (is_doer s n e) (option_map (λ (u : Service). record u { calls = u.calls + 1 }) (service s n)) (service s n) (λ _. one_more_call p (service s n))) node in
      elsewhere e q l refl taken
  waits_next (Take q i v) l node =
      let e : Event = Take q i v in
      let new : Option Service = Some (record { port = q; calls = 0; mores = 0; heard = true }) in
      ⊎_elim
      (λ (same : q ≡ p). rw (eq-eqb q p same) (taken_already (effect s e) p (at_target e l same)))
      (λ (other : q ≡ p → ⊥). rw (ne_eqb q p other)
      (elsewhere e q l refl
      (services_of_others s e w l p
      (λ n. either_of p (is_doer s n e) new (service s n) (λ doer. ne_eqb q p other ∙ sym (ap (is_of p) (sym (served_there s q n doer) ∙ None-from_is_none (target_service s q) l.free)))) node)))
      (cases_eq q p)
    where
      at_target : (e : Event) (l : Legal s (Take q i v)) → q ≡ p → is_taken (effect s (Take q i v)) p ≡ true
      at_target e l same =
          let to = Some-from_is_some (target s.config q) (k.linked q (asked_busy (exchange s q).phase l.asked)) in
          let doer : is_doer s to.0.node (Take q i v) ≡ true =
          ap (λ o. option_map_or (λ m. m == to.0.node) (option_map (λ (t : Target). t.node) o) false) to.1 ∙ eq-eqb to.0.node to.0.node refl in
          is_taken_if (effect s (Take q i v)) p to.0 (record { port = q; calls = 0; mores = 0; heard = true })
          (ap (λ (c : Configuration). target c p) (node_events_keep_the_configuration s (Take q i v) refl) ∙ ap (target s.config) (sym same) ∙ to.1)
          (services_next s (Take q i v) w l to.0.node ∙ ap (λ b. cond b (Some (record { port = q; calls = 0; mores = 0; heard = true })) (service s to.0.node)) doer)
          same
  waits_next (Give q i v) l node =
      let e : Event = Give q i v in
      ⊎_elim
      (λ (same : q ≡ p).
      unasked (effect s e) p (ap (λ (x : Exchange). is_asked x.phase) (exchanges_next s e w l p) ∙ rw (eq-eqb q p same) refl)
      ∙ sym (taken_already s p (ap (is_taken s) (sym same) ∙ l.taken)))
      (λ (other : q ≡ p → ⊥).
      elsewhere e q l (rw (ne_eqb q p other) refl)
      (services_of_others s e w l p
      (λ n. either_of p (is_doer s n e) None (service s n) (λ doer. sym (of_one_port p q (service s n) (ap (is_of q) (sym (served_there s q n doer)) ∙ l.taken) other))) node))
      (cases_eq q p)
  waits_next (More q i v) l node =
      let e : Event = More q i v in
      let taken = services_of_others s e w l p (λ n. either_of p (is_doer s n e) (option_map (λ (u : Service). record u { mores = u.mores + 1; heard = false }) (service s n)) (service s n) (λ _. one_more_message p (service s n))) node in
      ⊎_elim
      (λ (same : q ≡ p).
      unasked (effect s e) p (ap (λ (x : Exchange). is_asked x.phase) (exchanges_next s e w l p) ∙ rw (eq-eqb q p same) refl)
      ∙ sym (taken_already s p (ap (is_taken s) (sym same) ∙ l.taken)))
      (λ (other : q ≡ p → ⊥). elsewhere e q l (rw (ne_eqb q p other) refl) taken)
      (cases_eq q p)
  waits_next (Ask q i v) l node =
      let e : Event = Ask q i v in
      let taken = services_of_others s e w l p (λ n. either_of p (is_doer s n e) (service s n) (service s n) (λ _. refl)) node in
      ⊎_elim
      (λ (same : q ≡ p).
      let more_ = ap (λ j. is_in_more_at j) (sym same) ∙ l.in_more in
      taken_already (effect s e) p (taken ∙ k.taken p more_) ∙ sym (taken_already s p (k.taken p more_)))
      (λ (other : q ≡ p → ⊥). elsewhere e q l (rw (ne_eqb q p other) refl) taken)
      (cases_eq q p)
    where
      is_in_more_at : ℕ → Bool
      is_in_more_at j = is_in_more (exchange s j).phase
  waits_next (Hear q i v) l node =
      let e : Event = Hear q i v in
      let taken = services_of_others s e w l p (λ n. either_of p (is_doer s n e) (option_map (λ (u : Service). record u { heard = true }) (service s n)) (service s n) (λ _. now_heard p (service s n))) node in
      elsewhere e q l refl taken
  waits_next (End q i v) l node =
      let e : Event = End q i v in
      let taken = services_of_others s e w l p (λ n. either_of p (is_doer s n e) (service s n) (service s n) (λ _. refl)) node in
      ⊎_elim
      (λ (same : q ≡ p).
      unasked (effect s e) p (ap (λ (x : Exchange). is_asked x.phase) (exchanges_next s e w l p) ∙ rw (eq-eqb q p same) refl)
      ∙ sym (unasked s p (ap (λ j. is_asked (exchange s j).phase) (sym same) ∙ answered_not_asked (exchange s q).phase l.answered)))
      (λ (other : q ≡ p → ⊥). elsewhere e q l (rw (ne_eqb q p other) refl) taken)
      (cases_eq q p)
  waits_next (Close q) l node = absurd (both_ways true node refl)
  waits_next (Reopen q) l node = absurd (both_ways true node refl)
  waits_next (Make n made from) l node = absurd (both_ways true node refl)
  waits_next (Link q n x) l node = absurd (both_ways true node refl)
  waits_next (Unlink q) l node = absurd (both_ways true node refl)
  waits_next (Remove n) l node = absurd (both_ways true node refl)
