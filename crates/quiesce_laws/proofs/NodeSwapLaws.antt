-- Events of different nodes: they go by different places, so each may be done behind the other, and either order comes
-- to the same.
use Rattle.std.proofs.Common.{◌≡◌, ◌∙◌, ℕ, Bool, true, false, cond, length, Option, Some, None, refl, sym, ap, ap₂, subst, ⊎_elim}
use Rattle.std.specs.Prelude.{◌==◌}
use Rattle.std.specs.Option.{option_map_or}
use Rattle.std.proofs.lemmas.Bool.{both_ways, cases_eq}
use Rattle.std.proofs.lemmas.List.{ext_get_or}
use Rattle.std.proofs.lemmas.Option.{same_Some}
use Rattle.config_graph.specs.declared.node.Target.{Target}
use Rattle.quiesce_word.specs.Phases.{is_asked}
use Rattle.quiesce_core.specs.declared.event.Event.{Event}
use Rattle.quiesce_core.specs.declared.event.Event.TheVariants.{Call}
use Rattle.quiesce_core.specs.declared.state.Exchange.{Exchange}
use Rattle.quiesce_core.specs.declared.state.Service.{Service}
use Rattle.quiesce_core.specs.State.{Configuration, State, Traffic, exchange, fresh_exchange, owner, service, target}
use Rattle.quiesce_core.specs.Alters.{exchange_by, exchange_next, is_message_at, service_by, service_next}
use Rattle.quiesce_core.specs.Doers.{is_of_change, is_of_owner}
use Rattle.quiesce_core.specs.Effect.{effect}
use Rattle.quiesce_core.specs.Legal.{Legal}
use Rattle.quiesce_core.specs.Runs.{doer, is_doer}
use Rattle.quiesce_core.specs.Traffic.{IsConsistent}
use Rattle.quiesce_core.specs.WellFormed.{IsWellFormed}
use Rattle.quiesce_core.proofs.AlterLaws.{exchanges_next, services_next}
use Rattle.quiesce_core.proofs.LegalLaws.{allowed, legal}
use Rattle.quiesce_core.proofs.ReachLaws.{owner_of}
use Rattle.quiesce_core.proofs.RunLaws.{node_events_keep_the_configuration}
use Rattle.quiesce_core.proofs.SoundnessLaws.{well_formed_next}
use Rattle.quiesce_laws.specs.Independence.{AreIndependent, MayBeDoneBy}
use Rattle.quiesce_laws.proofs.SwapDoerLaws.{by_owner, by_target, doer_alike, nodes_do_no_change, one_doer, port_of, tested}
use Rattle.quiesce_laws.proofs.TurnLemmas.{exchange_stays, owners_turn, service_stays, targets_turn, within_stays}
use Rattle.quiesce_laws.proofs.ViewLemmas.{owner_may, target_may}

-- a state is what is read of it
pub same_state : (s t : State) → IsWellFormed s → IsWellFormed t → s.config ≡ t.config → ((n : ℕ) → service s n ≡ service t n)
    → ((p : ℕ) → exchange s p ≡ exchange t p) → s ≡ t
same_state s t w x config services exchanges =
    let lists : s.traffic.services ≡ t.traffic.services =
    ext_get_or None s.traffic.services t.traffic.services (w.services ∙ ap (λ (c : Configuration). length c.slots) config ∙ sym x.services) (λ n below. services n) in
    let more_ : s.traffic.exchanges ≡ t.traffic.exchanges =
    ext_get_or fresh_exchange s.traffic.exchanges t.traffic.exchanges (w.exchanges ∙ ap (λ (c : Configuration). length c.gates) config ∙ sym x.exchanges) (λ p below. exchanges p) in
    ap₂ (λ (c : Configuration) (u : Traffic). record { config = c; traffic = u }) config (ap₂ (λ a b. record { services = a; exchanges = b }) lists more_)

-- what an event makes of an exchange goes by the owner's service where the owner does it
by_alike : (x y : Option Service) (z : Exchange) (f : Event) → (is_of_owner f ≡ true → x ≡ y) → exchange_by x z f ≡ exchange_by y z f
by_alike x y z (Call p k v) same = ap (λ o. exchange_by o z (Call p k v)) (same refl)
by_alike x y z _ same = refl

pub by_alike_all : (x y : Option Service) (z w : Exchange) (f : Event) → (is_of_owner f ≡ true → x ≡ y) → z ≡ w → exchange_by x z f ≡ exchange_by y w f
by_alike_all x y z w f same at = by_alike x y z f same ∙ ap (λ a. exchange_by y a f) at

-- ---- what is known of the two

record AreApart (s : State) (e f : Event) (i j : ℕ) : Type 0 where
  formed : IsWellFormed s
  consistent : IsConsistent s
  legal_e : Legal s e
  legal_f : Legal s f
  node_e : is_of_change e ≡ false
  node_f : is_of_change f ≡ false
  does_e : is_doer s i e ≡ true
  does_f : is_doer s j f ≡ true
  two : i ≡ j → ⊥

turned : {s : State} {e f : Event} {i j : ℕ} → AreApart s e f i j → AreApart s f e j i
turned a = record {
  formed = a.formed;
  consistent = a.consistent;
  legal_e = a.legal_f;
  legal_f = a.legal_e;
  node_e = a.node_f;
  node_f = a.node_e;
  does_e = a.does_f;
  does_f = a.does_e;
  two = λ h. a.two (sym h);
}

-- what holds of the first holds of the second, so each lemma is of one of them
module _ {s : State} {e f : Event} {i j : ℕ} (a : AreApart s e f i j) where
  -- they are of different ports
  ports_differ : port_of e ≡ port_of f → ⊥
  ports_differ same = by (is_of_owner e) (is_of_owner f) refl refl
    where
      by : (b d : Bool) → is_of_owner e ≡ b → is_of_owner f ≡ d → ⊥
      by true true oe of_ = a.two (sym (by_owner s i e oe a.does_e) ∙ ap (λ p. owner s.config p) same ∙ by_owner s j f of_ a.does_f)
      by false false oe of_ =
          let te = by_target s i e a.node_e oe a.does_e in
          let tf = by_target s j f a.node_f of_ a.does_f in
          a.two (sym te.2 ∙ ap (λ (t : Target). t.node) (same_Some te.0 tf.0 (sym te.1 ∙ ap (λ p. target s.config p) same ∙ tf.1)) ∙ tf.2)
      by true false oe of_ =
          both_ways (is_asked (exchange s (port_of e)).phase) (owners_turn s e oe a.legal_e)
          (ap (λ p. is_asked (exchange s p).phase) same ∙ targets_turn s f a.consistent a.node_f of_ a.legal_f)
      by false true oe of_ =
          both_ways (is_asked (exchange s (port_of f)).phase) (owners_turn s f of_ a.legal_f)
          (ap (λ p. is_asked (exchange s p).phase) (sym same) ∙ targets_turn s e a.consistent a.node_e oe a.legal_e)

  kept : (effect s e).config ≡ s.config
  kept = node_events_keep_the_configuration s e a.node_e

  formed_then : IsWellFormed (effect s e)
  formed_then = well_formed_next s e a.formed a.legal_e

  -- what the first leaves to the second
  there : exchange (effect s e) (port_of f) ≡ exchange s (port_of f)
  there = exchange_stays s e a.formed a.legal_e (port_of f) ports_differ

  other_does : is_doer s j e ≡ false
  other_does = one_doer s i j e a.does_e a.two

  served : (n : ℕ) → n ≡ j → service (effect s e) n ≡ service s n
  served n is = service_stays s e a.formed a.legal_e n (ap (λ m. is_doer s m e) is ∙ other_does)

  -- so it may be done still
  legal_still : Legal (effect s e) f
  legal_still = subst (λ c. Legal (record { config = c; traffic = (effect s e).traffic }) f) (sym kept) (by (is_of_owner f) refl)
    where
      by : (b : Bool) → is_of_owner f ≡ b → Legal (record { config = s.config; traffic = (effect s e).traffic }) f
      by true o = owner_may s.config s.traffic (effect s e).traffic f o there (served (owner s.config (port_of f)) (by_owner s j f o a.does_f)) a.legal_f
      by false o =
          let to = by_target s j f a.node_f o a.does_f in
          let at : (d : Target) → target s.config (port_of f) ≡ Some d → d.node ≡ j =
          λ d leads. ap (λ (x : Target). x.node) (same_Some d to.0 (sym leads ∙ to.1)) ∙ to.2 in
          target_may s.config s.traffic (effect s e).traffic f a.node_f o there (λ d leads. served d.node (at d leads))
          (λ d leads q is. within_stays s e a.formed a.consistent a.legal_e i a.does_e q (λ h.
          a.two (sym h ∙ owner_of s.config a.formed.sound d.node q is ∙ at d leads))) a.legal_f

  doer_still : doer (effect s e) f ≡ doer s f
  doer_still = doer_alike s (effect s e) f a.node_f (ap (λ c. owner c (port_of f)) kept) (ap (λ c. target c (port_of f)) kept)

  does_still : (n : ℕ) → is_doer (effect s e) n f ≡ is_doer s n f
  does_still n = ap (λ o. option_map_or (λ m. m == n) o false) doer_still

  -- and makes of its own port what it would have made before
  made_there : (q : ℕ) → port_of f ≡ q → exchange (effect (effect s e) f) q ≡ exchange_next s q f
  made_there q at =
      let here : exchange (effect s e) q ≡ exchange s q = exchange_stays s e a.formed a.legal_e q (λ h. ports_differ (h ∙ sym at)) in
      let by_it : is_of_owner f ≡ true → service (effect s e) (owner (effect s e).config q) ≡ service s (owner s.config q) =
      λ o. ap (λ c. service (effect s e) (owner c q)) kept ∙ served (owner s.config q) (ap (λ p. owner s.config p) (sym at) ∙ by_owner s j f o a.does_f) in
      exchanges_next (effect s e) f formed_then legal_still q
      ∙ ap₂ (λ x y. cond (is_message_at q f) x y)
      (by_alike_all (service (effect s e) (owner (effect s e).config q)) (service s (owner s.config q)) (exchange (effect s e) q) (exchange s q) f by_it here) here

  -- another port has what the first left there
  passed_there : (q : ℕ) → (port_of f ≡ q → ⊥) → exchange (effect (effect s e) f) q ≡ exchange (effect s e) q
  passed_there q other = exchange_stays (effect s e) f formed_then legal_still q other

  -- the same of services: of a node that doesn't do the first, and of one that doesn't do the second
  made_in : (n : ℕ) → (i ≡ n → ⊥) → service (effect (effect s e) f) n ≡ service_next s n f
  made_in n other =
      services_next (effect s e) f formed_then legal_still n
      ∙ ap₂ (λ b v. cond b (service_by v f) v) (does_still n) (service_stays s e a.formed a.legal_e n (one_doer s i n e a.does_e other))

  passed_in : (n : ℕ) → (j ≡ n → ⊥) → service (effect (effect s e) f) n ≡ service (effect s e) n
  passed_in n other = service_stays (effect s e) f formed_then legal_still n (does_still n ∙ one_doer s j n f a.does_f other)

-- ---- both

both_at : {s : State} {e f : Event} {i j : ℕ} → AreApart s e f i j → (q : ℕ) → exchange (effect (effect s e) f) q ≡ exchange (effect (effect s f) e) q
both_at {s} {e} {f} a q = ⊎_elim
    (λ (at : port_of f ≡ q).
    made_there a q at ∙ sym (passed_there (turned a) q (λ h. ports_differ a (h ∙ sym at)) ∙ exchanges_next s f a.formed a.legal_f q))
    (λ (other : port_of f ≡ q → ⊥). ⊎_elim
    (λ (at : port_of e ≡ q). passed_there a q other ∙ exchanges_next s e a.formed a.legal_e q ∙ sym (made_there (turned a) q at))
    (λ (neither : port_of e ≡ q → ⊥).
    passed_there a q other ∙ exchange_stays s e a.formed a.legal_e q neither
    ∙ sym (passed_there (turned a) q neither ∙ exchange_stays s f a.formed a.legal_f q other))
    (cases_eq (port_of e) q))
    (cases_eq (port_of f) q)

both_in : {s : State} {e f : Event} {i j : ℕ} → AreApart s e f i j → (n : ℕ) → service (effect (effect s e) f) n ≡ service (effect (effect s f) e) n
both_in {s} {e} {f} {i} {j} a n = ⊎_elim
    (λ (is : n ≡ j).
    made_in a n (λ h. a.two (h ∙ is)) ∙ sym (passed_in (turned a) n (λ h. a.two (h ∙ is)) ∙ services_next s f a.formed a.legal_f n))
    (λ (other : n ≡ j → ⊥).
    passed_in a n (λ h. other (sym h)) ∙ services_next s e a.formed a.legal_e n ∙ sym (made_in (turned a) n (λ h. other (sym h))))
    (cases_eq n j)

kept_by_both : {s : State} {e f : Event} {i j : ℕ} → AreApart s e f i j → (effect (effect s e) f).config ≡ s.config
kept_by_both {s} {e} {f} a = node_events_keep_the_configuration (effect s e) f a.node_f ∙ kept a

one_state : {s : State} {e f : Event} {i j : ℕ} → AreApart s e f i j → effect (effect s e) f ≡ effect (effect s f) e
one_state {s} {e} {f} a = same_state (effect (effect s e) f) (effect (effect s f) e)
    (well_formed_next (effect s e) f (formed_then a) (legal_still a))
    (well_formed_next (effect s f) e (formed_then (turned a)) (legal_still (turned a)))
    (kept_by_both a ∙ sym (kept_by_both (turned a))) (both_in a) (both_at a)

-- so they are independent
pub nodes_are_independent : (s : State) (i j : ℕ) (e f : Event) → IsWellFormed s → IsConsistent s → MayBeDoneBy s i e → MayBeDoneBy s j f → (i ≡ j → ⊥)
    → AreIndependent s e f
nodes_are_independent s i j e f w c m n two =
    let a : AreApart s e f i j = record {
      formed = w;
      consistent = c;
      legal_e = legal s e m.allowed;
      legal_f = legal s f n.allowed;
      node_e = nodes_do_no_change s i e m.done_by_it;
      node_f = nodes_do_no_change s j f n.done_by_it;
      does_e = tested s i e m.done_by_it;
      does_f = tested s j f n.done_by_it;
      two = two;
    } in
    record {
      second_behind = allowed (effect s e) f (legal_still a);
      first_behind = allowed (effect s f) e (legal_still (turned a));
      second_doer = doer_still a;
      first_doer = doer_still (turned a);
      one_state = one_state a;
    }
