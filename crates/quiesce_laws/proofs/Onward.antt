-- Where a transaction is open, an event of an open transaction is possible: of its own, or down the chain of calls of one that
-- its target services.
use Rattle.std.proofs.Common.{◌≡◌, ℕ, zero, suc, true, false, not, List, length, Option, Some, None, refl, ap, ◌∙◌, subst, ⊎_elim}
use Rattle.std.specs.Prelude.{◌==◌, ◌⊎◌, is_none}
use Rattle.std.specs.List.{list_any, list_all}
use Rattle.std.proofs.lemmas.Bool.{and_from, both_ways, cases_Bool, eq-eqb, false_from_ne_true, not_from_false, or_cases, true_from_ne_false}
use Rattle.config_graph.specs.declared.node.Target.{Target}
use Rattle.quiesce_core.specs.declared.event.Event.{Event}
use Rattle.quiesce_core.specs.declared.event.Event.TheVariants.{Take, Give, End, Ask, Hear}
use Rattle.quiesce_core.specs.declared.state.Service.{Service}
use Rattle.quiesce_core.specs.State.{State, owner, target, provision, ports_of, depends, exchange, service}
use Rattle.quiesce_word.specs.Phases.{is_idle, is_asked, is_answered, is_in_more}
use Rattle.quiesce_core.specs.Reach.{can_walk}
use Rattle.quiesce_core.specs.Rules.{calls_have_ended, is_called_within, was_heard, denial}
use Rattle.quiesce_core.specs.Runs.{IsRun, state_after}
use Rattle.quiesce_core.specs.WellFormed.{IsWellFormed}
use Rattle.quiesce_core.specs.Traffic.{IsConsistent}
use Rattle.quiesce_core.proofs.CycleLaws.{PassesOf, any_of, of_any, of_all, walk_to, no_walk}
use Rattle.base.proofs.OptionLaws.{map_or_true, map_or_at}
use Rattle.quiesce_core.proofs.ReachLaws.{owner_of}
use Rattle.quiesce_core.proofs.LegalLaws.{allowed}
use Rattle.quiesce_core.proofs.RunLaws.{runs_are_well_formed, runs_are_consistent}
use Rattle.quiesce_laws.specs.Advances.{is_advance}
use Rattle.quiesce_laws.specs.Drain.{Possible}
use Rattle.quiesce_laws.proofs.Busy.{busy_phases, busy_target, untaken_if}
use Rattle.quiesce_core.proofs.StabilityLaws.{busy_is_live}
use Rattle.quiesce_core.proofs.StateLaws.{is_taken_if, target_service_is}
use Rattle.quiesce_word.proofs.PhaseLaws.{asked_busy, more_busy, serving_busy, answered_busy}

ends : (s : State) (p : ℕ) → IsWellFormed s → IsConsistent s → is_answered (exchange s p).phase ≡ true → Possible s
ends s p w k h = record {
  event = End p (exchange s p).serial (exchange s p).value;
  advances = refl;
  onward = refl;
  allowed = allowed s (End p (exchange s p).serial (exchange s p).value) (record {
    live = busy_is_live s p k (answered_busy (exchange s p).phase h);
    answered = h;
    message = and_from ((exchange s p).serial == (exchange s p).serial) ((exchange s p).value == (exchange s p).value) (eq-eqb (exchange s p).serial (exchange s p).serial refl) (eq-eqb (exchange s p).value (exchange s p).value refl);
  });
  between_calls = refl;
}

asks : (s : State) (p : ℕ) → IsWellFormed s → IsConsistent s → is_in_more (exchange s p).phase ≡ true → Possible s
asks s p w k h = record {
  event = Ask p (exchange s p).serial 0;
  advances = refl;
  onward = refl;
  allowed = allowed s (Ask p (exchange s p).serial 0) (record {
    live = busy_is_live s p k (more_busy (exchange s p).phase h);
    in_more = h;
    serial = eq-eqb (exchange s p).serial (exchange s p).serial refl;
    value = refl;
  });
  between_calls = refl;
}

takes : (s : State) (p : ℕ) (t : Target) → IsWellFormed s → IsConsistent s → is_asked (exchange s p).phase ≡ true → target s.config p ≡ Some t → service s t.node ≡ None → Possible s
takes s p t w k h e free = record {
  event = Take p (exchange s p).serial (exchange s p).value;
  advances = refl;
  onward = refl;
  allowed = allowed s (Take p (exchange s p).serial (exchange s p).value) (record {
    live = busy_is_live s p k (asked_busy (exchange s p).phase h);
    asked = h;
    untaken = ap not (untaken_if s p t e (λ v f same. cc (free, f)));
    free = ap is_none (target_service_is s p t e ∙ free);
    message = and_from ((exchange s p).serial == (exchange s p).serial) ((exchange s p).value == (exchange s p).value) (eq-eqb (exchange s p).serial (exchange s p).serial refl) (eq-eqb (exchange s p).value (exchange s p).value refl);
  });
  between_calls = refl;
}

-- the service of a port by its target
record Served (s : State) (q : ℕ) (t : Target) (v : Service) : Type 0 where
  leads : target s.config q ≡ Some t
  serviced : service s t.node ≡ Some v
  of_port : v.port ≡ q

-- each of its calls has ended
none_called : (s : State) (q : ℕ) (t : Target) (v : Service) → Served s q t v → list_any (is_called_within s q) (ports_of s.config t.node) ≡ false → calls_have_ended s q ≡ true
none_called s q t v on none_ =
    map_or_at (λ (u : Target). list_all (λ i. not (is_called_within s q i)) (ports_of s.config u.node)) (target s.config q) true t on.leads
    ∙ of_all s.config t.node (λ i. not (is_called_within s q i)) (λ i owned. not_from_false (is_called_within s q i) (false_from_ne_true (is_called_within s q i)
    (λ called. both_ways (list_any (is_called_within s q) (ports_of s.config t.node)) none_ (of_any s.config t.node (is_called_within s q) i owned called))))

hears : (s : State) (q : ℕ) (t : Target) (v : Service) → IsWellFormed s → IsConsistent s → Served s q t v → is_asked (exchange s q).phase ≡ true → v.heard ≡ false
    → list_any (is_called_within s q) (ports_of s.config t.node) ≡ false → Possible s
hears s q t v w k on h unheard none_ = record {
  event = Hear q (exchange s q).serial (exchange s q).value;
  advances = refl;
  onward = refl;
  allowed = allowed s (Hear q (exchange s q).serial (exchange s q).value) (record {
    live = busy_is_live s q k (asked_busy (exchange s q).phase h);
    asked = h;
    taken = is_taken_if s q t v on.leads on.serviced on.of_port;
    unheard = ap (λ o. not (was_heard o)) (target_service_is s q t on.leads ∙ on.serviced) ∙ ap not unheard;
    message = and_from ((exchange s q).serial == (exchange s q).serial) ((exchange s q).value == (exchange s q).value) (eq-eqb (exchange s q).serial (exchange s q).serial refl) (eq-eqb (exchange s q).value (exchange s q).value refl);
  });
  between_calls = none_called s q t v on none_;
}

-- the service has no open call
gives : (s : State) (q : ℕ) (t : Target) (v : Service) → IsWellFormed s → IsConsistent s → Served s q t v → is_idle (exchange s q).phase ≡ false → v.heard ≡ true
    → list_any (is_called_within s q) (ports_of s.config t.node) ≡ false → Possible s
gives s q t v w k on busy heard none_ = record {
  event = Give q (exchange s q).serial 0;
  advances = refl;
  onward = refl;
  allowed = allowed s (Give q (exchange s q).serial 0) (record {
    live = busy_is_live s q k busy;
    taken = is_taken_if s q t v on.leads on.serviced on.of_port;
    heard = ap was_heard (target_service_is s q t on.leads ∙ on.serviced) ∙ heard;
    serial = eq-eqb (exchange s q).serial (exchange s q).serial refl;
    calls_ended = none_called s q t v on none_;
    value = refl;
  });
  between_calls = refl;
}

-- a call of the service is open: so much further down its chain ends
called : (s : State) (q d : ℕ) (t : Target) → IsWellFormed s → IsConsistent s → can_walk s.config (suc d) t.node ≡ false → PassesOf s.config t.node (is_called_within s q)
    → ((p : ℕ) → is_idle (exchange s p).phase ≡ false → ((u : Target) → target s.config p ≡ Some u → can_walk s.config d u.node ≡ false) → Possible s) → Possible s
called s q d t w k short call next =
    let at = map_or_true (λ i. i == q) (exchange s call.port).within call.passes in
    let h = k.consequent call.port at.0 at.1 in
    let owns : owner s.config call.port ≡ t.node = owner_of s.config w.sound t.node call.port call.owned in
    next call.port h.busy (λ u e. false_from_ne_true (can_walk s.config d u.node) (λ walks.
    both_ways (can_walk s.config (suc d) t.node) short (walk_to s.config d t.node u.node (record {
      port = call.port;
      provide = u.provide;
      serves = provision s.config at.0;
      depends = (call.owned, subst (λ n. depends s.config n (provision s.config at.0) call.port ≡ true) owns h.depends_on);
      linked = e;
    }) walks)))

-- the port's target services a port
served : (s : State) (d : ℕ) (t : Target) (v : Service) → IsWellFormed s → IsConsistent s → can_walk s.config (suc d) t.node ≡ false → service s t.node ≡ Some v
    → ((p : ℕ) → is_idle (exchange s p).phase ≡ false → ((u : Target) → target s.config p ≡ Some u → can_walk s.config d u.node ≡ false) → Possible s) → Possible s
served s d t v w k short f next =
    let at = k.serving t.node v f in
    let to : Target = record { node = t.node; provide = at.provide } in
    let on : Served s v.port to v = record { leads = at.linked; serviced = f; of_port = refl } in
    let busy = serving_busy (exchange s v.port).phase at.busy in
    ⊎_elim
    (λ (asked : is_asked (exchange s v.port).phase ≡ true). ⊎_elim
    (λ (open_ : list_any (is_called_within s v.port) (ports_of s.config t.node) ≡ true). called s v.port d t w k short (any_of s.config t.node (is_called_within s v.port) open_) next)
    (λ (none_ : list_any (is_called_within s v.port) (ports_of s.config t.node) ≡ false). ⊎_elim
    (λ (heard : v.heard ≡ true). gives s v.port to v w k on busy heard none_)
    (λ (unheard : v.heard ≡ false). hears s v.port to v w k on asked unheard none_)
    (cases_Bool v.heard))
    (cases_Bool (list_any (is_called_within s v.port) (ports_of s.config t.node))))
    (λ (more_ : is_in_more (exchange s v.port).phase ≡ true). asks s v.port w k more_)
    (or_cases (is_asked (exchange s v.port).phase) (is_in_more (exchange s v.port).phase) at.busy)

asked_at : (s : State) (d p : ℕ) (t : Target) (o : Option Service) → service s t.node ≡ o → IsWellFormed s → IsConsistent s → is_asked (exchange s p).phase ≡ true → target s.config p ≡ Some t
    → can_walk s.config (suc d) t.node ≡ false
    → ((q : ℕ) → is_idle (exchange s q).phase ≡ false → ((u : Target) → target s.config q ≡ Some u → can_walk s.config d u.node ≡ false) → Possible s) → Possible s
asked_at s d p t None f w k asked e short next = takes s p t w k asked e f
asked_at s d p t (Some v) f w k asked e short next = served s d t v w k short f next

possible : (d : ℕ) (s : State) → IsWellFormed s → IsConsistent s → (p : ℕ) → is_idle (exchange s p).phase ≡ false → ((t : Target) → target s.config p ≡ Some t → can_walk s.config d t.node ≡ false) → Possible s
possible zero s w k p busy short = let t = busy_target s p k busy in absurd (both_ways true (short t.0 t.1) refl)
possible (suc d) s w k p busy short =
    let t = busy_target s p k busy in
    ⊎_elim
    (λ (asked : is_asked (exchange s p).phase ≡ true). asked_at s d p t.0 (service s t.0.node) refl w k asked t.1 (short t.0 t.1) (possible d s w k))
    (λ (later : (is_answered (exchange s p).phase ≡ true) ⊎ (is_in_more (exchange s p).phase ≡ true)). ⊎_elim
    (λ (answered : is_answered (exchange s p).phase ≡ true). ends s p w k answered)
    (λ (more_ : is_in_more (exchange s p).phase ≡ true). asks s p w k more_)
    later)
    (busy_phases (exchange s p).phase busy)

-- where a transaction is open, an event of an open one is possible
pub possible_if : (s : State) → IsWellFormed s → IsConsistent s → (p : ℕ) → is_idle (exchange s p).phase ≡ false → Possible s
possible_if s w k p busy = possible (suc (length s.config.slots)) s w k p busy (λ t e. no_walk s.config w.sound.no_cycle t.node)

pub possible_after : (es : List Event) → IsRun es → (p : ℕ) → is_idle (exchange (state_after es) p).phase ≡ false → Possible (state_after es)
possible_after es h p busy = possible_if (state_after es) (runs_are_well_formed es h) (runs_are_consistent es h) p busy

pub none_open : (es : List Event) → IsRun es → ((e : Event) → is_advance e ≡ true → denial (state_after es) e ≡ None → ⊥) → (p : ℕ) → is_idle (exchange (state_after es) p).phase ≡ true
none_open es h none_ p = true_from_ne_false (is_idle (exchange (state_after es) p).phase) (λ busy.
    let e = possible_after es h p busy in none_ e.event e.advances e.allowed)
