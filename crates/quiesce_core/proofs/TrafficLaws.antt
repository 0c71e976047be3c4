-- Each event keeps the traffic consistent.
use Rattle.std.proofs.Common.{◌≡◌, ◌∙◌, ℕ, ◌+◌, ◌-◌, ◌<◌, ◌≤◌, Bool, true, false, not, cond, ◌&&◌, ◌||◌, length, Option, Some, None, refl, sym, ap, subst, ⊎_elim, arith}
use Rattle.std.specs.Prelude.{◌==◌, nat_lt, nat_le, is_none, is_some, option_map}
use Rattle.std.specs.List.{list_all, range_with_len}
use Rattle.std.specs.Option.{option_map_or}
use Rattle.std.proofs.lemmas.Bool.{and_parts, both_ways, cases_Bool, cases_eq, cases_lt, eq-eqb, eqb-true, false_from_ne_true, ltb-true, ne_eqb, not-true, or_left}
use Rattle.std.proofs.lemmas.List.{get_or_past}
use Rattle.std.proofs.lemmas.Option.{same_Some}
use Rattle.config_graph.specs.Kinds.{row, depends_on, calls_of, mores_of}
use Rattle.config_graph.specs.declared.kind.Kind.{Kind}
use Rattle.config_graph.specs.declared.node.Target.{Target}
use Rattle.quiesce_word.specs.Phases.{is_idle, is_asked, is_in_more}
use Rattle.quiesce_word.specs.declared.phase.Phase.{Phase}
use Rattle.quiesce_core.specs.declared.event.Event.{Event}
use Rattle.quiesce_core.specs.declared.event.Event.TheVariants.{Begin, Call, Take, Give, End, More, Ask, Hear, Miss, Close, Reopen, Make, Link, Unlink, Remove}
use Rattle.quiesce_core.specs.declared.state.Slot.{Slot}
use Rattle.quiesce_core.specs.declared.state.Gate.{Gate}
use Rattle.quiesce_core.specs.declared.state.Service.{Service}
use Rattle.quiesce_core.specs.declared.state.Exchange.{Exchange}
use Rattle.quiesce_core.specs.State.{Configuration, State, empty, fresh_gate, slot, gate, owner, target, provision, ports_of, calls_allowed, mores_allowed, depends, is_live, exchange, service}
use Rattle.quiesce_core.specs.Alters.{service_by, service_next}
use Rattle.quiesce_core.specs.Doers.{is_give_at, is_more_at}
use Rattle.quiesce_core.specs.Reach.{IsPortOf}
use Rattle.quiesce_core.specs.Rules.{has_calls_left, is_called_within, is_linked, is_live_port, is_taken, serves_through}
use Rattle.quiesce_core.specs.Effect.{effect}
use Rattle.quiesce_core.specs.Legal.{Legal}
use Rattle.quiesce_core.specs.Runs.{is_doer}
use Rattle.quiesce_core.specs.WellFormed.{IsWellFormed}
use Rattle.quiesce_core.specs.Traffic.{IsServing, IsConsequent, IsConsistent}
use Rattle.quiesce_core.proofs.AlterLaws.{reconfigured, services_next}
use Rattle.quiesce_core.proofs.ConfigurationLaws.{kind_kept, linked_made, owner_kept, require_kept}
use Rattle.quiesce_core.proofs.CycleLaws.{all_of}
use Rattle.quiesce_core.proofs.SettledLaws.{settled_if}
use Rattle.quiesce_core.proofs.StabilityLaws.{busy_ports_stay, serves_on, taken_ports_stay}
use Rattle.quiesce_core.proofs.StateLaws.{busy_made, idle_unserved, provision_is, taken_busy, taken_is, target_service_is}
use Rattle.quiesce_word.proofs.PhaseLaws.{asked_not_more, more_busy, serving_busy, serving_unanswered}
use Rattle.quiesce_core.proofs.TableLaws.{live_made}
use Rattle.quiesce_core.proofs.PortEventLaws.{Turn, asks, ends, gives, passes, replies, replies_are_of_servers, served_there, starts, turn_of}
use Rattle.base.proofs.OptionLaws.{None-from_is_none, Some-from_is_some, option_map_some, map_or_at}

-- the one that services a port is the one to which it is linked
pub only_target : (s : State) (p : ℕ) (t : Target) → IsConsistent s → target s.config p ≡ Some t → (m : ℕ) (u : Service) → service s m ≡ Some u → u.port ≡ p → m ≡ t.node
only_target s p t c leads m u e same =
    let other = c.serving m u e in
    let on : target s.config p ≡ Some (record { node = m; provide = other.provide }) = ap (λ i. target s.config i) (sym same) ∙ other.linked in
    ap (λ o. option_map_or (λ (y : Target). y.node) o 0) (sym on ∙ leads)

more_no_give : (p : ℕ) (e : Event) → is_more_at p e ≡ true → is_give_at p e ≡ false
more_no_give p (More q k v) h = refl
more_no_give p _ h = absurd (both_ways false refl h)

-- what is in a phase after the event
module _ (s : State) (p : ℕ) (e : Event) where
  phase_now : (f : Phase → Bool) (x : Exchange) → exchange (effect s e) p ≡ x → f (exchange (effect s e) p).phase ≡ f x.phase
  phase_now f x now = ap (λ (y : Exchange). f y.phase) now

  not_now : (f : Phase → Bool) (x : Exchange) → exchange (effect s e) p ≡ x → f x.phase ≡ false → f (exchange (effect s e) p).phase ≡ true → ⊥
  not_now f x now no_ yes_ = both_ways (f x.phase) no_ (sym (phase_now f x now) ∙ yes_)

module _ (s : State) (e : Event) (w : IsWellFormed s) (c : IsConsistent s) (l : Legal s e) where
  target_stays : (p : ℕ) → is_idle (exchange s p).phase ≡ false → target (effect s e).config p ≡ target s.config p
  target_stays p busy = busy_ports_stay s e w c l p busy

  links_on : (p : ℕ) → is_idle (exchange s p).phase ≡ false → is_linked (effect s e).config p ≡ true
  links_on p busy = ap (λ o. is_some o) (target_stays p busy) ∙ c.linked p busy

  linked_next : (p : ℕ) → is_idle (exchange (effect s e) p).phase ≡ false → is_linked (effect s e).config p ≡ true
  linked_next p busy = by (turn_of s e w l p)
    where
      by : Turn s p e → is_linked (effect s e).config p ≡ true
      by (passes now g m) = links_on p (sym (phase_now s p e is_idle _ now) ∙ busy)
      by (starts h) = ap (λ d. is_linked d p) h.same ∙ h.linked
      by (gives v t g now) = links_on p (taken_busy s p c t)
      by (replies v t m now) = links_on p (taken_busy s p c t)
      by (asks v m a g now) = links_on p (more_busy (exchange s p).phase m)
      by (ends a d now) = absurd (both_ways (is_idle (exchange (effect s e) p).phase) busy (phase_now s p e is_idle _ now))

  taken_next : (p : ℕ) → is_in_more (exchange (effect s e) p).phase ≡ true → is_taken (effect s e) p ≡ true
  taken_next p more_ = by (turn_of s e w l p)
    where
      by : Turn s p e → is_taken (effect s e) p ≡ true
      by (passes now g m) = taken_ports_stay s e w c l p (c.taken p (sym (phase_now s p e is_in_more _ now) ∙ more_)) g
      by (starts h) = absurd (not_now s p e is_in_more _ h.now refl more_)
      by (gives v t g now) = absurd (not_now s p e is_in_more _ now refl more_)
      by (replies v t m now) = taken_ports_stay s e w c l p t (more_no_give p e m)
      by (asks v m a g now) = absurd (not_now s p e is_in_more _ now refl more_)
      by (ends a d now) = absurd (not_now s p e is_in_more _ now refl more_)

  -- ---- services

  -- the node that services a port was made, and keeps its kind
  server_made : (n : ℕ) (v : Service) → service s n ≡ Some v → n < length s.config.slots
  server_made n v serves =
      let it = c.serving n v serves in
      live_made s.config n (w.sound.targets v.port (record { node = n; provide = it.provide }) it.linked).live

  -- its port is asked or in more still
  served_still : (n : ℕ) (u : Service) → service s n ≡ Some u → is_give_at u.port e ≡ false → (is_asked (exchange (effect s e) u.port).phase || is_in_more (exchange (effect s e) u.port).phase) ≡ true
  served_still n u serves no_give = by (turn_of s e w l u.port)
    where
      old : (is_asked (exchange s u.port).phase || is_in_more (exchange s u.port).phase) ≡ true
      old = (c.serving n u serves).busy

      by : Turn s u.port e → (is_asked (exchange (effect s e) u.port).phase || is_in_more (exchange (effect s e) u.port).phase) ≡ true
      by (passes now g m) = phase_now s u.port e (λ f. is_asked f || is_in_more f) _ now ∙ old
      by (starts h) = absurd (idle_unserved s u.port c h.idle n u serves refl)
      by (gives v t g now) = absurd (both_ways (is_give_at u.port e) no_give g)
      by (replies v t m now) = phase_now s u.port e (λ f. is_asked f || is_in_more f) _ now
      by (asks v m a g now) = phase_now s u.port e (λ f. is_asked f || is_in_more f) _ now
      by (ends a d now) = absurd (serving_unanswered (exchange s u.port).phase old a)

  -- a service that stays at its port, with calls and replies within bounds
  serving_on : (n : ℕ) (u v : Service) (serves : service s n ≡ Some u) → v.port ≡ u.port → is_give_at u.port e ≡ false
      → ((x : ℕ) → target s.config u.port ≡ Some (record { node = n; provide = x }) → (v.calls ≤ calls_allowed s.config n x) × (v.mores ≤ mores_allowed s.config n x))
      → (is_in_more (exchange (effect s e) u.port).phase ≡ true → v.heard ≡ false) → IsServing (effect s e) n v
  serving_on n u v serves same no_give few waits =
      let old = c.serving n u serves in
      let bounds = few old.provide old.linked in
      let kinds : (f : Kind → ℕ) → option_map_or (λ (m : Slot). f m.node.kind) (slot (effect s e).config n) 0 ≡ option_map_or (λ (m : Slot). f m.node.kind) (slot s.config n) 0 =
      λ f. kind_kept s.config (effect s e).config e (reconfigured s e l) n f 0 (server_made n u serves) in
      record {
        provide = old.provide;
        linked = ap (λ i. target (effect s e).config i) same ∙ target_stays u.port (serving_busy (exchange s u.port).phase old.busy) ∙ old.linked;
        busy = ap (λ i. is_asked (exchange (effect s e) i).phase || is_in_more (exchange (effect s e) i).phase) same ∙ served_still n u serves no_give;
        waits = λ h. waits (ap (λ i. is_in_more (exchange (effect s e) i).phase) (sym same) ∙ h);
        calls = subst (λ i. v.calls ≤ i) (sym (kinds (λ k. calls_of k old.provide))) bounds.0;
        mores = subst (λ i. v.mores ≤ i) (sym (kinds (λ k. mores_of k old.provide))) bounds.1;
      }

  -- it waits as before, where no reply is sent
  waits_on : (n : ℕ) (u : Service) → service s n ≡ Some u → is_give_at u.port e ≡ false → is_more_at u.port e ≡ false → is_in_more (exchange (effect s e) u.port).phase ≡ true → u.heard ≡ false
  waits_on n u serves no_give no_more more_ = by (turn_of s e w l u.port)
    where
      by : Turn s u.port e → u.heard ≡ false
      by (passes now g m) = (c.serving n u serves).waits (sym (phase_now s u.port e is_in_more _ now) ∙ more_)
      by (starts h) = absurd (not_now s u.port e is_in_more _ h.now refl more_)
      by (gives v t g now) = absurd (not_now s u.port e is_in_more _ now refl more_)
      by (replies v t m now) = absurd (both_ways (is_more_at u.port e) no_more m)
      by (asks v m a g now) = absurd (not_now s u.port e is_in_more _ now refl more_)
      by (ends a d now) = absurd (not_now s u.port e is_in_more _ now refl more_)

  -- as it was
  bounds_on : (n : ℕ) (u : Service) → service s n ≡ Some u → (x : ℕ) → target s.config u.port ≡ Some (record { node = n; provide = x }) → (u.calls ≤ calls_allowed s.config n x) × (u.mores ≤ mores_allowed s.config n x)
  bounds_on n u serves x leads =
      let old = c.serving n u serves in
      let one : old.provide ≡ x = ap (λ o. option_map_or (λ (y : Target). y.provide) o 0) (sym old.linked ∙ leads) in
      (subst (λ i. u.calls ≤ calls_allowed s.config n i) one old.calls, subst (λ i. u.mores ≤ mores_allowed s.config n i) one old.mores)

  unchanged : (n : ℕ) (u : Service) → service s n ≡ Some u → is_give_at u.port e ≡ false → is_more_at u.port e ≡ false → IsServing (effect s e) n u
  unchanged n u serves no_give no_more = serving_on n u u serves refl no_give (bounds_on n u serves) (waits_on n u serves no_give no_more)

-- the node that does a target's event is where the port leads
led : (s : State) (q n : ℕ) → option_map_or (λ m. m == n) (option_map (λ (t : Target). t.node) (target s.config q)) false ≡ true → (x : ℕ) × (target s.config q ≡ Some (record { node = n; provide = x }))
led s q n h = at (target s.config q) h
  where
    at : (o : Option Target) → option_map_or (λ m. m == n) (option_map (λ (t : Target). t.node) o) false ≡ true → (x : ℕ) × (o ≡ Some (record { node = n; provide = x }))
    at None h = absurd (both_ways false refl h)
    at (Some t) h = (t.provide, ap (λ i. Some (record { node = i; provide = t.provide })) (eqb-true t.node n h))

-- what a call counts is within bounds
called_on : (s : State) (e : Event) (w : IsWellFormed s) (c : IsConsistent s) (l : Legal s e) (n : ℕ) (v : Service) → has_calls_left s n ≡ true → ((r : ℕ) → is_give_at r e ≡ false) → ((r : ℕ) → is_more_at r e ≡ false)
    → option_map (λ (u : Service). record u { calls = u.calls + 1 }) (service s n) ≡ Some v → IsServing (effect s e) n v
called_on s e w c l n v left no_give no_more is =
    let u = option_map_some (λ (u : Service). record u { calls = u.calls + 1 }) (service s n) v is in
    subst (λ y. IsServing (effect s e) n y) u.2
    (serving_on s e w c l n u.0 (record u.0 { calls = u.0.calls + 1 }) u.1 refl (no_give u.0.port) (λ x leads.
    let below : nat_lt u.0.calls (calls_allowed s.config n (provision s.config u.0.port)) ≡ true =
    sym (map_or_at (λ (u : Service). nat_lt u.calls (calls_allowed s.config n (provision s.config u.port))) (service s n) false u.0 u.1) ∙ left in
    let few : u.0.calls < calls_allowed s.config n x =
    subst (λ i. u.0.calls < calls_allowed s.config n i) (provision_is s.config u.0.port n x leads) (ltb-true u.0.calls (calls_allowed s.config n (provision s.config u.0.port)) below) in
    (omega (arith, few), (bounds_on s e w c l n u.0 u.1 x leads).1))
    (waits_on s e w c l n u.0 u.1 (no_give u.0.port) (no_more u.0.port)))

-- where the node does the event
serving_by_own : (s : State) (e : Event) (w : IsWellFormed s) (c : IsConsistent s) (l : Legal s e) (n : ℕ) (v : Service) → is_doer s n e ≡ true → service_by (service s n) e ≡ Some v → IsServing (effect s e) n v
serving_by_own s (Begin q k j) w c l n v does is = unchanged s (Begin q k j) w c l n v is refl refl
serving_by_own s (Ask q k j) w c l n v does is = unchanged s (Ask q k j) w c l n v is refl refl
serving_by_own s (End q k j) w c l n v does is = unchanged s (End q k j) w c l n v is refl refl
serving_by_own s (Call q k j) w c l n v does is =
    called_on s (Call q k j) w c l n v (ap (λ i. has_calls_left s i) (sym (eqb-true (owner s.config q) n does)) ∙ l.calls_left) (λ r. refl) (λ r. refl) is
serving_by_own s (Miss q) w c l n v does is =
    called_on s (Miss q) w c l n v (ap (λ i. has_calls_left s i) (sym (eqb-true (owner s.config q) n does)) ∙ l.calls_left) (λ r. refl) (λ r. refl) is
serving_by_own s (Take q k j) w c l n v does is =
    let leads = led s q n does in
    subst (λ y. IsServing (effect s (Take q k j)) n y) (same_Some _ v is) (record {
      provide = leads.0;
      linked = leads.1;
      busy = or_left (is_asked (exchange s q).phase) (is_in_more (exchange s q).phase) l.asked;
      waits = λ h. absurd (both_ways (is_in_more (exchange s q).phase) (asked_not_more (exchange s q).phase l.asked) h);
      calls = omega arith;
      mores = omega arith;
    })
serving_by_own s (Give q k j) w c l n v does is = absurd (cc)
serving_by_own s (More q k j) w c l n v does is =
    let u = option_map_some (λ (u : Service). record u { mores = u.mores + 1; heard = false }) (service s n) v is in
    let at = taken_is s q l.taken in
    let one : u.0 ≡ at.serving = same_Some u.0 at.serving (sym u.1 ∙ sym (served_there s q n does) ∙ target_service_is s q at.to at.leads ∙ at.serviced) in
    let of_port : u.0.port ≡ q = ap (λ (y : Service). y.port) one ∙ at.of_port in
    subst (λ y. IsServing (effect s (More q k j)) n y) u.2
    (serving_on s (More q k j) w c l n u.0 (record u.0 { mores = u.0.mores + 1; heard = false }) u.1 refl refl (λ x leads.
    let here : target s.config q ≡ Some (record { node = n; provide = x }) = ap (λ i. target s.config i) (sym of_port) ∙ leads in
    let below : nat_lt u.0.mores (mores_allowed s.config n x) ≡ true =
    sym (map_or_at (λ (u : Service). nat_lt u.mores (mores_allowed s.config n x)) (service s n) false u.0 u.1)
    ∙ sym (map_or_at (λ (y : Target). option_map_or (λ (u : Service). nat_lt u.mores (mores_allowed s.config y.node y.provide)) (service s y.node) false) (target s.config q) false (record { node = n; provide = x }) here)
    ∙ l.mores_left in
    ((bounds_on s (More q k j) w c l n u.0 u.1 x leads).0, omega (arith, ltb-true u.0.mores (mores_allowed s.config n x) below)))
    (λ h. refl))
serving_by_own s (Hear q k j) w c l n v does is =
    let u = option_map_some (λ (u : Service). record u { heard = true }) (service s n) v is in
    let at = taken_is s q l.taken in
    let one : u.0 ≡ at.serving = same_Some u.0 at.serving (sym u.1 ∙ sym (served_there s q n does) ∙ target_service_is s q at.to at.leads ∙ at.serviced) in
    let of_port : u.0.port ≡ q = ap (λ (y : Service). y.port) one ∙ at.of_port in
    subst (λ y. IsServing (effect s (Hear q k j)) n y) u.2
    (serving_on s (Hear q k j) w c l n u.0 (record u.0 { heard = true }) u.1 refl refl (bounds_on s (Hear q k j) w c l n u.0 u.1)
    (λ h. absurd (both_ways (is_in_more (exchange s q).phase) (asked_not_more (exchange s q).phase l.asked) (ap (λ i. is_in_more (exchange s i).phase) (sym of_port) ∙ h))))
serving_by_own s _ w c l n v does is = absurd (both_ways false refl does)

serving_next : (s : State) (e : Event) → IsWellFormed s → IsConsistent s → Legal s e → (n : ℕ) (v : Service) → service (effect s e) n ≡ Some v → IsServing (effect s e) n v
serving_next s e w c l n v is = by (is_doer s n e) refl (sym (services_next s e w l n) ∙ is)
  where
    by : (b : Bool) → is_doer s n e ≡ b → service_next s n e ≡ Some v → IsServing (effect s e) n v
    by true does h = serving_by_own s e w c l n v does (sym (ap (λ b. cond b (service_by (service s n) e) (service s n)) does) ∙ h)
    by false other h =
        let serves : service s n ≡ Some v = sym (ap (λ b. cond b (service_by (service s n) e) (service s n)) other) ∙ h in
        let none_ = replies_are_of_servers s e c n v serves other in
        unchanged s e w c l n v serves none_.0 none_.1

-- ---- consequent transactions

linked_at_made : (s : State) (p : ℕ) → is_linked s.config p ≡ true → p < length s.config.gates
linked_at_made s p h = let t = Some-from_is_some (target s.config p) h in linked_made s.config p t.0 t.1

-- what is given has no call left
given_ended : (s : State) (e : Event) → IsWellFormed s → IsConsistent s → Legal s e → (p q : ℕ) → (exchange s p).within ≡ Some q → is_give_at q e ≡ false
given_ended s (Give r k j) w c l p q within = false_from_ne_true (r == q) (λ h.
    let same : r ≡ q = eqb-true r q h in
    let at = taken_is s r l.taken in
    let it = c.consequent p q within in
    let mine : owner s.config p ≡ at.to.node =
    only_target s r at.to c at.leads (owner s.config p) it.serving it.serviced (it.of_port ∙ sym same) in
    let made : p < length s.config.gates = busy_made s p c it.busy in
    let owned = subst (λ i. IsPortOf s.config i p) mine (w.sound.ports p made) in
    let ended : not (is_called_within s r p) ≡ true =
    all_of s.config at.to.node (λ i. not (is_called_within s r i)) p
    (sym (map_or_at (λ (y : Target). list_all (λ i. not (is_called_within s r i)) (ports_of s.config y.node)) (target s.config r) true at.to at.leads) ∙ l.calls_ended) owned in
    both_ways (is_called_within s r p) (not-true (is_called_within s r p) ended) (map_or_at (λ i. i == r) (exchange s p).within false q within ∙ eq-eqb q r (sym same)))
given_ended s _ w c l p q within = refl

module _ (s : State) (e : Event) (w : IsWellFormed s) (c : IsConsistent s) (l : Legal s e) where
  -- it belongs to the service as before
  belongs_on : (p q : ℕ) → p < length s.config.gates → is_idle (exchange (effect s e) p).phase ≡ false → (v : Service) → service s (owner s.config p) ≡ Some v → v.port ≡ q
      → depends s.config (owner s.config p) (provision s.config q) p ≡ true → is_give_at q e ≡ false → IsConsequent (effect s e) p q
  belongs_on p q made busy v serves of_port dep no_give =
      let r = reconfigured s e l in
      let owns : owner (effect s e).config p ≡ owner s.config p = owner_kept s.config (effect s e).config e r p made in
      let on = serves_on s e c l (owner s.config p) v serves (ap (λ i. is_give_at i e) of_port ∙ no_give) in
      let it = c.serving (owner s.config p) v serves in
      let busy_q : is_idle (exchange s q).phase ≡ false = ap (λ i. is_idle (exchange s i).phase) (sym of_port) ∙ serving_busy (exchange s v.port).phase it.busy in
      let by : provision (effect s e).config q ≡ provision s.config q = ap (λ o. option_map_or (λ (t : Target). t.provide) o 0) (busy_ports_stay s e w c l q busy_q) in
      record {
        busy = busy;
        serving = on.0;
        serviced = ap (λ i. service (effect s e) i) owns ∙ services_next s e w l (owner s.config p) ∙ on.1;
        of_port = on.2 ∙ of_port;
        depends_on =
            ap (λ i. depends (effect s e).config i (provision (effect s e).config q) p) owns
            ∙ ap (λ x. depends (effect s e).config (owner s.config p) x p) by
            ∙ ap (λ i. option_map_or (λ (m : Slot). depends_on m.node.kind (provision s.config q) i) (slot (effect s e).config (owner s.config p)) false) (require_kept s.config (effect s e).config e r p made)
            ∙ kind_kept s.config (effect s e).config e r (owner s.config p) (λ k. depends_on k (provision s.config q) (gate s.config p).require) false (server_made s e w c l (owner s.config p) v serves)
            ∙ dep;
      }

  consequent_on : (p q : ℕ) → (exchange s p).within ≡ Some q → is_idle (exchange (effect s e) p).phase ≡ false → IsConsequent (effect s e) p q
  consequent_on p q within busy =
      let old = c.consequent p q within in
      belongs_on p q (busy_made s p c old.busy) busy old.serving old.serviced old.of_port old.depends_on (given_ended s e w c l p q within)

  consequent_next : (p q : ℕ) → (exchange (effect s e) p).within ≡ Some q → IsConsequent (effect s e) p q
  consequent_next p q is = by (turn_of s e w l p)
    where
      before : (x : Exchange) → exchange (effect s e) p ≡ x → x.within ≡ Some q
      before x now = sym (ap (λ (y : Exchange). y.within) now) ∙ is

      by : Turn s p e → IsConsequent (effect s e) p q
      by (passes now g m) = consequent_on p q (before _ now) (phase_now s p e is_idle _ now ∙ (c.consequent p q (before _ now)).busy)
      by (starts h) = ⊎_elim
          (λ (root : h.within ≡ None). absurd (cc (before _ h.now, root)))
          (λ (call : (serves_through s (owner s.config p) p ≡ true) × (h.within ≡ option_map (λ (w : Service). w.port) (service s (owner s.config p)))).
          let u = option_map_some (λ (w : Service). w.port) (service s (owner s.config p)) q (sym call.1 ∙ before _ h.now) in
          let dep : depends s.config (owner s.config p) (provision s.config u.0.port) p ≡ true =
          sym (map_or_at (λ (v : Service). depends s.config (owner s.config p) (provision s.config v.port) p) (service s (owner s.config p)) false u.0 u.1) ∙ call.0 in
          belongs_on p q (linked_at_made s p h.linked) (phase_now s p e is_idle _ h.now) u.0 u.1 u.2 (ap (λ i. depends s.config (owner s.config p) (provision s.config i) p) (sym u.2) ∙ dep) (h.no_give q))
          h.belongs
      by (gives v t g now) = consequent_on p q (before _ now) (phase_now s p e is_idle _ now)
      by (replies v t m now) = consequent_on p q (before _ now) (phase_now s p e is_idle _ now)
      by (asks v m a g now) = consequent_on p q (before _ now) (phase_now s p e is_idle _ now)
      by (ends a d now) = absurd (cc (before _ now))

-- ---- the ports of removed nodes

abbrev IsShut : Configuration → ℕ → Type 0
IsShut c p = ((gate c p).closed ≡ true) × (target c p ≡ None)

-- a gate of a live node is written, and no other
shut_put : (s : State) (e : Event) (q p : ℕ) (g : Gate) → IsConsistent s → is_live_port s.config q ≡ true → gate (effect s e).config p ≡ cond (q == p) g (gate s.config p) → g.owner ≡ owner s.config p
    → ((m : ℕ) → is_live (effect s e).config m ≡ is_live s.config m) → is_live (effect s e).config (owner (effect s e).config p) ≡ false → IsShut (effect s e).config p
shut_put s e q p g c live now same alive h = by (q == p) refl now
  where
    by : (b : Bool) → (q == p) ≡ b → gate (effect s e).config p ≡ cond b g (gate s.config p) → IsShut (effect s e).config p
    by true here now =
        let owns : owner (effect s e).config p ≡ owner s.config q = ap (λ (y : Gate). y.owner) now ∙ same ∙ ap (λ i. owner s.config i) (sym (eqb-true q p here)) in
        absurd (both_ways (is_live s.config (owner s.config q)) (sym (alive (owner s.config q)) ∙ ap (λ i. is_live (effect s e).config i) (sym owns) ∙ h)
        (and_parts (nat_lt q (length s.config.gates)) (is_live s.config (owner s.config q)) live).1)
    by false there now =
        let before = c.removed p (sym (alive (owner s.config p)) ∙ ap (λ (y : Gate). is_live (effect s e).config y.owner) (sym now) ∙ h) in
        (ap (λ (y : Gate). y.closed) now ∙ before.0, ap (λ (y : Gate). y.target) now ∙ before.1)

-- the gate of a port that is not of a live node
shut_next : (s : State) (e : Event) → IsWellFormed s → IsConsistent s → Legal s e → (p : ℕ) → is_live (effect s e).config (owner (effect s e).config p) ≡ false → IsShut (effect s e).config p
shut_next s (Close q) w c l p h = shut_put s (Close q) q p _ c l.live ((reconfigured s (Close q) l).gates p) refl (λ m. refl) h
shut_next s (Reopen q) w c l p h = shut_put s (Reopen q) q p _ c l.live ((reconfigured s (Reopen q) l).gates p) refl (λ m. refl) h
shut_next s (Link q n x) w c l p h = shut_put s (Link q n x) q p _ c l.live ((reconfigured s (Link q n x) l).gates p) refl (λ m. refl) h
shut_next s (Unlink q) w c l p h = shut_put s (Unlink q) q p _ c l.live ((reconfigured s (Unlink q) l).gates p) refl (λ m. refl) h
shut_next s (Make n node from) w c l p h =
    let r = reconfigured s (Make n node from) l in
    ⊎_elim
    (λ (new_ : (nat_le (length s.config.gates) p && nat_lt p (length s.config.gates + length (row node.kind).requires_)) ≡ true).
    let now : gate (effect s (Make n node from)).config p ≡ record { owner = length s.config.slots; require = p - length s.config.gates; closed = true; target = None } = r.gates p ∙ rw new_ refl in
    (ap (λ (g : Gate). g.closed) now, ap (λ (g : Gate). g.target) now))
    (λ (old : (nat_le (length s.config.gates) p && nat_lt p (length s.config.gates + length (row node.kind).requires_)) ≡ false).
    let now : gate (effect s (Make n node from)).config p ≡ gate s.config p = r.gates p ∙ rw old refl in
    let dead : is_live s.config (owner s.config p) ≡ false = ⊎_elim
    (λ (last : owner s.config p ≡ length s.config.slots).
    let at : slot (effect s (Make n node from)).config (owner s.config p) ≡ Some (record { node = node; first_port = length s.config.gates; from = from; live = true }) =
    r.slots (owner s.config p) ∙ rw (eq-eqb (owner s.config p) (length s.config.slots) last) refl in
    absurd (both_ways (is_live (effect s (Make n node from)).config (owner s.config p)) (ap (λ (g : Gate). is_live (effect s (Make n node from)).config g.owner) (sym now) ∙ h)
    (ap (λ o. option_map_or (λ (m : Slot). m.live) o false) at)))
    (λ (before : owner s.config p ≡ length s.config.slots → ⊥).
    let at : slot (effect s (Make n node from)).config (owner s.config p) ≡ slot s.config (owner s.config p) =
    r.slots (owner s.config p) ∙ rw (ne_eqb (owner s.config p) (length s.config.slots) before) refl in
    sym (ap (λ o. option_map_or (λ (m : Slot). m.live) o false) at)
    ∙ ap (λ (g : Gate). is_live (effect s (Make n node from)).config g.owner) (sym now) ∙ h)
    (cases_eq (owner s.config p) (length s.config.slots)) in
    let before = c.removed p dead in
    (ap (λ (g : Gate). g.closed) now ∙ before.0, ap (λ (g : Gate). g.target) now ∙ before.1))
    (cases_Bool (nat_le (length s.config.gates) p && nat_lt p (length s.config.gates + length (row node.kind).requires_)))
shut_next s (Remove n) w c l p h = ⊎_elim
    (λ (mine : owner s.config p ≡ n). ⊎_elim
    (λ (made : p < length s.config.gates).
    let owned = subst (λ i. IsPortOf s.config i p) mine (w.sound.ports p made) in
    let quiet = (settled_if s w.sound n l.settled).own p owned in
    let apart = (and_parts (list_all (λ p. is_none (target s.config p)) (ports_of s.config n))
    (list_all (λ p. option_map_or (λ (t : Target). not (t.node == n)) (target s.config p) true) (range_with_len 0 (length s.config.gates))) l.apart).0 in
    ((and_parts (gate s.config p).closed (is_idle (exchange s p).phase) quiet).0, None-from_is_none (target s.config p) (all_of s.config n (λ p. is_none (target s.config p)) p apart owned)))
    (λ (past : length s.config.gates ≤ p).
    let fresh = get_or_past s.config.gates p fresh_gate past in (ap (λ (g : Gate). g.closed) fresh, ap (λ (g : Gate). g.target) fresh))
    (cases_lt p (length s.config.gates)))
    (λ (other : owner s.config p ≡ n → ⊥).
    let r = reconfigured s (Remove n) l in
    let at : slot (effect s (Remove n)).config (owner s.config p) ≡ slot s.config (owner s.config p) =
    r.slots (owner s.config p) ∙ rw (ne_eqb (owner s.config p) n other) refl in
    c.removed p (sym (ap (λ o. option_map_or (λ (m : Slot). m.live) o false) at) ∙ h))
    (cases_eq (owner s.config p) n)
shut_next s _ w c l p h = c.removed p h

-- each event that may happen keeps the traffic consistent
pub consistent_next : (s : State) (e : Event) → IsWellFormed s → IsConsistent s → Legal s e → IsConsistent (effect s e)
consistent_next s e w c l = record {
  linked = linked_next s e w c l;
  serving = serving_next s e w c l;
  taken = taken_next s e w c l;
  consequent = consequent_next s e w c l;
  removed = shut_next s e w c l;
}

pub consistent_empty : IsConsistent empty
consistent_empty = record {
  linked = λ p h. absurd (both_ways true h refl);
  serving = λ n v e. absurd (cc);
  taken = λ p h. absurd (both_ways false refl h);
  consequent = λ p q e. absurd (cc);
  removed = λ p h. (refl, refl);
}
