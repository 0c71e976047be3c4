-- What an event does at a port: it begins, calls or ends a transaction there, or leaves the serial and the caller of the last one
-- as they were, and it as open as it was.
use Rattle.std.proofs.Common.{◌≡◌, ℕ, ◌≤◌, Bool, true, false, cond, Option, Some, None, refl, sym, ap, ◌∙◌, subst, arith}
use Rattle.std.specs.Prelude.{◌==◌, option_map, nat_lt}
use Rattle.std.proofs.lemmas.Bool.{and_parts, both_ways, eq-eqb, eqb-true}
use Rattle.std.proofs.lemmas.Option.{same_Some}
use Rattle.quiesce_core.specs.declared.event.Event.{Event}
use Rattle.quiesce_core.specs.declared.event.Event.TheVariants.{Begin, Call, Give, End, More, Ask}
use Rattle.quiesce_core.specs.declared.state.Exchange.{Exchange}
use Rattle.quiesce_core.specs.declared.state.Service.{Service}
use Rattle.quiesce_word.specs.declared.phase.Phase.{Phase}
use Rattle.quiesce_word.specs.declared.phase.Phase.TheVariants as phase
use Rattle.quiesce_core.specs.State.{State, owner, provision, calls_allowed, exchange, service}
use Rattle.quiesce_word.specs.Phases.{is_idle}
use Rattle.quiesce_core.specs.Effect.{effect}
use Rattle.quiesce_core.specs.Legal.{Legal, CanBegin, CanCall, CanEnd}
use Rattle.quiesce_core.specs.Runs.{is_begin_of}
use Rattle.quiesce_core.specs.Traffic.{IsConsistent}
use Rattle.quiesce_core.specs.WellFormed.{IsWellFormed}
use Rattle.base.proofs.OptionLaws.{map_or_true}
use Rattle.quiesce_core.proofs.PortEventLaws.{next_serial}
use Rattle.quiesce_core.proofs.StateLaws.{taken_busy, idle_unserved, answered_unserved}
use Rattle.quiesce_word.proofs.PhaseLaws.{more_busy}
use Rattle.quiesce_core.specs.Alters.{exchange_next}
use Rattle.quiesce_core.proofs.AlterLaws.{exchanges_next}
use Rattle.quiesce_core.specs.Doers.{is_end_at}

-- the port at which an event begins, calls or ends a transaction
abbrev pub turns_at : Event → Option ℕ
turns_at (Begin p k v) = Some p
turns_at (Call p k v) = Some p
turns_at (End p k v) = Some p
turns_at _ = None

-- what is done at port p after the event is y
pub data PortStep (s : State) (e : Event) (p : ℕ) (y : Exchange) : Type 0 where
  stays : (turns_at e ≡ Some p → ⊥) → y.serial ≡ (exchange s p).serial → y.within ≡ (exchange s p).within → is_idle y.phase ≡ is_idle (exchange s p).phase → PortStep s e p y
  begins : (k v : ℕ) → e ≡ Begin p k v → CanBegin s p k v → y ≡ record { phase = phase.Asked; serial = k; value = v; within = None } → PortStep s e p y
  calls : (k v : ℕ) (u : Service) → e ≡ Call p k v → CanCall s p k v → service s (owner s.config p) ≡ Some u
      → y ≡ record { phase = phase.Asked; serial = k; value = v; within = Some u.port } → PortStep s e p y
  ends : (k v : ℕ) → e ≡ End p k v → CanEnd s p k v → y ≡ record (exchange s p) { phase = phase.Idle; value = 0; within = None } → PortStep s e p y

-- nothing is done there
untouched : (s : State) (e : Event) (p : ℕ) (y : Exchange) → (turns_at e ≡ Some p → ⊥) → y ≡ exchange s p → PortStep s e p y
untouched s e p y off same = stays off (ap (λ (x : Exchange). x.serial) same) (ap (λ (x : Exchange). x.within) same) (ap (λ (x : Exchange). is_idle x.phase) same)

-- a place of an exchange that is written where the test holds
either_way : (b : Bool) (P : Exchange → Type 0) (x y : Exchange) → (b ≡ true → P x) → (b ≡ false → P y) → P (cond b x y)
either_way true P x y here there = here refl
either_way false P x y here there = there refl

pub port_step : (s : State) (e : Event) → IsWellFormed s → IsConsistent s → Legal s e → (p : ℕ) → PortStep s e p (exchange (effect s e) p)
port_step s e w c l p = subst (λ y. PortStep s e p y) (sym (exchanges_next s e w l p)) (by e l)
  where
    -- another port, where the event turns at q
    apart : (e : Event) (q : ℕ) → turns_at e ≡ Some q → (q == p) ≡ false → PortStep s e p (exchange s p)
    apart e q at off = untouched s e p (exchange s p) (λ h. both_ways (q == p) off (eq-eqb q p (same_Some q p (sym at ∙ h)))) refl

    -- a message where a transaction is open, and open still
    message : (e : Event) (q v : ℕ) (f : Phase) → turns_at e ≡ None → is_idle (exchange s q).phase ≡ false → is_idle f ≡ false
        → PortStep s e p (cond (q == p) (record (exchange s p) { phase = f; value = v }) (exchange s p))
    message e q v f none_ busy open_ = either_way (q == p) (PortStep s e p) (record (exchange s p) { phase = f; value = v }) (exchange s p)
        (λ here. stays (λ h. absurd (cc (h, none_))) refl refl (open_ ∙ sym (ap (λ i. is_idle (exchange s i).phase) (sym (eqb-true q p here)) ∙ busy)))
        (λ there. untouched s e p (exchange s p) (λ h. absurd (cc (h, none_))) refl)

    by : (e : Event) → Legal s e → PortStep s e p (exchange_next s p e)
    by (Begin q k v) l = either_way (q == p) (PortStep s (Begin q k v) p) _ (exchange s p)
        (λ here. let same = eqb-true q p here in begins k v (ap (λ i. Begin i k v) same) (subst (λ i. CanBegin s i k v) same l) refl) (apart (Begin q k v) q refl)
    by (Call q k v) l = either_way (q == p) (PortStep s (Call q k v) p) _ (exchange s p)
        (λ here.
        let same = eqb-true q p here in
        let may = subst (λ i. CanCall s i k v) same l in
        let u = map_or_true (λ (x : Service). nat_lt x.calls (calls_allowed s.config (owner s.config p) (provision s.config x.port))) (service s (owner s.config p)) may.calls_left in
        calls k v u.0 (ap (λ i. Call i k v) same) may u.1 (ap (λ o. record { phase = phase.Asked; serial = k; value = v; within = option_map (λ (x : Service). x.port) o }) u.1))
        (apart (Call q k v) q refl)
    by (End q k v) l = either_way (q == p) (PortStep s (End q k v) p) _ (exchange s p)
        (λ here. let same = eqb-true q p here in ends k v (ap (λ i. End i k v) same) (subst (λ i. CanEnd s i k v) same l) refl) (apart (End q k v) q refl)
    by (Give q k v) l = message (Give q k v) q v phase.Answered refl (taken_busy s q c l.taken) refl
    by (More q k v) l = message (More q k v) q v phase.More refl (taken_busy s q c l.taken) refl
    by (Ask q k v) l = message (Ask q k v) q v phase.Asked refl (more_busy (exchange s q).phase l.in_more) refl
    by _ l = stays (λ h. absurd (cc)) refl refl refl

-- a port that is serviced is none at which an event turns
pub served_untouched : (s : State) (e : Event) → IsConsistent s → Legal s e → (m : ℕ) (v : Service) → service s m ≡ Some v → turns_at e ≡ Some v.port → ⊥
served_untouched s (Begin q k j) c l m v e at = idle_unserved s q c l.idle m v e (cc (at))
served_untouched s (Call q k j) c l m v e at = idle_unserved s q c l.idle m v e (cc (at))
served_untouched s (End q k j) c l m v e at = answered_unserved s q c l.answered m v e (cc (at))
served_untouched s _ c l m v e at = absurd (cc (at))

-- events that begin, call or end a transaction turn at its port

pub begin_turns : (p k : ℕ) (e : Event) → is_begin_of p k e ≡ true → turns_at e ≡ Some p
begin_turns p k (Begin q j v) h = ap Some (eqb-true q p (and_parts (q == p) (j == k) h).0)
begin_turns p k (Call q j v) h = ap Some (eqb-true q p (and_parts (q == p) (j == k) h).0)
begin_turns p k _ h = absurd (both_ways false refl h)

pub end_turns : (p : ℕ) (e : Event) → is_end_at p e ≡ true → turns_at e ≡ Some p
end_turns p (End q j v) h = ap Some (eqb-true q p h)
end_turns p _ h = absurd (both_ways false refl h)

-- serials never fall
pub serials_grow : (s : State) (e : Event) → IsWellFormed s → IsConsistent s → Legal s e → (q : ℕ) → (exchange s q).serial ≤ (exchange (effect s e) q).serial
serials_grow s e w c l q = by (port_step s e w c l q)
  where
    by : PortStep s e q (exchange (effect s e) q) → (exchange s q).serial ≤ (exchange (effect s e) q).serial
    by (stays off serial within idle) = omega (arith, serial)
    by (begins k v is may y) = omega (arith, next_serial s q k may.next_serial, ap (λ (x : Exchange). x.serial) y)
    by (calls k v u is may served y) = omega (arith, next_serial s q k may.next_serial, ap (λ (x : Exchange). x.serial) y)
    by (ends k v is may y) = omega (arith, ap (λ (x : Exchange). x.serial) y)
