-- A transaction stays open, at the same target, from its begin to its end.
use Rattle.std.proofs.Common.{◌≡◌, ℕ, ◌<◌, true, false, ◌&&◌, List, [], ◌∷◌, ◌++◌, append_assoc, length, get_or, set, refl, sym, ap, ◌∙◌, subst, get_or-set_same}
use Rattle.std.specs.Prelude.{◌==◌}
use Rattle.std.specs.List.{list_any}
use Rattle.std.proofs.lemmas.Bool.{and_parts, and_from, both_ways, eqb-true, eq-eqb}
use Rattle.quiesce_core.specs.declared.event.Event.{Event}
use Rattle.quiesce_core.specs.declared.event.Event.TheVariants.{Begin, Call}
use Rattle.quiesce_core.specs.declared.state.Exchange.{Exchange}
use Rattle.quiesce_core.specs.State.{State, fresh_exchange, owner, target, exchange}
use Rattle.quiesce_word.specs.Phases.{is_idle}
use Rattle.quiesce_core.specs.Effect.{effect}
use Rattle.quiesce_core.specs.Legal.{Legal}
use Rattle.quiesce_core.specs.Runs.{IsRun, state_after, is_begin_of, is_end_of}
use Rattle.quiesce_core.specs.Traffic.{IsConsistent}
use Rattle.quiesce_core.specs.WellFormed.{IsWellFormed}
use Rattle.quiesce_core.proofs.TableLaws.{exchange_place}
use Rattle.quiesce_core.proofs.StateLaws.{busy_made}
use Rattle.quiesce_core.proofs.StabilityLaws.{busy_ports_stay}
use Rattle.quiesce_core.proofs.AlterLaws.{reconfigured}
use Rattle.quiesce_core.proofs.ConfigurationLaws.{owner_kept}
use Rattle.quiesce_core.proofs.InductionLaws.{IsNext, place, along}
use Rattle.quiesce_laws.proofs.ExchangeLaws.{PortStep, stays, begins, calls, ends, port_step}

-- the last transaction of a port has this serial and has not ended
pub record IsOpen (x : Exchange) (k : ℕ) : Type 0 where
  pub busy : is_idle x.phase ≡ false
  pub serial : x.serial ≡ k

idle_ended : (x : Exchange) (k : ℕ) → IsOpen x k → is_idle x.phase ≡ true → ⊥
idle_ended x k h idle = both_ways (is_idle x.phase) h.busy idle

-- only its End ends it
pub open_next : (s : State) (e : Event) (p k : ℕ) → IsWellFormed s → IsConsistent s → Legal s e → IsOpen (exchange s p) k → is_end_of p k e ≡ false → IsOpen (exchange (effect s e) p) k
open_next s e p k w c l h going = by (port_step s e w c l p)
  where
    by : PortStep s e p (exchange (effect s e) p) → IsOpen (exchange (effect s e) p) k
    by (stays off serial within idle) = record { busy = idle ∙ h.busy; serial = serial ∙ h.serial }
    by (begins j v is may y) = absurd (idle_ended (exchange s p) k h may.idle)
    by (calls j v u is may served y) = absurd (idle_ended (exchange s p) k h may.idle)
    by (ends j v is may y) =
        let is_k : j ≡ k = eqb-true j (exchange s p).serial (and_parts (j == (exchange s p).serial) (v == (exchange s p).value) may.message).0 ∙ h.serial in
        absurd (both_ways (is_end_of p k e) going (ap (λ x. is_end_of p k x) is ∙ and_from (p == p) (j == k) (eq-eqb p p refl) (eq-eqb j k is_k)))

-- a begin or a call of the port and serial opens it, and leaves the configuration

begun_at : (s : State) (q j p k : ℕ) (x : Exchange) → q < length s.traffic.exchanges → is_idle x.phase ≡ false → x.serial ≡ j → (q == p && j == k) ≡ true
    → IsOpen (get_or (set s.traffic.exchanges q x) p fresh_exchange) k
begun_at s q j p k x made busy serial e =
    let both = and_parts (q == p) (j == k) e in
    let here : get_or (set s.traffic.exchanges q x) p fresh_exchange ≡ x =
    ap (λ i. get_or (set s.traffic.exchanges q x) i fresh_exchange) (sym (eqb-true q p both.0)) ∙ get_or-set_same s.traffic.exchanges q x fresh_exchange made in
    record { busy = ap (λ (y : Exchange). is_idle y.phase) here ∙ busy; serial = ap (λ (y : Exchange). y.serial) here ∙ serial ∙ eqb-true j k both.1 }

begins_next : (s : State) (e : Event) (p k : ℕ) → IsWellFormed s → Legal s e → is_begin_of p k e ≡ true → IsOpen (exchange (effect s e) p) k × ((effect s e).config ≡ s.config)
begins_next s (Begin q j v) p k w l e = (begun_at s q j p k _ (exchange_place s q w l.live) refl refl e, refl)
begins_next s (Call q j v) p k w l e = (begun_at s q j p k _ (exchange_place s q w l.live) refl refl e, refl)
begins_next s _ p k w l e = absurd (both_ways false refl e)

-- a transaction that was begun in one state is open in another, between the same two nodes
pub record IsGoing (old s : State) (p k : ℕ) : Type 0 where
  pub opens : IsOpen (exchange s p) k
  pub owner : owner s.config p ≡ owner old.config p
  pub target : target s.config p ≡ target old.config p

going_next : (old : State) (p k : ℕ) (before : List Event) (e : Event) → IsNext before e → is_end_of p k e ≡ false → IsGoing old (state_after before) p k → IsGoing old (state_after (before ++ e ∷ [])) p k
going_next old p k before e here going h =
    subst (λ s. IsGoing old s p k) (sym here.next) (record {
      opens = open_next (state_after before) e p k here.well here.traffic here.legal h.opens going;
      owner = owner_kept (state_after before).config _ e (reconfigured (state_after before) e here.legal) p (busy_made (state_after before) p here.traffic h.opens.busy) ∙ h.owner;
      target = busy_ports_stay (state_after before) e here.well here.traffic here.legal p h.opens.busy ∙ h.target;
    })

-- as long as no End of it comes
pub going : (before after : List Event) (e : Event) (p k : ℕ) → IsRun (before ++ e ∷ after) → is_begin_of p k e ≡ true → list_any (is_end_of p k) after ≡ false
    → IsGoing (state_after before) (state_after (before ++ e ∷ after)) p k
going before after e p k run begun_ unended =
    let here = place before after e run in
    let began = begins_next (state_after before) e p k here.well here.legal begun_ in
    let start : IsGoing (state_after before) (state_after (before ++ e ∷ [])) p k =
    subst (λ s. IsGoing (state_after before) s p k) (sym here.next) (record { opens = began.0; owner = ap (λ c. owner c p) began.1; target = ap (λ c. target c p) began.1 }) in
    let whole = append_assoc before (e ∷ []) after in
    subst (λ xs. IsGoing (state_after before) (state_after xs) p k) whole
    (along (λ xs. IsGoing (state_after before) (state_after xs) p k) (is_end_of p k) (going_next (state_after before) p k) (before ++ e ∷ []) after (subst (λ xs. IsRun xs) (sym whole) run) unended start)
