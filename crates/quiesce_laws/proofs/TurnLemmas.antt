-- Whose turn it is at a port, and what an event leaves at other ports and of other nodes' services.
use Rattle.std.proofs.Common.{◌≡◌, ◌∙◌, ℕ, true, false, cond, refl, sym, ap, subst, ⊎_elim}
use Rattle.std.proofs.lemmas.Bool.{both_ways, eqb-true, ne_eqb, or_cases}
use Rattle.quiesce_word.specs.Phases.{is_asked, is_in_more}
use Rattle.quiesce_word.specs.declared.phase.Phase.TheVariants as phase
use Rattle.quiesce_word.proofs.PhaseLaws.{answered_not_asked, idle_not_asked, more_not_asked}
use Rattle.quiesce_core.specs.declared.event.Event.{Event}
use Rattle.quiesce_core.specs.declared.event.Event.TheVariants.{Begin, Call, Take, Give, End, More, Ask, Hear, Miss, Close, Reopen, Make, Link, Unlink, Remove}
use Rattle.quiesce_core.specs.State.{State, exchange, owner, service, target_service}
use Rattle.quiesce_core.specs.Alters.{exchange_by, exchange_next, is_message_at, service_by, service_next}
use Rattle.quiesce_core.specs.Doers.{is_of_change, is_of_owner}
use Rattle.quiesce_core.specs.Effect.{effect}
use Rattle.quiesce_core.specs.Legal.{Legal}
use Rattle.quiesce_core.specs.Rules.{is_taken, was_heard}
use Rattle.quiesce_core.specs.Runs.{is_doer}
use Rattle.quiesce_core.specs.Traffic.{IsConsistent}
use Rattle.quiesce_core.specs.WellFormed.{IsWellFormed}
use Rattle.quiesce_core.proofs.AlterLaws.{exchanges_next, services_next}
use Rattle.quiesce_core.proofs.StateLaws.{taken_is, target_service_is}
use Rattle.quiesce_laws.proofs.ExchangeLaws.{PortStep, stays, begins, calls, ends, port_step}
use Rattle.quiesce_laws.proofs.SwapDoerLaws.{port_of}

-- the owner's, where nothing is asked there
pub owners_turn : (s : State) (e : Event) → is_of_owner e ≡ true → Legal s e → is_asked (exchange s (port_of e)).phase ≡ false
owners_turn s (Begin p k v) o l = idle_not_asked (exchange s p).phase l.idle
owners_turn s (Call p k v) o l = idle_not_asked (exchange s p).phase l.idle
owners_turn s (Miss p) o l = idle_not_asked (exchange s p).phase l.idle
owners_turn s (Ask p k v) o l = more_not_asked (exchange s p).phase l.in_more
owners_turn s (End p k v) o l = answered_not_asked (exchange s p).phase l.answered
owners_turn s _ o l = absurd (both_ways false refl o)

-- the target's, where something is
answers_asked : (s : State) (p : ℕ) → IsConsistent s → is_taken s p ≡ true → was_heard (target_service s p) ≡ true → is_asked (exchange s p).phase ≡ true
answers_asked s p c taken heard =
    let u = taken_is s p taken in
    let k = c.serving u.to.node u.serving u.serviced in
    let at : was_heard (target_service s p) ≡ u.serving.heard = ap was_heard (target_service_is s p u.to u.leads ∙ u.serviced) in
    ap (λ q. is_asked (exchange s q).phase) (sym u.of_port) ∙ ⊎_elim
    (λ (asked : is_asked (exchange s u.serving.port).phase ≡ true). asked)
    (λ (more_ : is_in_more (exchange s u.serving.port).phase ≡ true). absurd (both_ways u.serving.heard (k.waits more_) (sym at ∙ heard)))
    (or_cases (is_asked (exchange s u.serving.port).phase) (is_in_more (exchange s u.serving.port).phase) k.busy)

pub targets_turn : (s : State) (e : Event) → IsConsistent s → is_of_change e ≡ false → is_of_owner e ≡ false → Legal s e → is_asked (exchange s (port_of e)).phase ≡ true
targets_turn s (Take p k v) c n o l = l.asked
targets_turn s (Give p k v) c n o l = answers_asked s p c l.taken l.heard
targets_turn s (More p k v) c n o l = answers_asked s p c l.taken l.heard
targets_turn s (Hear p k v) c n o l = l.asked
targets_turn s (Close p) c n o l = absurd (both_ways true n refl)
targets_turn s (Reopen p) c n o l = absurd (both_ways true n refl)
targets_turn s (Make k node from) c n o l = absurd (both_ways true n refl)
targets_turn s (Link p k x) c n o l = absurd (both_ways true n refl)
targets_turn s (Unlink p) c n o l = absurd (both_ways true n refl)
targets_turn s (Remove k) c n o l = absurd (both_ways true n refl)
targets_turn s _ c n o l = absurd (both_ways true o refl)

-- ---- what an event leaves

pub elsewhere : (e : Event) (q : ℕ) → (port_of e ≡ q → ⊥) → is_message_at q e ≡ false
elsewhere (Begin p k v) q other = ne_eqb p q other
elsewhere (Call p k v) q other = ne_eqb p q other
elsewhere (Give p k v) q other = ne_eqb p q other
elsewhere (More p k v) q other = ne_eqb p q other
elsewhere (Ask p k v) q other = ne_eqb p q other
elsewhere (End p k v) q other = ne_eqb p q other
elsewhere _ q other = refl

not_there : (s : State) (e : Event) (q : ℕ) → (port_of e ≡ q → ⊥) → exchange_next s q e ≡ exchange s q
not_there s e q other = ap (λ b. cond b (exchange_by (service s (owner s.config q)) (exchange s q) e) (exchange s q)) (elsewhere e q other)

pub exchange_stays : (s : State) (e : Event) → IsWellFormed s → Legal s e → (q : ℕ) → (port_of e ≡ q → ⊥) → exchange (effect s e) q ≡ exchange s q
exchange_stays s e w l q other = exchanges_next s e w l q ∙ not_there s e q other

not_its : (s : State) (e : Event) (n : ℕ) → is_doer s n e ≡ false → service_next s n e ≡ service s n
not_its s e n other = ap (λ b. cond b (service_by (service s n) e) (service s n)) other

pub service_stays : (s : State) (e : Event) → IsWellFormed s → Legal s e → (n : ℕ) → is_doer s n e ≡ false → service (effect s e) n ≡ service s n
service_stays s e w l n other = services_next s e w l n ∙ not_its s e n other

-- to which service a port's transaction belongs, none but its owner changes
pub within_stays : (s : State) (e : Event) → IsWellFormed s → IsConsistent s → Legal s e → (i : ℕ) → is_doer s i e ≡ true → (q : ℕ) → (owner s.config q ≡ i → ⊥)
    → (exchange (effect s e) q).within ≡ (exchange s q).within
within_stays s e w c l i does q other = by (port_step s e w c l q)
  where
    by : PortStep s e q (exchange (effect s e) q) → (exchange (effect s e) q).within ≡ (exchange s q).within
    by (stays off serial within idle) = within
    by (begins k v is may y) = absurd (other (eqb-true (owner s.config q) i (subst (λ x. is_doer s i x ≡ true) is does)))
    by (calls k v u is may served y) = absurd (other (eqb-true (owner s.config q) i (subst (λ x. is_doer s i x ≡ true) is does)))
    by (ends k v is may y) = absurd (other (eqb-true (owner s.config q) i (subst (λ x. is_doer s i x ≡ true) is does)))
