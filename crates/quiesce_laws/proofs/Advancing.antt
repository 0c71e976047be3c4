-- The events of transactions are those of transactions that are open.
use Rattle.std.proofs.Common.{◌≡◌, ℕ, true, false, not, ◌&&◌, ◌||◌, Some, None, refl, sym, ap, ◌∙◌, ⊎_elim}
use Rattle.std.specs.Prelude.{◌==◌, nat_lt, option_map}
use Rattle.std.specs.Option.{option_map_or}
use Rattle.std.proofs.Math.Bool.{or-false}
use Rattle.std.proofs.lemmas.Bool.{and_from, and_parts, both_ways, cases_Bool, eq-eqb, eqb-true}
use Rattle.quiesce_core.specs.declared.event.Event.{Event}
use Rattle.quiesce_core.specs.declared.event.Event.TheVariants.{Begin, Call, Take, Give, End, More, Ask, Hear, Miss, Close, Reopen, Make, Link, Unlink, Remove}
use Rattle.quiesce_core.specs.declared.state.Service.{Service}
use Rattle.quiesce_core.specs.Legal.{Legal}
use Rattle.quiesce_word.specs.Phases.{is_idle}
use Rattle.quiesce_core.specs.Rules.{has_calls_left}
use Rattle.quiesce_core.specs.State.{State, owner, provision, calls_allowed, exchange, service}
use Rattle.quiesce_core.specs.Traffic.{IsConsistent}
use Rattle.base.proofs.OptionLaws.{map_or_true}
use Rattle.quiesce_core.proofs.StateLaws.{taken_busy}
use Rattle.quiesce_word.proofs.PhaseLaws.{asked_busy, more_busy, answered_busy, serving_busy}
use Rattle.quiesce_laws.specs.Events.{is_of_initiator, is_of_target}
use Rattle.quiesce_laws.proofs.LogLaws.{last_named}
use Rattle.quiesce_laws.specs.Advances.{is_advance, is_begin, advanced_port}
use Rattle.quiesce_core.specs.Doers.{is_of_change}
use Rattle.quiesce_laws.specs.Belongs.{belongs, is_event_of, singleton, open_in}
use Rattle.quiesce_laws.proofs.Belonging.{member_belongs, open_belongs}

-- which events these are
pub advances_are_others : (e : Event) → is_advance e ≡ (not (is_of_change e) && not (is_begin e))
advances_are_others (Begin p k v) = refl
advances_are_others (Call p k v) = refl
advances_are_others (Take p k v) = refl
advances_are_others (Give p k v) = refl
advances_are_others (End p k v) = refl
advances_are_others (More p k v) = refl
advances_are_others (Ask p k v) = refl
advances_are_others (Hear p k v) = refl
advances_are_others (Miss p) = refl
advances_are_others (Close p) = refl
advances_are_others (Reopen p) = refl
advances_are_others (Make n node from) = refl
advances_are_others (Link p n x) = refl
advances_are_others (Unlink p) = refl
advances_are_others (Remove n) = refl

-- the port of whose transaction an event is, which is open
pub record IsOfOpen (s : State) (e : Event) : Type 0 where
  pub port : ℕ
  pub of_it : advanced_port s e ≡ Some port
  pub open_ : is_idle (exchange s port).phase ≡ false

-- a call or a miss is of what the caller services
of_caller : (s : State) (p : ℕ) → IsConsistent s → has_calls_left s (owner s.config p) ≡ true → (q : ℕ) × (option_map (λ (w : Service). w.port) (service s (owner s.config p)) ≡ Some q) × (is_idle (exchange s q).phase ≡ false)
of_caller s p c h =
    let v = map_or_true (λ (x : Service). nat_lt x.calls (calls_allowed s.config (owner s.config p) (provision s.config x.port))) (service s (owner s.config p)) h in
    (v.0.port, ap (λ o. option_map (λ (w : Service). w.port) o) v.1, serving_busy (exchange s v.0.port).phase (c.serving (owner s.config p) v.0 v.1).busy)

pub advance_port : (s : State) (e : Event) → IsConsistent s → Legal s e → is_advance e ≡ true → IsOfOpen s e
advance_port s (Call p k v) c l h = let at = of_caller s p c l.calls_left in record { port = at.0; of_it = at.1; open_ = at.2 }
advance_port s (Miss p) c l h = let at = of_caller s p c l.calls_left in record { port = at.0; of_it = at.1; open_ = at.2 }
advance_port s (Take p k v) c l h = record { port = p; of_it = refl; open_ = asked_busy (exchange s p).phase l.asked }
advance_port s (Give p k v) c l h = record { port = p; of_it = refl; open_ = taken_busy s p c l.taken }
advance_port s (More p k v) c l h = record { port = p; of_it = refl; open_ = taken_busy s p c l.taken }
advance_port s (Hear p k v) c l h = record { port = p; of_it = refl; open_ = taken_busy s p c l.taken }
advance_port s (Ask p k v) c l h = record { port = p; of_it = refl; open_ = more_busy (exchange s p).phase l.in_more }
advance_port s (End p k v) c l h = record { port = p; of_it = refl; open_ = answered_busy (exchange s p).phase l.answered }
advance_port s _ c l h = absurd (both_ways false refl h)

other_port : (s : State) (e : Event) → is_advance e ≡ false → advanced_port s e ≡ None
other_port s (Call p k v) h = absurd (both_ways true h refl)
other_port s (Miss p) h = absurd (both_ways true h refl)
other_port s (Take p k v) h = absurd (both_ways true h refl)
other_port s (Give p k v) h = absurd (both_ways true h refl)
other_port s (More p k v) h = absurd (both_ways true h refl)
other_port s (Hear p k v) h = absurd (both_ways true h refl)
other_port s (Ask p k v) h = absurd (both_ways true h refl)
other_port s (End p k v) h = absurd (both_ways true h refl)
other_port s _ h = refl

-- exactly the events of transactions are of what is open
pub of_the_open : (s : State) (e : Event) → IsConsistent s → Legal s e → is_event_of (open_in s) s e ≡ is_advance e
of_the_open s e c l = ⊎_elim
    (λ (yes_ : is_advance e ≡ true).
    let o = advance_port s e c l yes_ in ap (λ x. option_map_or (belongs (open_in s) s) x false) o.of_it ∙ open_belongs s o.port o.open_ ∙ sym yes_)
    (λ (no_ : is_advance e ≡ false). ap (λ x. option_map_or (belongs (open_in s) s) x false) (other_port s e no_) ∙ sym no_)
    (cases_Bool (is_advance e))

-- an event that names a transaction is of the one that it names
its_own : (s : State) (p k q j : ℕ) → (q == p && j == k) ≡ true → (j == (exchange s q).serial) ≡ true → belongs (singleton p k) s q ≡ true
its_own s p k q j named serial =
    let both = and_parts (q == p) (j == k) named in
    let same : (exchange s q).serial ≡ k = sym (eqb-true j (exchange s q).serial serial) ∙ eqb-true j k both.1 in
    member_belongs (singleton p k) s q (and_from (q == p) ((exchange s q).serial == k) both.0 (eq-eqb (exchange s q).serial k same))

pub of_the_named : (s : State) (e : Event) (p k : ℕ) → Legal s e → (is_of_initiator p k e || is_of_target p k e) ≡ true → is_event_of (singleton p k) s e ≡ true
of_the_named s (Take q j v) p k l h = its_own s p k q j h (last_named s q j v l.message)
of_the_named s (Hear q j v) p k l h = its_own s p k q j h (last_named s q j v l.message)
of_the_named s (Give q j v) p k l h = its_own s p k q j h l.serial
of_the_named s (More q j v) p k l h = its_own s p k q j h l.serial
of_the_named s (Ask q j v) p k l h = its_own s p k q j (sym (or-false (q == p && j == k)) ∙ h) l.serial
of_the_named s (End q j v) p k l h = its_own s p k q j (sym (or-false (q == p && j == k)) ∙ h) (last_named s q j v l.message)
of_the_named s _ p k l h = absurd (both_ways false refl h)
