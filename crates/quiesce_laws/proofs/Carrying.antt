-- What belongs to a set of transactions after an event: what did before, and a port that is called where its caller does.
use Rattle.std.proofs.Common.{◌≡◌, ℕ, ◌≤◌, Bool, true, false, eqb, Some, refl, sym, ap, ◌∙◌, subst, arith}
use Rattle.std.specs.Prelude.{option_map}
use Rattle.std.specs.Option.{option_map_or}
use Rattle.std.proofs.lemmas.Bool.{both_ways, cond-true, cond-false, eq-eqb, false_from_ne_true, ne_eqb}
use Rattle.quiesce_core.specs.declared.event.Event.{Event}
use Rattle.quiesce_core.specs.declared.event.Event.TheVariants.{Begin, Call}
use Rattle.quiesce_core.specs.declared.state.Exchange.{Exchange}
use Rattle.quiesce_core.specs.declared.state.Service.{Service}
use Rattle.quiesce_core.specs.State.{State, owner, exchange, service}
use Rattle.quiesce_word.specs.Phases.{is_idle}
use Rattle.quiesce_core.specs.Effect.{effect}
use Rattle.quiesce_core.specs.Legal.{Legal}
use Rattle.quiesce_core.specs.Traffic.{IsConsistent}
use Rattle.quiesce_core.specs.WellFormed.{IsWellFormed}
use Rattle.quiesce_word.proofs.PhaseLaws.{serving_busy}
use Rattle.quiesce_core.proofs.TrafficLaws.{consistent_next}
use Rattle.quiesce_laws.proofs.ExchangeLaws.{PortStep, stays, begins, calls, ends, turns_at, port_step, served_untouched}
use Rattle.quiesce_core.proofs.PortEventLaws.{next_serial}
use Rattle.quiesce_laws.specs.Belongs.{Transactions, Belongs, member, consequent, belongs, is_member, starts_one}
use Rattle.quiesce_laws.specs.Advances.{advanced_port}
use Rattle.quiesce_laws.proofs.Belonging.{belongs_if, belongs_is_found, member_belongs}
use Rattle.quiesce_laws.proofs.Sharing.{marked_after}

-- the port for which an open transaction was called is open too
pub caller_busy : (s : State) (p r : ℕ) → IsConsistent s → (exchange s p).within ≡ Some r → is_idle (exchange s r).phase ≡ false
caller_busy s p r c e =
    let h = c.consequent p r e in
    sym (ap (λ i. is_idle (exchange s i).phase) h.of_port) ∙ serving_busy (exchange s h.serving.port).phase (c.serving (owner s.config p) h.serving h.serviced).busy

-- a port is marked as it was where the event turns elsewhere
marked_there : (b : ℕ → Bool) (s : State) (e : Event) (q : ℕ) → (turns_at e ≡ Some q → ⊥) → marked_after b s e q ≡ b q
marked_there b s (Begin p k v) q off = cond-false (eqb q p) false (b q) (ne_eqb q p (λ same. off (ap Some (sym same))))
marked_there b s (Call p k v) q off = cond-false (eqb q p) (option_map_or b (advanced_port s (Call p k v)) false) (b q) (ne_eqb q p (λ same. off (ap Some (sym same))))
marked_there b s _ q off = refl

-- and a port that is called as its caller
marked_called : (b : ℕ → Bool) (s : State) (q k v : ℕ) (u : Service) → service s (owner s.config q) ≡ Some u → marked_after b s (Call q k v) q ≡ b u.port
marked_called b s q k v u served =
    cond-true (eqb q q) (option_map_or b (advanced_port s (Call q k v)) false) (b q) (eq-eqb q q refl) ∙ ap (λ o. option_map_or b (option_map (λ (x : Service). x.port) o) false) served

module _ (set : Transactions) (s : State) (e : Event) (w : IsWellFormed s) (c : IsConsistent s) (l : Legal s e) (off : starts_one set e ≡ false) where
  -- of two that contradict each other
  ended : (q : ℕ) → is_idle (exchange (effect s e) q).phase ≡ false → is_idle (exchange (effect s e) q).phase ≡ true → marked_after (belongs set s) s e q ≡ true
  ended q busy idle = absurd (both_ways (is_idle (exchange (effect s e) q).phase) busy idle)

  fresh : (q k : ℕ) → starts_one set e ≡ set q k → (exchange (effect s e) q).serial ≡ k → is_member set (effect s e) q ≡ true → marked_after (belongs set s) s e q ≡ true
  fresh q k here serial is = absurd (both_ways (set q k) (sym here ∙ off) (sym (ap (λ i. set q i) serial) ∙ is))

  of_member : (q : ℕ) → is_idle (exchange (effect s e) q).phase ≡ false → is_member set (effect s e) q ≡ true → PortStep s e q (exchange (effect s e) q) → marked_after (belongs set s) s e q ≡ true
  of_member q busy is (stays turns serial within idle) = marked_there (belongs set s) s e q turns ∙ member_belongs set s q (ap (λ i. set q i) (sym serial) ∙ is)
  of_member q busy is (begins k v it may y) = fresh q k (ap (λ x. starts_one set x) it) (ap (λ (x : Exchange). x.serial) y) is
  of_member q busy is (calls k v u it may served y) = fresh q k (ap (λ x. starts_one set x) it) (ap (λ (x : Exchange). x.serial) y) is
  of_member q busy is (ends k v it may y) = ended q busy (ap (λ (x : Exchange). is_idle x.phase) y)

  -- a port that is serviced was marked before where it is after
  of_served : (m : ℕ) (v : Service) → service s m ≡ Some v → marked_after (belongs set s) s e v.port ≡ true → belongs set s v.port ≡ true
  of_served m v served on = sym (marked_there (belongs set s) s e v.port (served_untouched s e c l m v served)) ∙ on

  of_consequent : (q r : ℕ) → is_idle (exchange (effect s e) q).phase ≡ false → (exchange (effect s e) q).within ≡ Some r → marked_after (belongs set s) s e r ≡ true
      → PortStep s e q (exchange (effect s e) q) → marked_after (belongs set s) s e q ≡ true
  of_consequent q r busy within_is on (stays turns serial within idle) =
      let was : (exchange s q).within ≡ Some r = sym within ∙ within_is in
      let h = c.consequent q r was in
      let caller : belongs set s r ≡ true = subst (λ i. belongs set s i ≡ true) h.of_port
      (of_served (owner s.config q) h.serving h.serviced (subst (λ i. marked_after (belongs set s) s e i ≡ true) (sym h.of_port) on)) in
      marked_there (belongs set s) s e q turns ∙ (belongs_is_found set s w c q).1 (consequent q r was (belongs_if set s r caller))
  of_consequent q r busy within_is on (begins k v it may y) = absurd (cc (within_is, ap (λ (x : Exchange). x.within) y))
  of_consequent q r busy within_is on (calls k v u it may served y) =
      let same : r ≡ u.port = cc (within_is, ap (λ (x : Exchange). x.within) y) in
      let caller = of_served (owner s.config q) u served (subst (λ i. marked_after (belongs set s) s e i ≡ true) same on) in
      ap (λ x. marked_after (belongs set s) s x q) it ∙ marked_called (belongs set s) s q k v u served ∙ caller
  of_consequent q r busy within_is on (ends k v it may y) = ended q busy (ap (λ (x : Exchange). is_idle x.phase) y)

  follows_from : (q : ℕ) → is_idle (exchange (effect s e) q).phase ≡ false → Belongs set (effect s e) q → marked_after (belongs set s) s e q ≡ true
  follows_from q busy (member i is) = of_member i busy is (port_step s e w c l i)
  follows_from q busy (consequent i r within b) =
      of_consequent i r busy within (follows_from r (caller_busy (effect s e) i r (consistent_next s e w c l) within) b) (port_step s e w c l i)

  -- what belongs to a set after an event is followed from what did before
  pub follows : (q : ℕ) → is_idle (exchange (effect s e) q).phase ≡ false → belongs set (effect s e) q ≡ true → marked_after (belongs set s) s e q ≡ true
  follows q busy h = follows_from q busy (belongs_if set (effect s e) q h)

-- the serials of a set have come
pub record HasCome (set : Transactions) (s : State) : Type 0 where
  pub come : (q j : ℕ) → set q j ≡ true → j ≤ (exchange s q).serial

-- so none of them is started
pub none_starts : (set : Transactions) (s : State) (e : Event) → HasCome set s → Legal s e → starts_one set e ≡ false
none_starts set s (Begin p k v) h l = false_from_ne_true (set p k) (λ is. omega (arith, next_serial s p k l.next_serial, h.come p k is))
none_starts set s (Call p k v) h l = false_from_ne_true (set p k) (λ is. omega (arith, next_serial s p k l.next_serial, h.come p k is))
none_starts set s _ h l = refl
