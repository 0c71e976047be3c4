-- The transactions of a port that have ended are those up to its serial, but for the last where it is open.
use Rattle.std.proofs.Common.{◌≡◌, ℕ, ◌+◌, ◌≤◌, true, false, cond, List, [], ◌∷◌, ◌++◌, refl, sym, ap, ◌∙◌, subst, arith}
use Rattle.std.specs.List.{count_by}
use Rattle.std.proofs.lemmas.Bool.{eq-eqb, false_from_ne_true}
use Rattle.std.proofs.lemmas.List.Sums.{sum_by_push}
use Rattle.quiesce_core.specs.declared.event.Event.{Event}
use Rattle.quiesce_core.specs.declared.state.Exchange.{Exchange}
use Rattle.quiesce_core.specs.State.{State, exchange}
use Rattle.quiesce_word.specs.Phases.{is_idle}
use Rattle.quiesce_core.specs.Effect.{effect}
use Rattle.quiesce_core.specs.Legal.{Legal}
use Rattle.quiesce_core.specs.Runs.{IsRun, state_after}
use Rattle.quiesce_core.specs.Traffic.{IsConsistent}
use Rattle.quiesce_core.specs.WellFormed.{IsWellFormed}
use Rattle.quiesce_core.specs.Doers.{is_end_at}
use Rattle.quiesce_core.proofs.InductionLaws.{IsNext, always}
use Rattle.quiesce_word.proofs.PhaseLaws.{answered_busy}
use Rattle.quiesce_laws.proofs.ExchangeLaws.{PortStep, stays, begins, calls, ends, port_step, end_turns}
use Rattle.quiesce_core.proofs.PortEventLaws.{next_serial}

-- so many ended, and one more where one is open
pub record IsTallied (n : ℕ) (x : Exchange) : Type 0 where
  pub count : n + cond (is_idle x.phase) 0 1 ≡ x.serial

pub when_busy : (n : ℕ) (x : Exchange) → IsTallied n x → is_idle x.phase ≡ false → n + 1 ≡ x.serial
when_busy n x h busy = sym (ap (λ b. n + cond b 0 1) busy) ∙ h.count

when_idle : (n : ℕ) (x : Exchange) → IsTallied n x → is_idle x.phase ≡ true → n ≡ x.serial
when_idle n x h idle = let c : n + 0 ≡ x.serial = sym (ap (λ b. n + cond b 0 1) idle) ∙ h.count in omega arith

-- an event that ends none of the port is counted by 0
uncounted : (p : ℕ) (e : Event) → (is_end_at p e ≡ true → ⊥) → ◌≡◌ {A = ℕ} (cond (is_end_at p e) 1 0) 0
uncounted p e off = ap (λ b. cond b 1 0) (false_from_ne_true (is_end_at p e) off)

tally_next : (s : State) (e : Event) (p n : ℕ) → IsWellFormed s → IsConsistent s → Legal s e → IsTallied n (exchange s p) → IsTallied (n + cond (is_end_at p e) 1 0) (exchange (effect s e) p)
tally_next s e p n w c l h = by (port_step s e w c l p)
  where
    opened : (k : ℕ) (y : Exchange) → is_end_at p e ≡ false → is_idle (exchange s p).phase ≡ true → k ≡ (exchange s p).serial + 1 → y.serial ≡ k → is_idle y.phase ≡ false
        → IsTallied (n + cond (is_end_at p e) 1 0) y
    opened k y off idle next serial busy =
        let was = when_idle n (exchange s p) h idle in
        let zero_ : ◌≡◌ {A = ℕ} (cond (is_end_at p e) 1 0) 0 = ap (λ b. cond b 1 0) off in
        record { count = ap (λ b. n + cond (is_end_at p e) 1 0 + cond b 0 1) busy ∙ omega (arith, zero_, was, next, serial) }

    by : PortStep s e p (exchange (effect s e) p) → IsTallied (n + cond (is_end_at p e) 1 0) (exchange (effect s e) p)
    by (stays off serial within idle) =
        let zero_ = uncounted p e (λ ends_. off (end_turns p e ends_)) in
        record { count = ap (λ b. n + cond (is_end_at p e) 1 0 + cond b 0 1) idle ∙ omega (arith, zero_, h.count, serial) }
    by (begins k v is may y) =
        opened k (exchange (effect s e) p) (ap (λ x. is_end_at p x) is) may.idle (next_serial s p k may.next_serial) (ap (λ (x : Exchange). x.serial) y) (ap (λ (x : Exchange). is_idle x.phase) y)
    by (calls k v u is may served y) =
        opened k (exchange (effect s e) p) (ap (λ x. is_end_at p x) is) may.idle (next_serial s p k may.next_serial) (ap (λ (x : Exchange). x.serial) y) (ap (λ (x : Exchange). is_idle x.phase) y)
    by (ends k v is may y) =
        let was = when_busy n (exchange s p) h (answered_busy (exchange s p).phase may.answered) in
        let one : ◌≡◌ {A = ℕ} (cond (is_end_at p e) 1 0) 1 = ap (λ b. cond b 1 0) (ap (λ x. is_end_at p x) is ∙ eq-eqb p p refl) in
        record { count = ap (λ (x : Exchange). n + cond (is_end_at p e) 1 0 + cond (is_idle x.phase) 0 1) y ∙ omega (arith, one, was, ap (λ (x : Exchange). x.serial) y) }

pub tallied_next : (p : ℕ) (xs : List Event) (e : Event) → IsNext xs e → IsTallied (count_by (is_end_at p) xs) (exchange (state_after xs) p)
    → IsTallied (count_by (is_end_at p) (xs ++ e ∷ [])) (exchange (state_after (xs ++ e ∷ [])) p)
tallied_next p xs e here h =
    subst (λ i. IsTallied i (exchange (state_after (xs ++ e ∷ [])) p)) (sym (sum_by_push (λ x. cond (is_end_at p x) 1 0) xs e))
    (subst (λ s. IsTallied (count_by (is_end_at p) xs + cond (is_end_at p e) 1 0) (exchange s p)) (sym here.next) (tally_next (state_after xs) e p (count_by (is_end_at p) xs) here.well here.traffic here.legal h))

pub tallied_empty : (p : ℕ) → IsTallied 0 (exchange (state_after []) p)
tallied_empty p = record { count = refl }

-- after every run
pub tallied : (es : List Event) (p : ℕ) → IsRun es → IsTallied (count_by (is_end_at p) es) (exchange (state_after es) p)
tallied es p run = always (λ xs. IsTallied (count_by (is_end_at p) xs) (exchange (state_after xs) p)) (tallied_next p) (tallied_empty p) es run

-- an open transaction has a serial above 0
pub busy_serial : (n : ℕ) (x : Exchange) → IsTallied n x → is_idle x.phase ≡ false → 1 ≤ x.serial
busy_serial n x h busy = omega (arith, when_busy n x h busy)
