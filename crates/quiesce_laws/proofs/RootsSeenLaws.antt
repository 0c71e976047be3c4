-- A port's last transaction is a root exactly where it was begun.
use Rattle.std.proofs.Common.{◌≡◌, ℕ, ◌+◌, ◌<◌, Bool, true, false, not, ◌&&◌, ◌||◌, List, [], ◌∷◌, ◌++◌, refl, sym, ap, ◌∙◌, subst, ⊎_elim, arith}
use Rattle.std.specs.Prelude.{◌==◌, nat_le, is_some}
use Rattle.std.specs.List.{list_any}
use Rattle.std.proofs.Math.Bool.{and-false, and-true, or-false}
use Rattle.std.proofs.lemmas.Bool.{both_ways, false_from_ne_true, cases_Bool, and_from, and_parts, eqb-true, eq-eqb, not-true, or_cases, or_left, or_right, lt-leb}
use Rattle.std.proofs.lemmas.List.Folds.{list_any-append}
use Rattle.quiesce_core.specs.declared.event.Event.{Event}
use Rattle.quiesce_core.specs.declared.event.Event.TheVariants.{Begin}
use Rattle.quiesce_core.specs.declared.state.Exchange.{Exchange}
use Rattle.quiesce_core.specs.State.{exchange}
use Rattle.quiesce_word.specs.Phases.{is_idle}
use Rattle.quiesce_core.specs.Effect.{effect}
use Rattle.quiesce_core.specs.Runs.{IsRun, state_after, is_begin_of, is_end_of, is_open_after}
use Rattle.quiesce_laws.specs.Events.{is_root_of}
use Rattle.quiesce_laws.specs.Roots.{has_root, is_open_root_after}
use Rattle.quiesce_core.proofs.InductionLaws.{IsNext, always}
use Rattle.quiesce_laws.proofs.OpenLaws.{IsOpen}
use Rattle.quiesce_laws.proofs.OrderLaws.{any_counted, begun_count, was_begun, open_is_seen}
use Rattle.quiesce_laws.proofs.ExchangeLaws.{PortStep, stays, begins, calls, ends, port_step, begin_turns}
use Rattle.quiesce_core.proofs.PortEventLaws.{next_serial}

-- a begin of a root is a begin
root_begins : (p k : ℕ) (e : Event) → is_root_of p k e ≡ true → is_begin_of p k e ≡ true
root_begins p k (Begin q j v) h = h
root_begins p k _ h = absurd (both_ways false refl h)

root_begun : (p k : ℕ) (es : List Event) → list_any (is_root_of p k) es ≡ true → list_any (is_begin_of p k) es ≡ true
root_begun p k [] h = absurd (both_ways false refl h)
root_begun p k (e ∷ es) h = ⊎_elim
    (λ (here : is_root_of p k e ≡ true). or_left (is_begin_of p k e) (list_any (is_begin_of p k) es) (root_begins p k e here))
    (λ (there : list_any (is_root_of p k) es ≡ true). or_right (is_begin_of p k e) (list_any (is_begin_of p k) es) (root_begun p k es there))
    (or_cases (is_root_of p k e) (list_any (is_root_of p k) es) h)

-- where the transaction is open, it is a root exactly if this says so
abbrev Tells : Exchange → ℕ → Bool → Type 0
Tells x k b = IsOpen x k → b ≡ not (is_some x.within)

module _ (p k : ℕ) (xs : List Event) where
  was : Bool
  was = list_any (is_root_of p k) xs

  -- a serial that is yet to come was not begun
  unborn : IsRun xs → (exchange (state_after xs) p).serial < k → was ≡ false
  unfolding was
  unborn run less = ⊎_elim
      (λ (yes_ : list_any (is_root_of p k) xs ≡ true).
      let n = (exchange (state_after xs) p).serial in
      let none_ : was_begun n k ≡ false = ap (λ b. nat_le 1 k && b) (lt-leb k n less) ∙ and-false (nat_le 1 k) in
      absurd (both_ways (list_any (is_begin_of p k) xs) (any_counted (is_begin_of p k) xs (was_begun n k) (begun_count xs p k run) ∙ none_) (root_begun p k xs yes_)))
      (λ (no_ : list_any (is_root_of p k) xs ≡ false). no_)
      (cases_Bool (list_any (is_root_of p k) xs))

  tells_next : (e : Event) → IsNext xs e → Tells (exchange (state_after xs) p) k was → Tells (exchange (effect (state_after xs) e) p) k (was || (is_root_of p k e || false))
  tells_next e here h = by (port_step (state_after xs) e here.well here.traffic here.legal p)
    where
      by : PortStep (state_after xs) e p (exchange (effect (state_after xs) e) p) → Tells (exchange (effect (state_after xs) e) p) k (was || (is_root_of p k e || false))
      by (stays off serial within idle) = λ o.
          let none_ : is_root_of p k e ≡ false = false_from_ne_true (is_root_of p k e) (λ r. off (begin_turns p k e (root_begins p k e r))) in
          ap (λ b. was || (b || false)) none_ ∙ or-false was ∙ h (record { busy = sym idle ∙ o.busy; serial = sym serial ∙ o.serial }) ∙ ap (λ w. not (is_some w)) (sym within)
      by (begins j v is may y) = λ o.
          let it : is_root_of p k e ≡ true = ap (λ x. is_root_of p k x) is ∙ and_from (p == p) (j == k) (eq-eqb p p refl) (eq-eqb j k (sym (ap (λ (x : Exchange). x.serial) y) ∙ o.serial)) in
          or_right was (is_root_of p k e || false) (or_left (is_root_of p k e) false it) ∙ sym (ap (λ (x : Exchange). not (is_some x.within)) y)
      by (calls j v u is may served y) = λ o.
          let next : j ≡ (exchange (state_after xs) p).serial + 1 = next_serial (state_after xs) p j may.next_serial in
          let less : (exchange (state_after xs) p).serial < k = omega (arith, next, o.serial, ap (λ (x : Exchange). x.serial) y) in
          ap (λ b. was || (b || false)) (ap (λ x. is_root_of p k x) is) ∙ or-false was ∙ unborn here.run less ∙ sym (ap (λ (x : Exchange). not (is_some x.within)) y)
      by (ends j v is may y) = λ o. absurd (both_ways (is_idle (exchange (effect (state_after xs) e) p).phase) o.busy (ap (λ (x : Exchange). is_idle x.phase) y))

tells : (es : List Event) (p k : ℕ) → IsRun es → Tells (exchange (state_after es) p) k (list_any (is_root_of p k) es)
unfolding was
tells es p k run =
    always (λ xs. Tells (exchange (state_after xs) p) k (list_any (is_root_of p k) xs))
    (λ xs e here h.
    subst (λ b. Tells (exchange (state_after (xs ++ e ∷ [])) p) k b) (sym (list_any-append (is_root_of p k) xs (e ∷ [])))
    (subst (λ s. Tells (exchange s p) k (list_any (is_root_of p k) xs || (is_root_of p k e || false))) (sym here.next) (tells_next p k xs e here h)))
    (λ o. absurd (both_ways true o.busy refl)) es run

-- begun as a root and not ended, by what is known of the port
pub open_root_is_seen : (es : List Event) (p k : ℕ) → IsRun es → is_open_root_after es p k ≡ has_root (state_after es) p k
open_root_is_seen es p k run =
    let x = exchange (state_after es) p in
    let seen : is_open_after es p k ≡ (not (is_idle x.phase) && x.serial == k) = open_is_seen es p k run in
    ⊎_elim
    (λ (open_ : is_open_after es p k ≡ true).
    let at = and_parts (not (is_idle x.phase)) (x.serial == k) (sym seen ∙ open_) in
    let unended = (and_parts (list_any (is_begin_of p k) es) (not (list_any (is_end_of p k) es)) open_).1 in
    ap (λ b. list_any (is_root_of p k) es && b) unended ∙ and-true (list_any (is_root_of p k) es)
    ∙ tells es p k run (record { busy = not-true (is_idle x.phase) at.0; serial = eqb-true x.serial k at.1 })
    ∙ sym (ap (λ b. b && not (is_some x.within)) (sym seen ∙ open_)) ∙ turned (not (is_idle x.phase)) (x.serial == k) (not (is_some x.within)))
    (λ (ended : is_open_after es p k ≡ false).
    none_left (list_any (is_root_of p k) es) (list_any (is_begin_of p k) es) (not (list_any (is_end_of p k) es)) (root_begun p k es) ended
    ∙ sym (ap (λ b. b && not (is_some x.within)) (sym seen ∙ ended)) ∙ turned (not (is_idle x.phase)) (x.serial == k) (not (is_some x.within)))
    (cases_Bool (is_open_after es p k))
  where
    turned : (a b c : Bool) → ((a && b) && c) ≡ ((a && c) && b)
    turned true true true = refl
    turned true true false = refl
    turned true false true = refl
    turned true false false = refl
    turned false b c = refl

    none_left : (r b u : Bool) → (r ≡ true → b ≡ true) → (b && u) ≡ false → (r && u) ≡ false
    none_left true b u h e = sym (ap (λ c. c && u) (h refl)) ∙ e
    none_left false b u h e = refl
