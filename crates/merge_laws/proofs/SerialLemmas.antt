-- Why a merge meets the guards: serials never fall, an ended root stays ended, and a closed port at which no service calls keeps its serial.
use Rattle.std.proofs.Common.{◌≡◌, ◌∙◌, ℕ, ◌≤◌, Bool, true, false, not, ◌||◌, List, [], ◌∷◌, ◌++◌, append_assoc, refl, sym, ap, subst, arith}
use Rattle.std.specs.Prelude.{◌==◌}
use Rattle.std.specs.List.{list_any}
use Rattle.std.proofs.lemmas.Bool.{and_from, and_parts, both_ways, eq-eqb, eqb-true, not-true, or_right}
use Rattle.quiesce_core.specs.declared.event.Event.{Event}
use Rattle.quiesce_core.specs.declared.event.Event.TheVariants.{Begin, End}
use Rattle.quiesce_core.specs.declared.state.Exchange.{Exchange}
use Rattle.quiesce_core.specs.State.{State, exchange, gate}
use Rattle.quiesce_core.specs.Effect.{effect}
use Rattle.quiesce_core.specs.Runs.{IsRun, is_begin_of, is_end_of, state_after}
use Rattle.quiesce_core.proofs.InductionLaws.{along, none_barred, place, unbarred}
use Rattle.quiesce_laws.specs.Events.{is_root_of, reopens}
use Rattle.quiesce_laws.specs.Roots.{has_root}
use Rattle.quiesce_laws.proofs.ExchangeLaws.{PortStep, begin_turns, stays, begins, calls, ends, port_step, serials_grow}
use Rattle.quiesce_laws.proofs.RootLaws.{closed_stays}
use Rattle.quiesce_laws.proofs.RootsSeenLaws.{open_root_is_seen}

-- serials never fall in a run
serials_rise : (a b : List Event) (p : ℕ) → IsRun (a ++ b) → (exchange (state_after a) p).serial ≤ (exchange (state_after (a ++ b)) p).serial
serials_rise a b p run =
    along (λ xs. (exchange (state_after a) p).serial ≤ (exchange (state_after xs) p).serial) unbarred
    (λ xs e here free less.
    let more_ : (exchange (state_after xs) p).serial ≤ (exchange (state_after (xs ++ e ∷ [])) p).serial =
    subst (λ (s : State). (exchange (state_after xs) p).serial ≤ (exchange s p).serial) (sym here.next) (serials_grow (state_after xs) e here.well here.traffic here.legal p) in
    omega (arith, less, more_))
    a b run (none_barred b) (omega arith)

-- so what was begun or called isn't beyond what is told later
begun_serial : (s : State) (e : Event) (p k : ℕ) → PortStep s e p (exchange (effect s e) p) → is_begin_of p k e ≡ true → (exchange (effect s e) p).serial ≡ k
begun_serial s e p k (begins j v is may y) h =
    ap (λ (x : Exchange). x.serial) y ∙ eqb-true j k (and_parts (p == p) (j == k) (ap (is_begin_of p k) (sym is) ∙ h)).1
begun_serial s e p k (calls j v u is may served y) h =
    ap (λ (x : Exchange). x.serial) y ∙ eqb-true j k (and_parts (p == p) (j == k) (ap (is_begin_of p k) (sym is) ∙ h)).1
begun_serial s e p k (ends j v is may y) h = absurd (both_ways false refl (ap (is_begin_of p k) (sym is) ∙ h))
begun_serial s e p k (stays off serial within idle) h = absurd (off (begin_turns p k e h))

pub not_beyond : (a b : List Event) (e : Event) (p k : ℕ) → IsRun (a ++ e ∷ b) → is_begin_of p k e ≡ true → k ≤ (exchange (state_after (a ++ e ∷ b)) p).serial
not_beyond a b e p k run h =
    let here = place a b e run in
    let serial : (exchange (state_after (a ++ e ∷ [])) p).serial ≡ k =
    ap (λ (s : State). (exchange s p).serial) here.next ∙ begun_serial (state_after a) e p k (port_step (state_after a) e here.well here.traffic here.legal p) h in
    let later : (exchange (state_after (a ++ e ∷ [])) p).serial ≤ (exchange (state_after (a ++ e ∷ b)) p).serial =
    subst (λ xs. (exchange (state_after (a ++ e ∷ [])) p).serial ≤ (exchange (state_after xs) p).serial) (append_assoc a (e ∷ []) b)
    (serials_rise (a ++ e ∷ []) b p (subst IsRun (sym (append_assoc a (e ∷ []) b)) run)) in
    omega (arith, serial, later)

-- a root that ended isn't open later
any_behind : (t : Event → Bool) (a b : List Event) (e : Event) → t e ≡ true → list_any t (a ++ e ∷ b) ≡ true
any_behind t [] b e h = ap (λ c. c || list_any t b) h
any_behind t (x ∷ a) b e h = or_right (t x) (list_any t (a ++ e ∷ b)) (any_behind t a b e h)

pub ended_for_good : (a b : List Event) (p k v : ℕ) → IsRun (a ++ End p k v ∷ b) → has_root (state_after (a ++ End p k v ∷ b)) p k ≡ true → ⊥
ended_for_good a b p k v run h =
    let es = a ++ End p k v ∷ b in
    let ended : list_any (is_end_of p k) es ≡ true = any_behind (is_end_of p k) a b (End p k v) (and_from (p == p) (k == k) (eq-eqb p p refl) (eq-eqb k k refl)) in
    both_ways (list_any (is_end_of p k) es)
    (not-true (list_any (is_end_of p k) es) (and_parts (list_any (is_root_of p k) es) (not (list_any (is_end_of p k) es)) (open_root_is_seen es p k run ∙ h)).1) ended

-- nothing begins at a port from its close on, until it is reopened
pub none_begins_closed : (a b d : List Event) (p k v : ℕ) → IsRun (a ++ Begin p k v ∷ d) → (front : List Event) → a ≡ front ++ b → (gate (state_after front).config p).closed ≡ true
    → list_any (reopens p) b ≡ false → ⊥
none_begins_closed a b d p k v run front is shut none_ =
    let here = place a d (Begin p k v) run in
    both_ways (gate (state_after a).config p).closed (not-true (gate (state_after a).config p).closed here.legal.opened)
    (subst (λ xs. (gate (state_after xs).config p).closed ≡ true) (sym is) (closed_stays front b p (subst IsRun is here.run) none_ shut))
