-- A root at a closed port stood there since the port was closed.
use Rattle.std.proofs.Common.{◌≡◌, ℕ, Bool, true, false, not, ◌&&◌, ◌||◌, List, [], ◌∷◌, ◌++◌, append_assoc, refl, sym, ap, ◌∙◌, subst, ⊎_elim}
use Rattle.std.specs.Prelude.{◌==◌, is_some}
use Rattle.std.specs.List.{list_any}
use Rattle.std.proofs.lemmas.Bool.{and_parts, and_from, both_ways, not-true, not_from_false, or_cases, or_parts}
use Rattle.std.proofs.lemmas.List.Folds.{list_any-append}
use Rattle.quiesce_core.specs.declared.event.Event.{Event}
use Rattle.quiesce_core.specs.declared.event.Event.TheVariants.{Close}
use Rattle.quiesce_core.specs.declared.state.Gate.{Gate}
use Rattle.quiesce_core.specs.declared.state.Exchange.{Exchange}
use Rattle.quiesce_core.specs.State.{State, gate, exchange}
use Rattle.quiesce_word.specs.Phases.{is_idle}
use Rattle.quiesce_core.specs.Effect.{effect}
use Rattle.quiesce_core.specs.Legal.{Legal}
use Rattle.quiesce_core.specs.Runs.{IsRun, state_after}
use Rattle.quiesce_core.specs.Traffic.{IsConsistent}
use Rattle.quiesce_core.specs.WellFormed.{IsWellFormed}
use Rattle.quiesce_core.proofs.TableLaws.{gate_place}
use Rattle.quiesce_core.proofs.SoundnessLaws.{put_here}
use Rattle.quiesce_laws.specs.Events.{reopens}
use Rattle.quiesce_laws.specs.Roots.{has_root}
use Rattle.quiesce_laws.proofs.ExtensionLaws.{closed_next}
use Rattle.quiesce_laws.proofs.ExchangeLaws.{PortStep, stays, begins, calls, ends, port_step}
use Rattle.quiesce_core.proofs.InductionLaws.{place, along}
use Rattle.quiesce_core.proofs.RunLaws.{fronts_are_runs}

-- the parts of the test
pub record IsRoot (x : Exchange) (k : ℕ) : Type 0 where
  pub busy : is_idle x.phase ≡ false
  pub serial : (x.serial == k) ≡ true
  pub alone : is_some x.within ≡ false

abbrev pub is_root : ℕ → Exchange → Bool
is_root k x = (not (is_idle x.phase) && not (is_some x.within)) && x.serial == k

pub root_parts : (k : ℕ) (x : Exchange) → is_root k x ≡ true → IsRoot x k
root_parts k x h =
    let a = and_parts (not (is_idle x.phase) && not (is_some x.within)) (x.serial == k) h in
    let b = and_parts (not (is_idle x.phase)) (not (is_some x.within)) a.0 in
    record { busy = not-true (is_idle x.phase) b.0; serial = a.1; alone = not-true (is_some x.within) b.1 }

-- what is idle or consequent is none
pub has_no_root : (x : Exchange) (k : ℕ) → (is_idle x.phase || is_some x.within) ≡ true → is_root k x ≡ true → ⊥
has_no_root x k h r =
    let root = root_parts k x r in
    ⊎_elim
    (λ (idle : is_idle x.phase ≡ true). both_ways (is_idle x.phase) root.busy idle)
    (λ (called : is_some x.within ≡ true). both_ways (is_some x.within) root.alone called)
    (or_cases (is_idle x.phase) (is_some x.within) h)

-- a root at a closed port is no new one
root_before : (s : State) (e : Event) (p k : ℕ) → IsWellFormed s → IsConsistent s → Legal s e → (gate s.config p).closed ≡ true → has_root (effect s e) p k ≡ true → has_root s p k ≡ true
root_before s e p k w c l shut h = by (port_step s e w c l p)
  where
    by : PortStep s e p (exchange (effect s e) p) → has_root s p k ≡ true
    by (stays off serial within idle) =
        let r = root_parts k (exchange (effect s e) p) h in
        let x = exchange s p in
        and_from (not (is_idle x.phase) && not (is_some x.within)) (x.serial == k)
        (and_from (not (is_idle x.phase)) (not (is_some x.within)) (not_from_false (is_idle x.phase) (sym idle ∙ r.busy)) (not_from_false (is_some x.within) (ap is_some (sym within) ∙ r.alone)))
        (ap (λ i. i == k) (sym serial) ∙ r.serial)
    by (begins j v is may y) = absurd (both_ways (gate s.config p).closed (not-true (gate s.config p).closed may.opened) shut)
    by (calls j v u is may served y) =
        absurd (both_ways (is_some (exchange (effect s e) p).within) (root_parts k (exchange (effect s e) p) h).alone (ap (λ (x : Exchange). is_some x.within) y))
    by (ends j v is may y) = absurd (both_ways (is_idle (exchange (effect s e) p).phase) (root_parts k (exchange (effect s e) p) h).busy (ap (λ (x : Exchange). is_idle x.phase) y))

-- the port is closed, and a root that it has in the later state it had in the earlier
pub record IsOld (old s : State) (p k : ℕ) : Type 0 where
  pub closed : (gate s.config p).closed ≡ true
  pub before : has_root s p k ≡ true → has_root old p k ≡ true

pub old_further : (before es : List Event) (p k : ℕ) → IsRun (before ++ es) → list_any (reopens p) es ≡ false → (gate (state_after before).config p).closed ≡ true
    → IsOld (state_after before) (state_after (before ++ es)) p k
old_further before es p k run free shut =
    along (λ xs. IsOld (state_after before) (state_after xs) p k) (reopens p)
    (λ xs e here kept h. subst (λ s. IsOld (state_after before) s p k) (sym here.next) (record {
      closed = closed_next (state_after xs) e p here.legal kept h.closed;
      before = λ r. h.before (root_before (state_after xs) e p k here.well here.traffic here.legal h.closed r);
    }))
    before es run free (record { closed = shut; before = λ r. r })

pub closed_stays : (es more_ : List Event) (p : ℕ) → IsRun (es ++ more_) → list_any (reopens p) more_ ≡ false → (gate (state_after es).config p).closed ≡ true → (gate (state_after (es ++ more_)).config p).closed ≡ true
closed_stays es more_ p run free shut = (old_further es more_ p 0 run free shut).closed

pub closed_by : (before after : List Event) (p : ℕ) → IsRun (before ++ Close p ∷ after) → (gate (state_after (before ++ Close p ∷ [])).config p).closed ≡ true
closed_by before after p run =
    let here = place before after (Close p) run in
    let s = state_after before in
    ap (λ t. (gate t.config p).closed) here.next ∙ ap (λ (y : Gate). y.closed) (put_here s.config p (record (gate s.config p) { closed = true }) (gate_place s p here.legal.live) refl refl)

-- at each place since the port was closed
pub root_since : (before between after : List Event) (p k : ℕ) → IsRun (before ++ Close p ∷ between ++ after) → list_any (reopens p) (between ++ after) ≡ false
    → has_root (state_after (before ++ Close p ∷ between ++ after)) p k ≡ true → has_root (state_after (before ++ Close p ∷ between)) p k ≡ true
root_since before between after p k run free h =
    let parts = or_parts (list_any (reopens p) between) (list_any (reopens p) after) (sym (list_any-append (reopens p) between after) ∙ free) in
    let front = fronts_are_runs (before ++ Close p ∷ between) after run in
    let split : (before ++ Close p ∷ []) ++ between ≡ before ++ Close p ∷ between = append_assoc before (Close p ∷ []) between in
    let shut = old_further (before ++ Close p ∷ []) between p p (subst (λ xs. IsRun xs) (sym split) front) parts.0 (closed_by before between p front) in
    (old_further (before ++ Close p ∷ between) after p k run parts.1 (ap (λ xs. (gate (state_after xs).config p).closed) (sym split) ∙ shut.closed)).before h

-- and when it was closed
pub root_when_closed : (before after : List Event) (p k : ℕ) → IsRun (before ++ Close p ∷ after) → list_any (reopens p) after ≡ false
    → has_root (state_after (before ++ Close p ∷ after)) p k ≡ true → has_root (state_after before) p k ≡ true
root_when_closed before after p k run free h =
    let here = place before after (Close p) run in
    let whole : (before ++ Close p ∷ []) ++ after ≡ before ++ Close p ∷ after = append_assoc before (Close p ∷ []) after in
    sym (ap (λ s. has_root s p k) here.next)
    ∙ root_since before [] after p k (subst (λ xs. IsRun xs) (sym whole) run) free (ap (λ xs. has_root (state_after xs) p k) whole ∙ h)
