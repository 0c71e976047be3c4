-- Gates that are closed, or reopened, after a run, whatever nodes do in between.
use Rattle.std.proofs.Common.{◌≡◌, ℕ, Bool, true, false, List, [], ◌∷◌, ◌++◌, map, None, refl, sym, ap, ◌∙◌, subst, ⊎_elim, ◌<◌, length, arith, lt-ltb, Contains}
use Rattle.std.specs.Prelude.{filter, nat_lt}
use Rattle.std.proofs.lemmas.Bool.{and_from, both_ways}
use Rattle.quiesce_core.specs.declared.event.Event.{Event}
use Rattle.quiesce_core.specs.declared.event.Event.TheVariants.{Close, Reopen}
use Rattle.quiesce_core.specs.Doers.{is_of_change}
use Rattle.quiesce_core.specs.Rules.{denial, is_live_port}
use Rattle.quiesce_core.specs.Runs.{IsRun, state_after}
use Rattle.quiesce_core.specs.State.{Configuration, gate, is_live, owner}
use Rattle.quiesce_laws.specs.Lists.{In}
use Rattle.quiesce_laws.specs.Steps.{MayStep, MayStepAll, change_all, live_ports}
use Rattle.quiesce_laws.proofs.AllowedLemmas.{step_allowed}
use Rattle.quiesce_laws.proofs.MemberLaws.{in_contains, select, selected}
use Rattle.quiesce_laws.proofs.MeanwhileLaws.{front_is_of_change, may_at, now_is, runs_on}
use Rattle.quiesce_laws.proofs.PhaseLemmas.{phase_ends, phase_may}
use Rattle.quiesce_laws.proofs.TurningLaws.{IsLivePort, Turning, live_port, turn_may, turn_next, turn_start}

-- no port has to be noted for that
abbrev pub none_noted : ℕ → Bool
none_noted q = false

module _ (es : List Event) (ports : List ℕ) (live : (p : ℕ) → In ports p → IsLivePort (state_after es).config p) where
  closes_may : MayStepAll none_noted (state_after es).config (map Close ports)
  closes_may =
      let c = (state_after es).config in
      phase_may none_noted Close (Turning c true ports) (turn_may c true ports) (turn_next c true ports) c ports (turn_start c true ports live)

  reopens_may : MayStepAll none_noted (state_after es).config (map Reopen ports)
  reopens_may =
      let c = (state_after es).config in
      phase_may none_noted Reopen (Turning c false ports) (turn_may c false ports) (turn_next c false ports) c ports (turn_start c false ports live)

  -- a step for which no port has to be noted is allowed
  free_step : (fs more_ left : List Event) (e : Event) → MayStepAll none_noted (state_after es).config fs → IsRun (es ++ more_) → filter is_of_change more_ ++ e ∷ left ≡ fs → denial (state_after (es ++ more_)) e ≡ None
  free_step fs more_ left e may run is =
      step_allowed none_noted (es ++ more_) run (λ q h. absurd (both_ways false refl h)) e
      (subst (λ d. MayStep none_noted d e) (sym (now_is es more_)) (may_at none_noted (state_after es).config (filter is_of_change more_) e left (subst (MayStepAll none_noted (state_after es).config) (sym is) may)))

  pub close_allowed : (more_ left : List Event) (e : Event) → IsRun (es ++ more_) → filter is_of_change more_ ++ e ∷ left ≡ map Close ports → denial (state_after (es ++ more_)) e ≡ None
  close_allowed more_ left e run is = free_step (map Close ports) more_ left e closes_may run is

  pub reopen_allowed : (more_ left : List Event) (e : Event) → IsRun (es ++ more_) → filter is_of_change more_ ++ e ∷ left ≡ map Reopen ports → denial (state_after (es ++ more_)) e ≡ None
  reopen_allowed more_ left e run is = free_step (map Reopen ports) more_ left e reopens_may run is

  -- when all are closed
  pub all_closed : (more_ : List Event) → filter is_of_change more_ ≡ map Close ports → Turning (state_after es).config true ports (state_after (es ++ more_)).config []
  all_closed more_ is =
      let c = (state_after es).config in
      subst (λ d. Turning c true ports d []) (sym (now_is es more_ ∙ ap (change_all c) is))
      (phase_ends none_noted Close (Turning c true ports) (turn_may c true ports) (turn_next c true ports) c ports (turn_start c true ports live))

  pub closed_at : (more_ : List Event) → filter is_of_change more_ ≡ map Close ports → (p : ℕ) → In ports p → (gate (state_after (es ++ more_)).config p).closed ≡ true
  closed_at more_ is p i = ⊎_elim (λ (j : In [] p). absurd j) (λ (e : (gate (state_after (es ++ more_)).config p).closed ≡ true). e) ((all_closed more_ is).turned p i)

  -- with nothing in between they are the end of a run
  pub closes_run : IsRun es → IsRun (es ++ map Close ports)
  closes_run run = runs_on es (map Close ports) run (λ d l e is so_far.
      let c = (state_after es).config in
      let may : MayStepAll none_noted c (d ++ e ∷ l) = subst (MayStepAll none_noted c) (sym is) closes_may in
      close_allowed d l e so_far (ap (λ xs. xs ++ e ∷ l) (front_is_of_change none_noted c d (e ∷ l) may) ∙ is))

  -- when all are open again
  pub all_open : (more_ : List Event) → filter is_of_change more_ ≡ map Reopen ports → Turning (state_after es).config false ports (state_after (es ++ more_)).config []
  all_open more_ is =
      let c = (state_after es).config in
      subst (λ d. Turning c false ports d []) (sym (now_is es more_ ∙ ap (change_all c) is))
      (phase_ends none_noted Reopen (Turning c false ports) (turn_may c false ports) (turn_next c false ports) c ports (turn_start c false ports live))

  pub open_at : (more_ : List Event) → filter is_of_change more_ ≡ map Reopen ports → (p : ℕ) → In ports p → (gate (state_after (es ++ more_)).config p).closed ≡ false
  open_at more_ is p i = ⊎_elim (λ (j : In [] p). absurd j) (λ (e : (gate (state_after (es ++ more_)).config p).closed ≡ false). e) ((all_open more_ is).turned p i)

-- closes are the change's
pub closes_are_of_change : (ports : List ℕ) → filter is_of_change (map Close ports) ≡ map Close ports
closes_are_of_change [] = refl
closes_are_of_change (p ∷ ports) = ap (λ es. Close p ∷ es) (closes_are_of_change ports)

-- the ports of live nodes

pub live_listed : (c : Configuration) (p : ℕ) → In (live_ports c) p → IsLivePort c p
live_listed c p i = live_port c p (selected (is_live_port c) 0 (length c.gates) p i).passes

pub live_unlisted : (c : Configuration) (p : ℕ) → p < length c.gates → is_live c (owner c p) ≡ true → Contains (live_ports c) p
live_unlisted c p made live =
    in_contains (live_ports c) p (select (is_live_port c) 0 (length c.gates) p (omega arith) (omega (arith, made)) (and_from (nat_lt p (length c.gates)) (is_live c (owner c p)) (lt-ltb p (length c.gates) made) live))
