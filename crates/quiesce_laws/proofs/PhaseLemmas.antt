-- A phase of a commit: the same kind of event for each member of a list, and what holds while some are left.
use Rattle.std.proofs.Common.{ℕ, Bool, List, [], ◌∷◌, ◌++◌, map}
use Rattle.quiesce_core.specs.declared.event.Event.{Event}
use Rattle.quiesce_core.specs.State.{Configuration}
use Rattle.quiesce_laws.specs.Steps.{MayStep, MayStepAll, change_all}
use Rattle.quiesce_core.specs.Effect.{change_next}

-- at each place of a list of steps
abbrev pub EachConfig : (Configuration → Type 0) → Configuration → List Event → Type 0
EachConfig P d [] = P d
EachConfig P d (e ∷ es) = P d × EachConfig P (change_next d e) es

module _ {A : Type 0} (noted : ℕ → Bool) (event_of : A → Event) (Holds : Configuration → List A → Type 0)
    (may : (d : Configuration) (x : A) (xs : List A) → Holds d (x ∷ xs) → MayStep noted d (event_of x))
    (next : (d : Configuration) (x : A) (xs : List A) → Holds d (x ∷ xs) → Holds (change_next d (event_of x)) xs) where
  pub phase_may : (d : Configuration) (xs : List A) → Holds d xs → MayStepAll noted d (map event_of xs)
  phase_may d [] h = tt
  phase_may d (x ∷ xs) h = (may d x xs h, phase_may (change_next d (event_of x)) xs (next d x xs h))

  -- and what holds at each place of the phase
  pub phase_each : (P : Configuration → Type 0) → ((d : Configuration) (xs : List A) → Holds d xs → P d) → (d : Configuration) (xs : List A) → Holds d xs → EachConfig P d (map event_of xs)
  phase_each P so d [] h = so d [] h
  phase_each P so d (x ∷ xs) h = (so d (x ∷ xs) h, phase_each P so (change_next d (event_of x)) xs (next d x xs h))

  pub phase_ends : (d : Configuration) (xs : List A) → Holds d xs → Holds (change_all d (map event_of xs)) []
  phase_ends d [] h = h
  phase_ends d (x ∷ xs) h = phase_ends (change_next d (event_of x)) xs (next d x xs h)

-- one list of steps after another
pub may_then : (noted : ℕ → Bool) (d : Configuration) (es fs : List Event) → MayStepAll noted d es → MayStepAll noted (change_all d es) fs → MayStepAll noted d (es ++ fs)
may_then noted d [] fs h k = k
may_then noted d (e ∷ es) fs h k = (h.0, may_then noted (change_next d e) es fs h.1 k)

pub each_then : (P : Configuration → Type 0) (d : Configuration) (es fs : List Event) → EachConfig P d es → EachConfig P (change_all d es) fs → EachConfig P d (es ++ fs)
each_then P d [] fs h k = k
each_then P d (e ∷ es) fs h k = (h.0, each_then P (change_next d e) es fs h.1 k)

pub each_place : (P : Configuration → Type 0) (d : Configuration) (done left : List Event) → EachConfig P d (done ++ left) → P (change_all d done)
each_place P d [] [] h = h
each_place P d [] (e ∷ left) h = h.0
each_place P d (e ∷ done) left h = each_place P (change_next d e) done left h.1
