-- Two events that may come in either order behind a run.
use Rattle.std.specs.Prelude.{◌≡◌, ◌↔◌, ℕ, List, [], ◌∷◌, ◌++◌}
use Rattle.quiesce_core.specs.declared.event.Event.{Event}
use Rattle.quiesce_core.specs.Runs.{IsRun, done_by, state_after}

-- The run goes on with both, whichever comes first: then the same may follow, to the same state, and each node has the
-- same log.
pub record MayBeSwapped (es : List Event) (e f : Event) : Type 0 where
  pub goes_on : IsRun (es ++ e ∷ f ∷ [])
  pub runs : (after : List Event) → IsRun (es ++ e ∷ f ∷ after) ↔ IsRun (es ++ f ∷ e ∷ after)
  pub states : (after : List Event) → state_after (es ++ e ∷ f ∷ after) ≡ state_after (es ++ f ∷ e ∷ after)
  pub logs : (n : ℕ) (after : List Event) → done_by n (es ++ e ∷ f ∷ after) ≡ done_by n (es ++ f ∷ e ∷ after)
