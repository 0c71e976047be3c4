-- The line of a node: the earlier nodes from which its state was handed on, the earliest first, by the configuration
-- of a run.
use Rattle.std.specs.Prelude.{◌≡◌, ℕ, ◌<◌, List, [], ◌∷◌, ◌++◌, Some, None}
use Rattle.component_trait.specs.Making.{argument_or_0}
use Rattle.quiesce_core.specs.Runs.{done_by, state_after}
use Rattle.quiesce_core.specs.State.{slot}
use Rattle.quiesce_core.specs.declared.event.Event.{Event}
use Rattle.quiesce_core.specs.declared.state.Slot.{Slot}
use Rattle.step_board.specs.Entries.{Predecessor}

-- a node that was made as this slot says, as an earlier node of a line
abbrev pub predecessor : List Event → ℕ → Slot → Predecessor
predecessor es n m = record { slot = n; first = m.first_port; arg = argument_or_0 m.node.arg; log = done_by n es }

-- the nodes before node n in its line
pub data IsPast (es : List Event) : ℕ → List Predecessor → Type 0 where
  first_of_line : (n : ℕ) (m : Slot) → slot (state_after es).config n ≡ Some m → m.from ≡ None → IsPast es n []
  behind : (n k : ℕ) (m old : Slot) (ms : List Predecessor) → slot (state_after es).config n ≡ Some m → m.from ≡ Some k → k < n
      → slot (state_after es).config k ≡ Some old → IsPast es k ms → IsPast es n (ms ++ predecessor es k old ∷ [])
