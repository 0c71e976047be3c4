-- To be believed (definitions.md).
-- Events replayed from a state: which of them is denied, and what is settled after all.
use Rattle.std.specs.Prelude.{◌≡◌, ◌↔◌, ◌+◌, ℕ, List, ◌∷◌, ◌++◌, Some, length, Contains}
use Rattle.std.specs.List.Sorted.{IsStrictlyIncreasing}
use Rattle.quiesce_core.specs.declared.event.Event.{Event}
use Rattle.quiesce_core.specs.Rules.{denial}
use Rattle.quiesce_core.specs.Runs.{Steps}
use Rattle.quiesce_core.specs.Settled.{Settled}
use Rattle.quiesce_core.specs.State.{State}

-- the events before one are steps to a state in which it is denied; it has this number, from 1, and this is the first
-- of its rules that fails
pub record IsDenied (s : State) (events : List Event) (number rule : ℕ) : Type 0 where
  pub before : List Event
  pub event : Event
  pub after : List Event
  pub then_ : State
  pub parts : events ≡ before ++ event ∷ after
  pub leads : Steps s before then_
  pub denied : denial then_ event ≡ Some rule
  pub counted : number ≡ length before + 1

-- these are the settled nodes, by slot
pub record AreSettled (s : State) (nodes : List ℕ) : Type 0 where
  pub are : (n : ℕ) → Contains nodes n ↔ Settled s n
  pub rise : IsStrictlyIncreasing nodes
