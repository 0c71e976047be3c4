-- What contracts see of a machine.
use Rattle.std.specs.Prelude.{ℕ}
use Rattle.quiesce_core.specs.State.{State}

-- its state, and the number of nodes for which memory is reserved
pub record CoreState : Type 0 where
  pub state : State
  pub spare : ℕ
