-- The worlds that turns and changes reach, from where nothing is made.
use Rattle.std.specs.Prelude.{◌≡◌, ℕ, Bool, true, None, IsTrue}
use Rattle.quiesce_core.specs.Doers.{is_of_change}
use Rattle.quiesce_core.specs.Rules.{denial}
use Rattle.quiesce_core.specs.State.{is_live}
use Rattle.quiesce_core.specs.declared.event.Event.{Event}
use Rattle.node_turn_laws.specs.Turn.{turn}
use Rattle.node_turn_laws.specs.World.{World, nowhere, with_event}

-- from where nothing is made, by any allowed events of the change and any turns of live nodes, with or without begins
pub data IsReached : World → Type 0 where
  at_start : IsReached nowhere
  by_change : (w : World) (e : Event) → IsReached w → is_of_change e ≡ true → denial w.machine e ≡ None → IsReached (with_event w e)
  by_turn : (w : World) (n : ℕ) (allowed : Bool) → IsReached w → IsTrue (is_live w.machine.config n) → IsReached (turn w n allowed).world
