-- What may be done next in a state, by a node or by a change, and which two of these are independent (Mazurkiewicz 1987).
use Rattle.std.specs.Prelude.{◌≡◌, ℕ, Bool, true, false, ◌==◌, Some, None}
use Rattle.quiesce_core.specs.declared.event.Event.{Event}
use Rattle.quiesce_core.specs.declared.event.Event.TheVariants.{Begin, Close}
use Rattle.quiesce_core.specs.Doers.{is_of_change}
use Rattle.quiesce_core.specs.Effect.{effect}
use Rattle.quiesce_core.specs.Rules.{denial}
use Rattle.quiesce_core.specs.Runs.{doer}
use Rattle.quiesce_core.specs.State.{State}

-- node n may do the event next
pub record MayBeDoneBy (s : State) (n : ℕ) (e : Event) : Type 0 where
  pub done_by_it : doer s e ≡ Some n
  pub allowed : denial s e ≡ None

-- a change may do the event next
pub record MayBeDoneByChange (s : State) (e : Event) : Type 0 where
  pub of_change : is_of_change e ≡ true
  pub allowed : denial s e ≡ None

-- The events are independent: each may be done behind the other, by whom it may be done now, and both orders come to
-- one state.
pub record AreIndependent (s : State) (e f : Event) : Type 0 where
  pub second_behind : denial (effect s e) f ≡ None
  pub first_behind : denial (effect s f) e ≡ None
  pub second_doer : doer (effect s e) f ≡ doer s f
  pub first_doer : doer (effect s f) e ≡ doer s e
  pub one_state : effect (effect s e) f ≡ effect (effect s f) e

-- whether they are a close and a begin at one port
abbrev pub clashes : Event → Event → Bool
clashes (Close q) (Begin p k v) = q == p
clashes x e = false
