-- What it means that a component was led by an event.
use Rattle.std.specs.Prelude.{◌≡◌, ℕ, Bool, true, false, Some, None}
use Rattle.quiesce_core.specs.declared.event.Event.{Event}
use Rattle.quiesce_core.specs.declared.event.Event.TheVariants.{Begin, Call, Take, Give, End, More, Ask, Hear}
use Rattle.component_trait.specs.States.{NodeState}
use Rattle.component_trait.specs.Fold.{after_event}

-- the event leads from the old state to the new one; or a node of the kind has no such event, and the state stays
abbrev pub Followed : ℕ → Event → NodeState → NodeState → Bool → Type 0
Followed first e old new true = after_event first old e ≡ Some new
Followed first e old new false = (after_event first old e ≡ None) × (new ≡ old)

-- it moved, which the test allows; or the test doesn't, and it stays
abbrev pub Answered : Bool → NodeState → NodeState → NodeState → Bool → Type 0
Answered allowed old moved new true = (allowed ≡ true) × (new ≡ moved)
Answered allowed old moved new false = (allowed ≡ false) × (new ≡ old)

-- whether the event takes a value up
abbrev pub is_take : Event → Bool
is_take (Take p j v) = true
is_take _ = false

-- the value that an event carries
abbrev pub value_of : Event → ℕ
value_of (Begin p j v) = v
value_of (Call p j v) = v
value_of (Take p j v) = v
value_of (Give p j v) = v
value_of (End p j v) = v
value_of (More p j v) = v
value_of (Ask p j v) = v
value_of (Hear p j v) = v
value_of _ = 0
