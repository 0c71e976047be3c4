-- The events by which open transactions come nearer to their ends.
use Rattle.std.specs.Prelude.{ℕ, Bool, true, false, Option, Some, None, option_map}
use Rattle.quiesce_core.specs.declared.event.Event.{Event}
use Rattle.quiesce_core.specs.declared.event.Event.TheVariants.{Begin, Call, Take, Give, End, More, Ask, Hear, Miss}
use Rattle.quiesce_core.specs.declared.state.Service.{Service}
use Rattle.quiesce_core.specs.State.{State, owner, service}

-- whether an event belongs to a transaction that is open: a node's event, but no Begin
abbrev pub is_advance : Event → Bool
is_advance (Take p k v) = true
is_advance (Call p k v) = true
is_advance (Miss p) = true
is_advance (Give p k v) = true
is_advance (End p k v) = true
is_advance (More p k v) = true
is_advance (Ask p k v) = true
is_advance (Hear p k v) = true
is_advance _ = false

-- whether it brings an open transaction nearer to its end and is neither a call, a miss nor an intermediate reply: how
-- many of these a service makes is its kind's to choose
abbrev pub is_onward : Event → Bool
is_onward (Take p k v) = true
is_onward (Give p k v) = true
is_onward (End p k v) = true
is_onward (Ask p k v) = true
is_onward (Hear p k v) = true
is_onward _ = false

abbrev pub is_begin : Event → Bool
is_begin (Begin p k v) = true
is_begin _ = false

-- The port whose transaction such an event belongs to. A Call or a Miss belongs to the transaction that the caller
-- services: it is one of the calls that are still to be made there.
abbrev pub advanced_port : State → Event → Option ℕ
advanced_port s (Take p k v) = Some p
advanced_port s (Call p k v) = option_map (λ (w : Service). w.port) (service s (owner s.config p))
advanced_port s (Miss p) = option_map (λ (w : Service). w.port) (service s (owner s.config p))
advanced_port s (Give p k v) = Some p
advanced_port s (End p k v) = Some p
advanced_port s (More p k v) = Some p
advanced_port s (Ask p k v) = Some p
advanced_port s (Hear p k v) = Some p
advanced_port s _ = None
