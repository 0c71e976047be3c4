-- That one more event of a node can be counted in 32 bits.
use Rattle.std.specs.Prelude.{◌≡◌, ◌-◌, ◌<◌, ◌^◌, Option, Some, ⊤}
use Rattle.quiesce_core.specs.declared.event.Event.{Event}
use Rattle.quiesce_core.specs.declared.event.Event.TheVariants.{Call, Miss, More}
use Rattle.quiesce_core.specs.declared.known.Served.{Served}

abbrev pub CanCount : Option Served → Event → Type 0
CanCount w (Call p k v) = (u : Served) → w ≡ Some u → u.calls < 2 ^ 32 - 1
CanCount w (Miss p) = (u : Served) → w ≡ Some u → u.calls < 2 ^ 32 - 1
CanCount w (More p k v) = (u : Served) → w ≡ Some u → u.mores < 2 ^ 32 - 1
CanCount w _ = ⊤
