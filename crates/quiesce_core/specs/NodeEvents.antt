-- The events of a node's own among all events.
use Rattle.std.specs.Prelude.{◌≡◌, refl}
use Rattle.quiesce_core.specs.declared.event.Event.{Event}
use Rattle.quiesce_core.specs.declared.event.Event.TheVariants as event
use Rattle.quiesce_core.specs.declared.node_event.Deed.{Deed}
use Rattle.quiesce_core.specs.declared.node_event.Deed.TheVariants as own
use Rattle.quiesce_core.specs.declared.node_event.Message.{Message}

abbrev pub as_event : Deed → Event
as_event (own.Begin m) = event.Begin m.port m.serial m.value
as_event (own.Call m) = event.Call m.port m.serial m.value
as_event (own.Take m) = event.Take m.port m.serial m.value
as_event (own.Give m) = event.Give m.port m.serial m.value
as_event (own.End m) = event.End m.port m.serial m.value
as_event (own.More m) = event.More m.port m.serial m.value
as_event (own.Ask m) = event.Ask m.port m.serial m.value
as_event (own.Hear m) = event.Hear m.port m.serial m.value
as_event (own.Miss p) = event.Miss p

-- the deed that an event is. Of an event of the change it tells nothing
abbrev pub as_deed : Event → Deed
as_deed (event.Begin p s v) = own.Begin (record { port = p; serial = s; value = v })
as_deed (event.Call p s v) = own.Call (record { port = p; serial = s; value = v })
as_deed (event.Take p s v) = own.Take (record { port = p; serial = s; value = v })
as_deed (event.Give p s v) = own.Give (record { port = p; serial = s; value = v })
as_deed (event.End p s v) = own.End (record { port = p; serial = s; value = v })
as_deed (event.More p s v) = own.More (record { port = p; serial = s; value = v })
as_deed (event.Ask p s v) = own.Ask (record { port = p; serial = s; value = v })
as_deed (event.Hear p s v) = own.Hear (record { port = p; serial = s; value = v })
as_deed (event.Miss p) = own.Miss p
as_deed _ = own.Miss 0

pub deed_stays : (d : Deed) → as_deed (as_event d) ≡ d
deed_stays (own.Begin m) = refl
deed_stays (own.Call m) = refl
deed_stays (own.Take m) = refl
deed_stays (own.Give m) = refl
deed_stays (own.End m) = refl
deed_stays (own.More m) = refl
deed_stays (own.Ask m) = refl
deed_stays (own.Hear m) = refl
deed_stays (own.Miss p) = refl
