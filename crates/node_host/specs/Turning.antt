-- What a turn answers.
use Rattle.std.specs.Prelude.{Option, Some, None, Result, Ok, Err}
use Rattle.quiesce_core.specs.declared.event.Event.{Event}
use Rattle.node_host.specs.declared.turning.Turn.{Turn}
use Rattle.node_host.specs.declared.turning.Turn.TheVariants.{Moved, Still}

-- the event of a turn, none where it was still or had no memory
abbrev pub event_of : {E : Type 0} → Result Turn E → Option Event
event_of (Ok (Moved e)) = Some e
event_of (Ok Still) = None
event_of (Err n) = None
