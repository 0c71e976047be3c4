-- What a world is without its hints, and after an event of a node.
use Rattle.std.specs.Prelude.{ℕ, [], Option}
use Rattle.std.specs.Option.{option_map_or}
use Rattle.quiesce_core.specs.declared.event.Event.{Event}
use Rattle.node_turn_laws.specs.World.{World, with_event_of}

abbrev pub without_hints : World → World
without_hints w = record w { inboxes = []; waiting = [] }

-- node n did an event, or none
abbrev pub after_move : World → ℕ → Option Event → World
after_move w n e = option_map_or (with_event_of w n) e w
