-- To be believed (definitions.md).
-- What is done and seen by a change, in order, and the configuration that its events make.
use Rattle.std.specs.Prelude.{List, filter_map, Option, Some, None}
use Rattle.quiesce_laws.specs.Steps.{change_all}
use Rattle.quiesce_core.specs.State.{Configuration, empty}
use Rattle.quiesce_core.specs.declared.event.Event.{Event}
use Rattle.txn_records.specs.declared.entry.Entry.{Entry}
use Rattle.txn_records.specs.declared.entry.Entry.TheVariants.{Did, Looked, Sighted, Scanned}

abbrev pub event_in : Entry → Option Event
event_in (Did e) = Some e
event_in (Looked p w) = None
event_in (Sighted n es) = None
event_in (Scanned b m) = None

-- the change's events
abbrev pub events_in : List Entry → List Event
events_in r = filter_map event_in r

-- the configuration that they make
abbrev pub config_of : List Entry → Configuration
config_of r = change_all empty.config (events_in r)
