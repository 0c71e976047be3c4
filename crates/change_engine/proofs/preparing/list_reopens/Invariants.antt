use Rattle.std.proofs.Common.{◌≡◌, map, take}
use Rattle.quiesce_core.specs.declared.event.Event.TheVariants as event
use Rattle.change_engine.proofs.preparing.list_reopens.Given as goal

abbrev pub invariant-loop-port : goal.invariant-loop-port
invariant-loop-port l = l.events.items ≡ map event.Reopen (take l.port-index l.ports)
