use Rattle.std.proofs.Common.{◌≡◌, ◌++◌, map}
use Rattle.std.specs.Prelude.{filter}
use Rattle.std.specs.List.{range_with_len}
use Rattle.quiesce_core.specs.declared.event.Event.TheVariants as event
use Rattle.change_lists.specs.Lists.{is_reopened_at}
use Rattle.change_lists.proofs.layout.Layout.push_reopens.Given as goal

abbrev pub invariant-loop-port : goal.invariant-loop-port
invariant-loop-port l = l.events.items ≡ l.fn.events.items ++ map event.Reopen (filter (is_reopened_at l.self.places.items l.self.ports.items l.plan) (range_with_len 0 l.port))
