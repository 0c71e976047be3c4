use Rattle.std.proofs.Common.{◌≡◌, ◌++◌, map}
use Rattle.std.specs.Prelude.{filter}
use Rattle.std.specs.List.{range_with_len}
use Rattle.quiesce_core.specs.declared.event.Event.TheVariants as event
use Rattle.change_lists.specs.Layouts.{is_among, place_at}
use Rattle.change_lists.proofs.layout.Layout.push_removes.Given as goal

abbrev pub invariant-loop-node : goal.invariant-loop-node
invariant-loop-node l = l.events.items ≡ l.fn.events.items ++ map event.Remove (filter (λ n. is_among l.plan.remove (place_at l.self.places.items n)) (range_with_len 0 l.node))
