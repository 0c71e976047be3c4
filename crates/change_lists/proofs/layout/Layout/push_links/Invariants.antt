use Rattle.std.proofs.Common.{◌≡◌, ◌++◌}
use Rattle.std.specs.Prelude.{filter_map}
use Rattle.std.specs.List.{range_with_len}
use Rattle.change_lists.specs.Lists.{link_at}
use Rattle.change_lists.proofs.layout.Layout.push_links.Given as goal

abbrev pub invariant-loop-port : goal.invariant-loop-port
invariant-loop-port l = l.events.items ≡ l.fn.events.items ++ filter_map (link_at l.self.places.items l.self.ports.items l.plan.link) (range_with_len 0 l.port)
