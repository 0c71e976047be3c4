use Rattle.std.proofs.Common.{◌≡◌}
use Rattle.std.specs.Prelude.{filter}
use Rattle.std.specs.List.{range_with_len}
use Rattle.change_lists.specs.Layouts.{is_live_at}
use Rattle.change_lists.proofs.layout.Layout.live_ports.Given as goal

abbrev pub invariant-loop-port : goal.invariant-loop-port
invariant-loop-port l = l.live.items ≡ filter (is_live_at l.self.places.items l.self.ports.items) (range_with_len 0 l.port)
