use Rattle.std.proofs.Common.{◌≡◌}
use Rattle.std.specs.Prelude.{filter}
use Rattle.std.specs.List.{range_with_len}
use Rattle.change_lists.specs.Layouts.{is_among}
use Rattle.change_lists.specs.Lists.{owner_place}
use Rattle.change_lists.proofs.layout.Layout.list_closed.Given as goal

abbrev pub invariant-loop-port : goal.invariant-loop-port
invariant-loop-port l = l.ports.items ≡ filter (λ p. is_among l.plan.freeze (owner_place l.self.places.items l.self.ports.items p)) (range_with_len 0 l.port)
