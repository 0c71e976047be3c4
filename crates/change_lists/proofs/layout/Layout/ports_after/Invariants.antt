use Rattle.std.proofs.Common.{◌≡◌, ◌++◌, length, take}
use Rattle.change_lists.specs.Lists.{ports_from}
use Rattle.change_lists.proofs.layout.Layout.ports_after.Given as goal

abbrev pub invariant-loop-index : goal.invariant-loop-index
invariant-loop-index l = l.ports.items ≡ l.self.ports.items ++ ports_from l.new (length l.self.places.items) (take l.index l.plan.create)
