use Rattle.std.proofs.Common.{◌≡◌, ◌++◌, length, take}
use Rattle.change_lists.specs.Lists.{makes_by}
use Rattle.change_lists.proofs.layout.Layout.push_makes.Given as goal

abbrev pub invariant-loop-index : goal.invariant-loop-index
invariant-loop-index l = l.events.items ≡ l.fn.events.items ++ makes_by l.slots l.plan.moves l.new (length l.self.places.items) (take l.index l.plan.create)
