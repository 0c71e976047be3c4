use Rattle.std.proofs.Common.{◌≡◌, ◌++◌, map, take, Some}
use Rattle.change_lists.specs.Lists.{place_after}
use Rattle.change_lists.proofs.layout.Layout.places_after.Given as goal

abbrev pub invariant-loop-place : goal.invariant-loop-place
invariant-loop-place l = l.places.items ≡ map (place_after l.old l.new l.plan.remove) (take l.place-index l.self.places.items)

abbrev pub invariant-loop-place-2 : goal.invariant-loop-place-2
invariant-loop-place-2 l = l.places.items ≡ map (place_after l.old l.new l.plan.remove) l.self.places.items ++ map Some (take l.place-index l.plan.create)
