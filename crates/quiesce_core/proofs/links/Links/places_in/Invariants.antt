use Rattle.std.proofs.Common.{◌≡◌, length}
use Rattle.quiesce_core.specs.Listed.{ArePlaces}
use Rattle.quiesce_core.proofs.links.Links.places_in.Given as goal

abbrev pub invariant-loop-place : goal.invariant-loop-place
invariant-loop-place l = record {
  count : length l.places.items ≡ length l.fn.self.slots.items;
  are : ArePlaces l.order l.place l.places.items;
}
