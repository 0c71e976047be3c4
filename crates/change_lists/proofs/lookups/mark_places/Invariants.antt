use Rattle.std.proofs.Common.{◌≡◌, ℕ, eqb, false, length, take, get_or}
use Rattle.std.specs.List.{list_any}
use Rattle.change_lists.proofs.lookups.mark_places.Given as goal

abbrev pub invariant-loop-place : goal.invariant-loop-place
invariant-loop-place l = record {
  count : length l.marks.items ≡ l.count;
  marked : (i : ℕ) → get_or l.marks.items i false ≡ list_any (λ j. eqb i j) (take l.place-index l.places);
}
