use Rattle.std.proofs.Common.{◌≡◌, ℕ, length}
use Rattle.live_board.specs.Keeping.{AreKept, is_stored, stored}
use Rattle.live_board.proofs.keeping.make_places.Given as goal

abbrev pub invariant-loop : goal.invariant-loop
invariant-loop g l = record {
  kept : AreKept g.J.Named.gates l.kept.items;
  stored : (n : ℕ) → is_stored (stored l.kept.items) n ≡ is_stored (stored l.fn.kept.items) n;
  count : length l.kept.items ≡ l.counter;
}
