use Rattle.std.proofs.Common.{◌≡◌, ◌≤◌, ℕ, length}
use Rattle.live_board.specs.Lengths.{length_at}
use Rattle.live_board.proofs.heirs.make_heir_places.Given as goal

abbrev pub invariant-loop : goal.invariant-loop
invariant-loop l = record {
  kept : (n : ℕ) → length_at l.heirs.items n ≡ length_at l.fn.heirs.items n;
  longer : length l.fn.heirs.items ≤ length l.heirs.items;
  count : length l.heirs.items ≡ l.counter;
}
