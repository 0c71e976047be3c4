use Rattle.std.proofs.Common.{◌≡◌, ◌≤◌, ℕ, Some, length}
use Rattle.std.specs.Prelude.{slice_get}
use Rattle.live_board.specs.declared.blank.Blank.{Blank}
use Rattle.live_board.proofs.keeping.blanks.Given as goal

abbrev pub invariant-loop : goal.invariant-loop
invariant-loop l = record {
  count : length l.all.items ≡ l.counter;
  roomy : (k : ℕ) (b : Blank) → slice_get l.all.items k ≡ Some b → l.fn.lines ≤ b.room;
}
