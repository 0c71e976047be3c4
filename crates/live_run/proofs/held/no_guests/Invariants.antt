use Rattle.std.proofs.Common.{◌≡◌, length}
use Rattle.live_board.specs.Keeping.{AreKept}
use Rattle.live_run.proofs.held.no_guests.Given as goal

abbrev pub invariant-loop : goal.invariant-loop
invariant-loop g l = record {
  fits : AreKept g.J.Named.gates l.guests.items;
  count : length l.guests.items ≡ l.counter;
}
