use Rattle.std.proofs.Common.{◌≡◌, ◌+◌, length, replicate}
use Rattle.live_hall.specs.Doors.{none_missed}
use Rattle.live_hall.proofs.hall.Hall.with_doors.Given as goal

abbrev pub invariant-loop : goal.invariant-loop
invariant-loop g l = record {
  count : length l.all.items + 1 ≡ l.counter;
  fresh : l.all.items ≡ replicate (length l.all.items) none_missed;
  last : l.last ≡ none_missed;
}
