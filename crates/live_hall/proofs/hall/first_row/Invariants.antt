use Rattle.std.proofs.Common.{◌≡◌, length, map, replicate}
use Rattle.live_hall.specs.Doors.{Opens, missed}
use Rattle.base.specs.Paired.{Paired}
use Rattle.live_hall.proofs.hall.first_row.Given as goal

abbrev pub invariant-loop-slot : goal.invariant-loop-slot
invariant-loop-slot g l = record {
  cells : length l.cells.items ≡ l.slot;
  locks : length l.locks.items ≡ l.slot;
  opens : Paired Opens l.cells.items l.locks.items;
  fresh : map missed l.locks.items ≡ replicate l.slot 0;
}
