use Rattle.std.proofs.Common.{◌≡◌, length, map, replicate}
use Rattle.config_graph.specs.declared.TheConstants.{MAX_NODES}
use Rattle.live_hall.specs.Doors.{Opens, missed}
use Rattle.base.specs.Paired.{Paired}
use Rattle.live_hall.proofs.hall.another_row.Given as goal

abbrev pub invariant-loop-at : goal.invariant-loop-at
invariant-loop-at g l = record {
  locks : length l.locks.items ≡ MAX_NODES;
  opens : Paired Opens l.fn.cells.items l.locks.items;
  kept : map missed l.locks.items ≡ map missed l.fn.locks.items;
  count : length l.more.items ≡ l.at;
  more_open : Paired Opens l.fn.cells.items l.more.items;
  more_fresh : map missed l.more.items ≡ replicate l.at 0;
}
