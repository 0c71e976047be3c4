use Rattle.std.proofs.Common.{◌≡◌}
use Rattle.rows_gates.proofs.thread_rows.close_and_open.Given as goal

abbrev pub invariant-loop : goal.invariant-loop
invariant-loop g l = l.change.seat.table_id ≡ l.fn.change.seat.table_id
