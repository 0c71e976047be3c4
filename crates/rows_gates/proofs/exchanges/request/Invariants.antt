use Rattle.std.proofs.Common.{◌≡◌}
use Rattle.rows_gates.proofs.exchanges.request.Given as goal

abbrev pub invariant-loop : goal.invariant-loop
invariant-loop g l = l.sink.seat.seat.table_id ≡ l.fn.sink.seat.seat.table_id
