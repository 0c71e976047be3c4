use Rattle.std.proofs.Common.{◌≡◌}
use Rattle.rows_gates.proofs.exchanges.alone.Given as goal

abbrev pub invariant-loop-value : goal.invariant-loop-value
invariant-loop-value g l = (l.source.seat.seat.table_id ≡ l.fn.source.seat.seat.table_id) × (l.sink.seat.seat.table_id ≡ l.fn.sink.seat.seat.table_id)
