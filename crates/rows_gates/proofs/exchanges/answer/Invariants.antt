use Rattle.std.proofs.Common.{◌≡◌}
use Rattle.rows_gates.proofs.exchanges.answer.Given as goal

abbrev pub invariant-loop : goal.invariant-loop
invariant-loop g l = l.source.seat.seat.table_id ≡ l.fn.source.seat.seat.table_id
