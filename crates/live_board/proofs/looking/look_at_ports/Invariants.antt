use Rattle.std.proofs.Common.{◌≡◌, ◌≤◌}
use Rattle.std.specs.Prelude.{◌*◌, ◌^◌}
use Rattle.live_board.specs.Looking.{SawPorts}
use Rattle.txn_gate.specs.Seats.{collected_in, record_of, table_of_change}
use Rattle.txn_records.specs.Entries.{config_of}
use Rattle.txn_records.specs.Records.{IsRecord}
use Rattle.live_board.proofs.looking.look_at_ports.Given as goal

abbrev pub invariant-loop-port : goal.invariant-loop-port
invariant-loop-port l = record {
  here : table_of_change l.seat ≡ table_of_change l.fn.seat;
  known : IsRecord (record_of l.seat);
  nodes : collected_in l.seat ≡ collected_in l.fn.seat;
  spare : l.seat.spare ≡ l.fn.seat.spare;
  few : l.seen.ended ≤ l.port * 2 ^ 32;
  seen : SawPorts (config_of (record_of l.fn.seat)) (record_of l.fn.seat) (record_of l.seat) l.port l.seen.idle l.seen.ended;
}
