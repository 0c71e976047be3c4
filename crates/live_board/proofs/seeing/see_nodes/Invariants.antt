use Rattle.std.proofs.Common.{◌≡◌, length}
use Rattle.live_board.specs.Seeing.{SawNodes}
use Rattle.state_handover.specs.contracts.any_node.AnyNodeComponent.TheImpl.{ghosts}
use Rattle.txn_gate.specs.Seats.{collected_in, record_of, table_of_change}
use Rattle.txn_records.specs.Entries.{config_of}
use Rattle.txn_records.specs.Records.{IsRecord}
use Rattle.live_board.proofs.seeing.see_nodes.Given as goal

abbrev pub invariant-loop-slot : goal.invariant-loop-slot
invariant-loop-slot g l = record {
  here : table_of_change l.seat ≡ table_of_change l.fn.seat;
  known : IsRecord (record_of l.seat);
  nodes : collected_in l.seat ≡ collected_in l.fn.seat;
  spare : l.seat.spare ≡ l.fn.seat.spare;
  count : length l.lengths.items ≡ length l.fn.lengths.items;
  seen : SawNodes ghosts.state g.J.Named.gates (config_of (record_of l.fn.seat)) (record_of l.fn.seat) (record_of l.seat) l.lengths.items l.fn.door l.door l.slot l.done;
}
