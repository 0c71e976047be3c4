use Rattle.std.proofs.Common.{◌≡◌, ◌≤◌, ◌*◌, ◌^◌, List, map}
use Rattle.std.specs.List.{range_with_len}
use Rattle.txn_records.specs.Records.{Adds}
use Rattle.change_board.specs.Scans.{Found, ended_in, look_entry, ports_of}
use Rattle.change_engine.proofs.running.count_ended.Given as goal

abbrev pub invariant-loop-port : goal.invariant-loop-port
invariant-loop-port g l = record {
  room : g.B.Board.room l.board ≡ g.B.Board.room l.initial.board;
  looks : List Found;
  at_ports : ports_of looks ≡ range_with_len 0 l.port;
  ended_is : l.ended ≡ ended_in looks;
  bound : l.ended ≤ l.port * 2 ^ 32;
  adds : Adds g.B.Board.stands_for l.initial.board l.board (map look_entry looks);
}
