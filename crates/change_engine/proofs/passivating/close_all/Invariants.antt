use Rattle.std.proofs.Common.{◌≡◌, ◌≤◌, ◌+◌, ◌++◌, map, take, vec_len}
use Rattle.std.specs.Vec.{vec_capacity}
use Rattle.report_types.specs.declared.report.HistoryLine.TheVariants as to
use Rattle.txn_records.specs.Records.{Adds}
use Rattle.change_engine.proofs.Passing.{closes}
use Rattle.change_engine.proofs.passivating.close_all.Given as goal

abbrev pub invariant-loop-port : goal.invariant-loop-port
invariant-loop-port g l = record {
  room : g.B.Board.room l.board ≡ g.B.Board.room l.initial.board;
  adds : Adds g.B.Board.stands_for l.initial.board l.board (closes (take l.port-index l.ports));
  lines : l.history.items ≡ l.initial.history.items ++ map to.Close (take l.port-index l.ports);
  len : vec_len l.history ≡ vec_len l.initial.history + l.port-index;
  capacity : vec_capacity l.initial.history ≤ vec_capacity l.history;
}
