use Rattle.std.proofs.Common.{◌≡◌, ◌≤◌, ◌+◌, map, take, vec_len}
use Rattle.std.specs.Vec.{vec_capacity}
use Rattle.std.specs.Prelude.{List}
use Rattle.change_board.specs.Scans.{Found, ports_of}
use Rattle.change_engine.specs.Growing.{Grew, telling}
use Rattle.change_engine.specs.Passivating.{look_item, roots_of}
use Rattle.change_engine.proofs.passivating.look_at.Given as goal

abbrev pub invariant-loop-port : goal.invariant-loop-port
invariant-loop-port g l = record {
  room : g.B.Board.room l.board ≡ g.B.Board.room l.initial.board;
  found : List Found;
  at_ports : ports_of found ≡ take l.port-index l.ports;
  len : vec_len l.history + vec_len l.left ≡ vec_len l.initial.history + l.port-index;
  more_ : vec_len l.initial.history ≤ vec_len l.history;
  capacity : vec_capacity l.initial.history ≤ vec_capacity l.history;
  left_capacity : vec_capacity l.initial.left ≤ vec_capacity l.left;
  left_is : l.left.items ≡ roots_of found;
  grew : Grew g.B.Board (telling l.initial.board l.initial.history.items) (telling l.board l.history.items) (map look_item found);
}
