use Rattle.std.proofs.Common.{◌≡◌, ◌≤◌, ◌+◌, ◌*◌, List, length, vec_len}
use Rattle.std.specs.Vec.{vec_capacity}
use Rattle.txn_records.specs.Entries.{config_of}
use Rattle.txn_records.specs.declared.entry.Entry.{Entry}
use Rattle.change_engine.specs.Growing.{Grew, telling}
use Rattle.change_engine.specs.Passivating.{AreMadePorts, HasPlaceFor, IsPassivation, Passivation, left_after, passivation_items, root_ports}
use Rattle.change_engine.proofs.passivating.passivate.Given as goal

abbrev pub invariant-loop-round : goal.invariant-loop-round
invariant-loop-round g l = record {
  room : g.B.Board.room l.board ≡ g.B.Board.room l.fn.board;
  how : Passivation;
  is_passivation : IsPassivation l.ports l._round how;
  all_rounds : length how.rounds ≡ l._round;
  len : vec_len l.history + vec_len l.waiting.left ≡ vec_len l.fn.history + 2 * length l.ports;
  few : vec_len l.waiting.left ≤ length l.ports;
  capacity : vec_capacity l.fn.history ≤ vec_capacity l.history;
  place : HasPlaceFor l.waiting (length l.ports);
  left_is : l.waiting.left.items ≡ left_after how.first how.rounds;
  grew : Grew g.B.Board (telling l.fn.board l.fn.history.items) (telling l.board l.history.items) (passivation_items l.ports how);
  here : (r : List Entry) × g.B.Board.stands_for l.board r × AreMadePorts (config_of r) (root_ports l.waiting.left.items);
}
