use Rattle.std.proofs.Common.{◌≡◌, ◌≤◌, List, length, false}
use Rattle.std.specs.List.{AllByRecursion}
use Rattle.base.specs.Each.{Each}
use Rattle.txn_records.specs.Entries.{config_of}
use Rattle.txn_records.specs.declared.entry.Entry.{Entry}
use Rattle.txn_records.specs.Records.{Adds}
use Rattle.change_engine.specs.Finishing.{ScansGoOn, IsScanIn, SawTwice, ScanSeen, all_entries, rounds_in}
use Rattle.change_engine.proofs.finishing.make_scans.Given as goal

abbrev pub invariant-loop-made : goal.invariant-loop-made
invariant-loop-made g l = record {
  room : g.B.Board.room l.board ≡ g.B.Board.room l.fn.board;
  scans : List ScanSeen;
  all_scans : length scans ≡ l._made;
  are_scans : (r : List Entry) → g.B.Board.stands_for l.fn.board r → AllByRecursion (IsScanIn g.B.Board.alone (config_of r)) scans;
  twice : g.B.Board.alone ≡ false → (r : List Entry) → g.B.Board.stands_for l.fn.board r → Each (SawTwice r) scans;
  go_on : AllByRecursion (ScansGoOn g.B.Board.alone) scans;
  rounds_are : l.rounds ≡ rounds_in scans;
  few : l.rounds ≤ l._made;
  adds : Adds g.B.Board.stands_for l.fn.board l.board (all_entries scans);
}
