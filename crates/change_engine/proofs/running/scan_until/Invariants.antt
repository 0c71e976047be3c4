use Rattle.std.proofs.Common.{◌≡◌, List, false}
use Rattle.std.specs.List.{AllByRecursion}
use Rattle.base.specs.Each.{Each}
use Rattle.txn_records.specs.Entries.{config_of}
use Rattle.txn_records.specs.declared.entry.Entry.{Entry}
use Rattle.txn_records.specs.Records.{Adds}
use Rattle.change_engine.specs.Finishing.{IsScanIn, SawTwice, ScanSeen, all_entries}
use Rattle.change_engine.specs.Running.{RunsOn, ended_since, is_out_after}
use Rattle.change_engine.proofs.running.scan_until.Given as goal

abbrev pub invariant-loop-scan : goal.invariant-loop-scan
invariant-loop-scan g l = record {
  room : g.B.Board.room l.board ≡ g.B.Board.room l.fn.board;
  scans : List ScanSeen;
  are_scans : (r : List Entry) → g.B.Board.stands_for l.fn.board r → AllByRecursion (IsScanIn g.B.Board.alone (config_of r)) scans;
  twice : g.B.Board.alone ≡ false → (r : List Entry) → g.B.Board.stands_for l.fn.board r → Each (SawTwice r) scans;
  go_on : Each (RunsOn g.B.Board.alone l.k l.shown) scans;
  not_out : is_out_after g.B.Board.alone scans ≡ false;
  ended_is : l.ended ≡ ended_since l.shown scans;
  adds : Adds g.B.Board.stands_for l.fn.board l.board (all_entries scans);
}
