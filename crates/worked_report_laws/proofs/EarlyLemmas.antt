-- A finish that made no round and left a node undone: the report agrees with no seat.
use Rattle.std.proofs.Common.{List, refl, sym, arith}
use Rattle.std.specs.Prelude.{take, drop}
use Rattle.std.proofs.lemmas.Option.{none-some}
use Rattle.txn_spec.specs.declared.view.NodeView.{NodeView}
use Rattle.txn_records.specs.declared.entry.Entry.{Entry}
use Rattle.change_spec.specs.Resting.{FinishedEarly}
use Rattle.live_board.specs.Ended.{AgreesWith}
use Rattle.worked_report_laws.specs.Filled as filled

pub early : FinishedEarly filled.report.history
early = record {
  front = take 9 filled.history;
  n = 10;
  rounds = 0;
  later = drop 10 filled.history;
  parts = refl;
  fewer = omega arith;
  uncommitted = refl;
}

pub refuted : (r : List Entry) (nodes : List NodeView) → AgreesWith filled.script filled.report r nodes → ⊥
refuted r nodes h = none-some 0 (sym (h.early early))
