use Rattle.std.proofs.Common.{◌≡◌, Some, take}
use Rattle.report_check.specs.Tables as tables
use Rattle.report_check.specs.Tables.{table_in}
use Rattle.report_check.proofs.tables.Table.read_all.Given as goal

abbrev pub invariant-loop-line : goal.invariant-loop-line
invariant-loop-line l = tables.read_on (table_in l.initial.self) (take l.line-index l.history) ≡ Some (table_in l.self)
