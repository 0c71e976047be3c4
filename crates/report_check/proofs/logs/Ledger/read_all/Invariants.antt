use Rattle.std.proofs.Common.{◌≡◌, Some, take}
use Rattle.report_check.specs.Leading.{ledger_in, read_logs_on}
use Rattle.report_check.specs.Tables.{table_in}
use Rattle.report_check.proofs.logs.Ledger.read_all.Given as goal

abbrev pub invariant-loop-log : goal.invariant-loop-log
invariant-loop-log l = read_logs_on (table_in l.table) (ledger_in l.initial.self) (take l.log-index l.logs) ≡ Some (ledger_in l.self)
