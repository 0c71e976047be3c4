use Rattle.std.proofs.Common.{Some}
use Rattle.report_check.specs.Leading.{ledger_in, read_log}
use Rattle.report_check.specs.Tables.{table_in}
use Rattle.report_check.proofs.PartlyLemmas.{stops_at}
use Rattle.report_check.proofs.logs.Ledger.read_all.Goals as goal

pub returns-then-not-branch : goal.returns-then-not-branch
returns-then-not-branch c =
    stops_at (read_log (table_in c.args.table.now)) (Some (ledger_in c.args.self.now)) c.args.logs.now c.loop-log.log-index c.log-item.result (ledger_in c.loop-log.self) (ledger_in c.read.new.self)
    c.in_ok-read.field-0 c.loop-log-test.true c.log-item.is c.loop-log.invariant c.in_ok-read.ensures c.if-not-branch.true
