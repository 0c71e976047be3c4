use Rattle.std.proofs.Common.{Some}
use Rattle.report_check.specs.Tables.{read_line, table_in}
use Rattle.report_check.proofs.PartlyLemmas.{stops_at}
use Rattle.report_check.proofs.tables.Table.read_all.Goals as goal

pub returns-then-not-branch : goal.returns-then-not-branch
returns-then-not-branch c =
    stops_at read_line (Some (table_in c.args.self.now)) c.args.history.now c.loop-line.line-index c.line-item.result (table_in c.loop-line.self) (table_in c.read.new.self)
    c.in_ok-read.field-0 c.loop-line-test.true c.line-item.is c.loop-line.invariant c.in_ok-read.ensures c.if-not-branch.true
