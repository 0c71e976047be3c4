use Rattle.quiesce_replay.specs.ReplayText.{open_line}
use Rattle.quiesce_replay.proofs.writing.push_opens.Goals as goal
use Rattle.base.proofs.LinesLaws.{lines_all, lines_more}

pub loop-transaction-preserved : goal.loop-transaction-preserved
loop-transaction-preserved c =
    lines_more open_line c.args.transactions.now c.args.text.now.items _ _ c.loop-transaction.transaction-index _ c.loop-transaction-test.true c.loop-transaction.invariant c.in_ok-push_open.ensures

pub returns : goal.returns
returns c = lines_all open_line c.args.transactions.now c.args.text.now.items _ c.loop-transaction.transaction-index c.loop-transaction-test.false c.loop-transaction.invariant
