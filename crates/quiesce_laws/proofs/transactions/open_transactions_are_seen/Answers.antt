use Rattle.quiesce_laws.proofs.OrderLaws.{open_is_seen}
use Rattle.quiesce_laws.proofs.transactions.open_transactions_are_seen.Goals as goal

pub returns : goal.returns
returns c es p k run = open_is_seen es p k run
