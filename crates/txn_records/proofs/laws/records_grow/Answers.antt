use Rattle.txn_records.proofs.RecordLaws.{did_more, node_more, seen_more}
use Rattle.txn_records.proofs.laws.records_grow.Goals as goal

pub returns : goal.returns
returns c = record { done = did_more; seen = seen_more; by_nodes = node_more }
