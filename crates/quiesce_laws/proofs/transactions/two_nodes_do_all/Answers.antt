use Rattle.quiesce_laws.proofs.Engaged.{by_initiator, by_target}
use Rattle.quiesce_laws.proofs.transactions.two_nodes_do_all.Goals as goal

pub returns : goal.returns
returns c = record {
  by_initiator = λ es e p k b run opened h. by_initiator es p k b run opened e h;
  by_target = λ es e p k b run opened h. by_target es p k b run opened e h;
}
