use Rattle.quiesce_laws.proofs.LogLaws.{of_the_initiator, of_the_target}
use Rattle.quiesce_laws.proofs.transactions.two_logs_have_all.Goals as goal

pub returns : goal.returns
returns c = record {
  of_the_initiator = λ es p k b n test run names. of_the_initiator es p k b run n test names;
  of_the_target = λ es p k b m n test run leads names. of_the_target es p k b run m n test leads names;
}
