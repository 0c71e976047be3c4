use Rattle.change_round_laws.proofs.EngagedLaws.{in_two_logs}
use Rattle.change_round_laws.proofs.engaging.two_logs_have_each_transaction.Goals as goal

pub returns : goal.returns
returns c = record { engaged = in_two_logs c.two_logs_have_all.ensures.of_the_initiator c.two_logs_have_all.ensures.of_the_target }
