use Rattle.change_spec.proofs.RunningLaws.{ended_once}
use Rattle.change_spec.proofs.laws.transactions_end_once.Goals as goal

pub returns : goal.returns
returns c = record { once = ended_once }
