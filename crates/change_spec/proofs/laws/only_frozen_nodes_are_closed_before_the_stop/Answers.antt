use Rattle.change_spec.proofs.ClosingLemmas.{closed_for}
use Rattle.change_spec.proofs.laws.only_frozen_nodes_are_closed_before_the_stop.Goals as goal

pub returns : goal.returns
returns c = record { frozen = closed_for }
