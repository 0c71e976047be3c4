use Rattle.change_plan_laws.proofs.GateLemmas.{opens_again}
use Rattle.change_plan_laws.proofs.committing.gates_are_open_again.Goals as goal

pub returns : goal.returns
returns c = λ old new moves plan before between more_ p may closing is made live was_open. opens_again old new moves plan before between may closing more_ is p made live was_open
