use Rattle.command_spec.proofs.EachCommand.{planned}
use Rattle.command_spec.proofs.promises.plan_promises.Goals as goal

pub returns : goal.returns
returns c = planned
