use Rattle.command_spec.proofs.EachCommand.{step_ran}
use Rattle.command_spec.proofs.promises.step_promises.Goals as goal

pub returns : goal.returns
returns c = step_ran
