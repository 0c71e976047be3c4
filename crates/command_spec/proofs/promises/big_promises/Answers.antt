use Rattle.command_spec.proofs.EachCommand.{summed}
use Rattle.command_spec.proofs.promises.big_promises.Goals as goal

pub returns : goal.returns
returns c = summed
