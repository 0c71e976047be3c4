use Rattle.command_spec.proofs.EachCommand.{flattened}
use Rattle.command_spec.proofs.promises.flat_promises.Goals as goal

pub returns : goal.returns
returns c = flattened
