use Rattle.command_spec.proofs.EachCommand.{rolled}
use Rattle.command_spec.proofs.promises.roll_promises.Goals as goal

pub returns : goal.returns
returns c = rolled
