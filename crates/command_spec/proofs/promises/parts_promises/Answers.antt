use Rattle.command_spec.proofs.EachCommand.{parted}
use Rattle.command_spec.proofs.promises.parts_promises.Goals as goal

pub returns : goal.returns
returns c = parted
