use Rattle.command_spec.proofs.EachCommand.{upgraded}
use Rattle.command_spec.proofs.promises.upgrade_promises.Goals as goal

pub returns : goal.returns
returns c = upgraded
