use Rattle.command_spec.proofs.EachCommand.{judged}
use Rattle.command_spec.proofs.promises.check_promises.Goals as goal

pub returns : goal.returns
returns c = judged
