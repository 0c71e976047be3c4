use Rattle.command_spec.proofs.EachCommand.{replayed}
use Rattle.command_spec.proofs.promises.replay_promises.Goals as goal

pub returns : goal.returns
returns c = replayed
