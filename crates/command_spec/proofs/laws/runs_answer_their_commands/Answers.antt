use Rattle.command_spec.proofs.RunLaws.{answered}
use Rattle.command_spec.proofs.laws.runs_answer_their_commands.Goals as goal

pub returns : goal.returns
returns c = answered
