use Rattle.command_spec.proofs.TextLemmas.{checked}
use Rattle.command_spec.proofs.made.made_descriptions_are_checked.Goals as goal

pub returns : goal.returns
returns c = checked
