use Rattle.command_spec.proofs.MadeScripts.{made}
use Rattle.command_spec.proofs.scripts.made_scripts_are_scripts.Goals as goal

pub returns : goal.returns
returns c = made
