use Rattle.command_spec.proofs.Reported.{no_script}
use Rattle.command_spec.proofs.scripts.made_scripts_are_not_refused.Goals as goal

pub returns : goal.returns
returns c = λ knows r run lanes asks. no_script r.status (c.made_runs_are_not_refused.ensures knows r run lanes asks)
