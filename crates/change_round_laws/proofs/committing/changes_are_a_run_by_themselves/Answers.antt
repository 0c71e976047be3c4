use Rattle.change_round_laws.proofs.AloneLaws.{changes_run}
use Rattle.change_round_laws.proofs.committing.changes_are_a_run_by_themselves.Goals as goal

pub returns : goal.returns
returns c = record { run = changes_run }
