use Rattle.std.proofs.Common.{◌++◌, refl}
use Rattle.quiesce_core.specs.Reach.{has_no_cycle, reaches}
use Rattle.quiesce_core.specs.Runs.{state_after}
use Rattle.quiesce_core.proofs.RunLaws.{run_if}
use Rattle.quiesce_laws.specs.Starts.{start_of}
use Rattle.change_plan_laws.specs.Commit.{commit_events}
use Rattle.change_plan_laws.specs.Rows.{crosswise, first_accounts, next_accounts}
use Rattle.change_plan_laws.proofs.worked.a_worked_handover.Goals as goal

pub returns-clause-events : goal.returns-clause-events
returns-clause-events c = refl

pub returns-clause-runs : goal.returns-clause-runs
unfolding has_no_cycle reaches
returns-clause-runs c = run_if (start_of first_accounts ++ commit_events first_accounts next_accounts crosswise (state_after (start_of first_accounts)).config) refl
