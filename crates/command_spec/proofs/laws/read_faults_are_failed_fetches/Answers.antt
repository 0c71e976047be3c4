use Rattle.command_spec.proofs.RunLaws as runs
use Rattle.command_spec.proofs.laws.read_faults_are_failed_fetches.Goals as goal

pub returns : goal.returns
returns c = record { only = runs.read_fault_only; always = runs.read_fault_always }
