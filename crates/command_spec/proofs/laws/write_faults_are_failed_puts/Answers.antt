use Rattle.command_spec.proofs.RunLaws as runs
use Rattle.command_spec.proofs.laws.write_faults_are_failed_puts.Goals as goal

pub returns : goal.returns
returns c = record { only = runs.write_fault_only; always = runs.write_fault_always }
