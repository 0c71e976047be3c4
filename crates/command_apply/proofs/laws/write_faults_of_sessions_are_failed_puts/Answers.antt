use Rattle.command_apply.proofs.ApplyLaws.{write_fault_always, write_fault_only}
use Rattle.command_apply.proofs.laws.write_faults_of_sessions_are_failed_puts.Goals as goal

pub returns : goal.returns
returns c = record { only = write_fault_only; always = write_fault_always }
