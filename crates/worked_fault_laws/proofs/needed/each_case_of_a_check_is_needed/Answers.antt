use Rattle.worked_fault_laws.proofs.CheckRows.{rows}
use Rattle.worked_fault_laws.proofs.needed.each_case_of_a_check_is_needed.Goals as goal

pub returns : goal.returns
returns c = rows
