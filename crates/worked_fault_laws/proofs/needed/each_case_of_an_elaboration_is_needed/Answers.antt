use Rattle.worked_fault_laws.proofs.ElaborationRows.{rows}
use Rattle.worked_fault_laws.proofs.needed.each_case_of_an_elaboration_is_needed.Goals as goal

pub returns : goal.returns
returns c = rows
