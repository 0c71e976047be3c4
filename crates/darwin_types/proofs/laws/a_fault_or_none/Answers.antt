use Rattle.darwin_types.proofs.Verdict.{fault_or_none}
use Rattle.darwin_types.proofs.laws.a_fault_or_none.Goals as goal

pub returns : goal.returns
returns c = fault_or_none
