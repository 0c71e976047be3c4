use Rattle.command_spec.proofs.LineLemmas.{no_faults}
use Rattle.command_spec.proofs.made.made_descriptions_have_no_fault.Goals as goal

pub returns : goal.returns
returns c = no_faults
