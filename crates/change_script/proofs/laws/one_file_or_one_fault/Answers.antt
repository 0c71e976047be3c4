use Rattle.change_script.proofs.EventFileLaws.{one_file, one_fault, never_both, always_one, no_want_of_memory}
use Rattle.change_script.proofs.laws.one_file_or_one_fault.Goals as goal

pub returns : goal.returns
returns c = record { one_file = one_file; one_fault = one_fault; never_both = never_both; always_one = always_one; no_want_of_memory = no_want_of_memory }
