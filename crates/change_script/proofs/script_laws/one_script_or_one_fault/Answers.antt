use Rattle.change_script.proofs.ScriptFileLaws.{one_script, one_fault, never_both, always_one, no_want_of_memory}
use Rattle.change_script.proofs.script_laws.one_script_or_one_fault.Goals as goal

pub returns : goal.returns
returns c = record { one_script = one_script; one_fault = one_fault; never_both = never_both; always_one = always_one; no_want_of_memory = no_want_of_memory }
