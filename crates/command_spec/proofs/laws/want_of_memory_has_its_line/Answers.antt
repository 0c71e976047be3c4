use Rattle.command_spec.proofs.RunLaws as runs
use Rattle.command_spec.proofs.laws.want_of_memory_has_its_line.Goals as goal

pub returns : goal.returns
returns c = record { line = runs.short_line }
