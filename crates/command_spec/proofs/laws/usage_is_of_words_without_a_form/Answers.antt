use Rattle.command_spec.proofs.RunLaws as runs
use Rattle.command_spec.proofs.laws.usage_is_of_words_without_a_form.Goals as goal

pub returns : goal.returns
returns c = record { only = runs.usage_only; always = runs.usage_always }
