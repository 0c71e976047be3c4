use Rattle.command_spec.proofs.Reported.{asked_to_check, ends_by_verdict}
use Rattle.command_spec.proofs.laws.checks_end_by_what_is_lawful.Goals as goal

pub returns : goal.returns
returns c = record {
  only = asked_to_check;
  consistent = λ files name file own taken taken' j. (ends_by_verdict files name file own taken taken' j).0;
  unlawful = λ files name file own taken taken' j. (ends_by_verdict files name file own taken taken' j).1;
}
