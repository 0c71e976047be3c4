use Rattle.std.proofs.Common.{refl}
use Rattle.worked_fault_laws.proofs.report_ways.each_word_of_a_component_is_needed.Goals as goal

pub returns : goal.returns
returns c = record {
  no_parentheses = refl;
  unclosed = refl;
  behind_parentheses = refl;
  no_name = refl;
  argument = refl;
  second_argument = refl;
  negative_zero = refl;
  big_argument = refl;
  small_argument = refl;
  start_and_more = refl;
  change = refl;
  slot = refl;
  path = refl;
  kind = refl;
  made_argument = refl;
  from = refl;
  source = refl;
  source_and_more = refl;
}
