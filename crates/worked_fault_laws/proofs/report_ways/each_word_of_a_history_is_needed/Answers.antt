use Rattle.std.proofs.Common.{refl}
use Rattle.worked_fault_laws.proofs.report_ways.each_word_of_a_history_is_needed.Goals as goal

pub returns : goal.returns
returns c = record {
  verb = refl;
  no_word = refl;
  leading_zero = refl;
  big = refl;
  no_number = refl;
  second_number = refl;
  first_of_two = refl;
  second_of_two = refl;
  third_of_two = refl;
  first_of_three = refl;
  second_of_three = refl;
  third_of_three = refl;
  fourth_of_three = refl;
  run = refl;
  run_count = refl;
  bare_and_more = refl;
}
