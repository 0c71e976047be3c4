use Rattle.std.proofs.Common.{refl}
use Rattle.worked_fault_laws.proofs.script_ways.each_form_of_a_statement_is_needed.Goals as goal

pub returns : goal.returns
returns c = record {
  use_without_blank = refl;
  use_without_name = refl;
  use_of_two = refl;
  start_without_name = refl;
  start_unclosed = refl;
  start_and_more = refl;
  run_without_count = refl;
  run_and_more = refl;
  change_without_to = refl;
  change_without_within = refl;
  change_without_moving = refl;
  change_without_moves = refl;
  change_and_more = refl;
  finish_without_within = refl;
  finish_and_more = refl;
  show_and_more = refl;
  end_and_more = refl;
}
