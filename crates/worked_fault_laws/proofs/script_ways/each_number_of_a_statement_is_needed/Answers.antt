use Rattle.std.proofs.Common.{refl}
use Rattle.worked_fault_laws.proofs.script_ways.each_number_of_a_statement_is_needed.Goals as goal

pub returns : goal.returns
returns c = record {
  start_argument = refl;
  start_negative = refl;
  run_count = refl;
  change_argument = refl;
  change_count = refl;
  move_source = refl;
  move_target = refl;
  finish_count = refl;
}
