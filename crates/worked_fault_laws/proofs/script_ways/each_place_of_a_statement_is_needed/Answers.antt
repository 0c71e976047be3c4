use Rattle.std.proofs.Common.{refl}
use Rattle.std.specs.Char.{encode_utf8}
use Rattle.std.specs.Str.{chars, is_utf8}
use Rattle.worked_fault_laws.proofs.script_ways.each_place_of_a_statement_is_needed.Goals as goal

pub returns : goal.returns
unfolding is_utf8 chars encode_utf8
returns c = record {
  start_without_use = refl;
  second_start = refl;
  run_before_start = refl;
  change_before_start = refl;
  show_before_start = refl;
  finish_before_start = refl;
  use_behind_end = refl;
  start_behind_end = refl;
  run_behind_end = refl;
  change_behind_end = refl;
  show_behind_end = refl;
  finish_behind_end = refl;
  second_end = refl;
  use_behind_finish = refl;
  run_behind_finish = refl;
  change_behind_finish = refl;
  show_behind_finish = refl;
  second_finish = refl;
}
