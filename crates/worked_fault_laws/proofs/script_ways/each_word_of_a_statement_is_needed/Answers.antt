use Rattle.std.proofs.Common.{refl}
use Rattle.std.specs.Char.{encode_utf8}
use Rattle.std.specs.Str.{chars, is_utf8}
use Rattle.worked_fault_laws.proofs.script_ways.each_word_of_a_statement_is_needed.Goals as goal

pub returns : goal.returns
unfolding is_utf8 chars encode_utf8
returns c = record {
  verb = refl;
  file = refl;
  start_name = refl;
  start_argument = refl;
  run_count = refl;
  change_name = refl;
  change_argument = refl;
  change_count = refl;
  move_source = refl;
  move_target = refl;
  finish_count = refl;
}
