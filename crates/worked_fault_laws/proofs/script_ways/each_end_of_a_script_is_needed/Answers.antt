use Rattle.std.proofs.Common.{refl}
use Rattle.std.specs.Char.{encode_utf8}
use Rattle.std.specs.Str.{chars, is_utf8}
use Rattle.worked_fault_laws.proofs.script_ways.each_end_of_a_script_is_needed.Goals as goal

pub returns : goal.returns
unfolding is_utf8 chars encode_utf8
returns c = record {
  no_start = refl;
  no_end = refl;
}
