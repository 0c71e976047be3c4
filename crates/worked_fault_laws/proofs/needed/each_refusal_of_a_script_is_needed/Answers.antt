use Rattle.std.proofs.Common.{refl}
use Rattle.std.specs.Char.{encode_utf8}
use Rattle.std.specs.Str.{chars, is_utf8}
use Rattle.worked_fault_laws.proofs.needed.each_refusal_of_a_script_is_needed.Goals as goal

pub returns : goal.returns
unfolding is_utf8 chars encode_utf8
returns c = record { bad_line = refl; too_big = refl; order = refl; too_many = refl; no_start = refl; no_end = refl }
