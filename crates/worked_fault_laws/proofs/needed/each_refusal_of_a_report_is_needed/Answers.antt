use Rattle.std.proofs.Common.{refl}
use Rattle.std.specs.Char.{encode_utf8}
use Rattle.std.specs.Str.{chars, is_utf8}
use Rattle.worked_fault_laws.proofs.needed.each_refusal_of_a_report_is_needed.Goals as goal

pub returns : goal.returns
unfolding is_utf8 chars encode_utf8
returns c = record { bad_line = refl; bad_version = refl; bad_history = refl; bad_end = refl; short = refl; short_history = refl }
