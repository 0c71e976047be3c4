use Rattle.std.proofs.Common.{refl}
use Rattle.std.specs.Fmt.{digits}
use Rattle.worked_fault_laws.proofs.report_ways.each_line_of_a_log_is_needed.Goals as goal

pub returns : goal.returns
unfolding digits
returns c = record {
  no_head = refl;
  no_log = refl;
  one_log = refl;
  slot = refl;
  path = refl;
  path_in_version_1 = refl;
  event = refl;
  no_last = refl;
  state = refl;
  moved = refl;
}
