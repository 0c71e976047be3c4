use Rattle.std.proofs.Common.{refl}
use Rattle.worked_fault_laws.proofs.report_ways.each_end_of_a_report_is_needed.Goals as goal

pub returns : goal.returns
returns c = record {
  unfinished = refl;
  second_unfinished = refl;
  no_status = refl;
  status = refl;
  big_status = refl;
  line_behind = refl;
  bytes_behind = refl;
}
