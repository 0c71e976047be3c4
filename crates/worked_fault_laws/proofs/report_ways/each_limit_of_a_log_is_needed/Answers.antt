use Rattle.std.proofs.Common.{refl}
use Rattle.std.specs.Fmt.{digits}
use Rattle.worked_fault_laws.proofs.report_ways.each_limit_of_a_log_is_needed.Goals as goal

pub returns : goal.returns
unfolding digits
returns c = record {
  begin = refl;
  call = refl;
  take = refl;
  more = refl;
  ask = refl;
  hear = refl;
  give = refl;
  ended = refl;
  miss = refl;
  moved = refl;
}
