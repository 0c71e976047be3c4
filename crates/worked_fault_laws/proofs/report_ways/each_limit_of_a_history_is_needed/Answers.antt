use Rattle.std.proofs.Common.{refl}
use Rattle.std.specs.Fmt.{digits}
use Rattle.worked_fault_laws.proofs.report_ways.each_limit_of_a_history_is_needed.Goals as goal

pub returns : goal.returns
unfolding digits
returns c = record {
  make = refl;
  source = refl;
  link_port = refl;
  link_slot = refl;
  unlink = refl;
  remove = refl;
  close = refl;
  reopen = refl;
  drained = refl;
  root = refl;
  unfinished = refl;
}
