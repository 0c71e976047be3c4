use Rattle.std.proofs.Common.{refl}
use Rattle.std.specs.Fmt.{digits}
use Rattle.worked_fault_laws.proofs.report_ways.each_fault_of_a_graph_is_needed.Goals as goal

pub returns : goal.returns
unfolding digits
returns c = record {
  falls = refl;
  same_path = refl;
  no_path = refl;
  argument = refl;
  no_argument = refl;
  big_argument = refl;
  no_port = refl;
  no_target = refl;
  cycle = refl;
  cut_off = refl;
  cut_off_node = refl;
  cut_off_port = refl;
}
