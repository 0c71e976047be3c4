use Rattle.std.proofs.Common.{refl}
use Rattle.worked_fault_laws.proofs.report_ways.each_line_of_a_history_is_needed.Goals as goal

pub returns : goal.returns
returns c = record {
  no_form = refl;
  slot = refl;
  slot_again = refl;
  open_first = refl;
  open_behind_another = refl;
  open_behind_show = refl;
  graph_first = refl;
  graph_behind_another = refl;
}
