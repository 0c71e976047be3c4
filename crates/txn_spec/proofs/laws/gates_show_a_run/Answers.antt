use Rattle.txn_spec.proofs.RuleLaws.{change_seat, given_out, is_record, node_known, one_seat, seated, taken_in_known}
use Rattle.txn_spec.proofs.laws.gates_show_a_run.Goals as goal

pub returns : goal.returns
returns c = record {
  run = λ t h. h.is_trace.is_record.runs;
  words = λ t h. h.shows;
  nodes = node_known;
  change = is_record;
  taken_in = taken_in_known;
  seated = seated;
  one_seat = one_seat;
  once = λ t h id v at. (h.views id v at).apart;
  unseated = λ t h. h.is_trace.unseated;
  given_out = given_out;
  change_seat = change_seat;
}
