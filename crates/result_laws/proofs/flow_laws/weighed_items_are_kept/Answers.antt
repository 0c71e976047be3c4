use Rattle.result_laws.specs.Flows.{only}
use Rattle.result_laws.proofs.FlowReports.{apart_described, apart_flows, weighed_so}
use Rattle.result_laws.proofs.Weighing.{nothing_added}
use Rattle.result_laws.proofs.flow_laws.weighed_items_are_kept.Goals as goal

pub returns : goal.returns
returns c = record {
  weighed = λ weight statements report l flows keep.
      weighed_so c.a_moved_state_is_the_last_one.ensures.handed c.nothing_is_open_at_the_end.ensures.nothing_open statements report l weight (apart_flows c.a_moved_state_is_the_last_one.ensures.handed c.nothing_is_open_at_the_end.ensures.nothing_open statements report l flows) keep;
  apart = λ weight statements report l are keep.
      weighed_so c.a_moved_state_is_the_last_one.ensures.handed c.nothing_is_open_at_the_end.ensures.nothing_open statements report l weight (apart_described c.a_moved_state_is_the_last_one.ensures.handed c.nothing_is_open_at_the_end.ensures.nothing_open statements report l are) keep;
  values = λ statements report l flows adds value.
      weighed_so c.a_moved_state_is_the_last_one.ensures.handed c.nothing_is_open_at_the_end.ensures.nothing_open statements report l (only value) (apart_flows c.a_moved_state_is_the_last_one.ensures.handed c.nothing_is_open_at_the_end.ensures.nothing_open statements report l flows) (nothing_added (only value) report.history adds);
  values_apart = λ statements report l are adds value.
      weighed_so c.a_moved_state_is_the_last_one.ensures.handed c.nothing_is_open_at_the_end.ensures.nothing_open statements report l (only value) (apart_described c.a_moved_state_is_the_last_one.ensures.handed c.nothing_is_open_at_the_end.ensures.nothing_open statements report l are) (nothing_added (only value) report.history adds);
}
