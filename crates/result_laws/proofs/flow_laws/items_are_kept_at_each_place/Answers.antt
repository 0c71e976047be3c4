use Rattle.result_laws.specs.Flows.{one}
use Rattle.result_laws.proofs.FlowBooks.{one_is_fair}
use Rattle.result_laws.proofs.FlowReports.{apart_described, apart_flows, each_place, each_place_weighed}
use Rattle.result_laws.proofs.flow_laws.items_are_kept_at_each_place.Goals as goal

pub returns : goal.returns
returns c = record {
  items = λ statements report l flows.
      each_place c.a_moved_state_is_the_last_one.ensures.handed c.nothing_is_open_at_the_end.ensures.nothing_open statements report l one (apart_flows c.a_moved_state_is_the_last_one.ensures.handed c.nothing_is_open_at_the_end.ensures.nothing_open statements report l flows) (λ before after e parts. one_is_fair before e);
  apart = λ statements report l are.
      each_place c.a_moved_state_is_the_last_one.ensures.handed c.nothing_is_open_at_the_end.ensures.nothing_open statements report l one (apart_described c.a_moved_state_is_the_last_one.ensures.handed c.nothing_is_open_at_the_end.ensures.nothing_open statements report l are) (λ before after e parts. one_is_fair before e);
  weighed = λ weight statements report l flows keep.
      each_place_weighed c.a_moved_state_is_the_last_one.ensures.handed c.nothing_is_open_at_the_end.ensures.nothing_open statements report l weight (apart_flows c.a_moved_state_is_the_last_one.ensures.handed c.nothing_is_open_at_the_end.ensures.nothing_open statements report l flows) keep;
  weighed_apart = λ weight statements report l are keep.
      each_place_weighed c.a_moved_state_is_the_last_one.ensures.handed c.nothing_is_open_at_the_end.ensures.nothing_open statements report l weight (apart_described c.a_moved_state_is_the_last_one.ensures.handed c.nothing_is_open_at_the_end.ensures.nothing_open statements report l are) keep;
}
