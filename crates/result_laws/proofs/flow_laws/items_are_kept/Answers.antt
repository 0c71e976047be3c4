use Rattle.result_laws.specs.Flows.{one}
use Rattle.result_laws.proofs.FlowBooks.{one_is_fair}
use Rattle.result_laws.proofs.FlowReports.{apart_described, apart_flows, flows_apart, flows_described, kept_so}
use Rattle.result_laws.proofs.flow_laws.items_are_kept.Goals as goal

pub returns : goal.returns
returns c = record {
  items = λ statements report l flows.
      kept_so c.a_moved_state_is_the_last_one.ensures.handed c.nothing_is_open_at_the_end.ensures.nothing_open statements report l one (apart_flows c.a_moved_state_is_the_last_one.ensures.handed c.nothing_is_open_at_the_end.ensures.nothing_open statements report l flows) (λ before after e parts. one_is_fair before e);
  apart = λ statements report l are.
      kept_so c.a_moved_state_is_the_last_one.ensures.handed c.nothing_is_open_at_the_end.ensures.nothing_open statements report l one (apart_described c.a_moved_state_is_the_last_one.ensures.handed c.nothing_is_open_at_the_end.ensures.nothing_open statements report l are) (λ before after e parts. one_is_fair before e);
  flows = flows_apart;
  described = λ statements report l flows. flows_described c.a_moved_state_is_the_last_one.ensures.handed c.nothing_is_open_at_the_end.ensures.nothing_open statements report l flows;
}
