use Rattle.result_laws.proofs.WorkedRows.{aside_is_none, beside_is_so, item_holds, item_holds_amidst, item_is, none_is_row, one_is_row, passed_there, teller_is_none, two_is_so}
use Rattle.result_laws.proofs.row_laws.rows_are_told_from_others.Goals as goal

pub returns : goal.returns
returns c = record {
  rows = (none_is_row, one_is_row, two_is_so);
  passed = passed_there;
  beside = beside_is_so;
  aside = aside_is_none;
  teller = teller_is_none;
  holds = item_holds c.plans_and_graphs_are_found_by_tests.ensures.graph;
  amidst = item_holds_amidst c.plans_and_graphs_are_found_by_tests.ensures.graph;
  item = item_is c.plans_and_graphs_are_found_by_tests.ensures.graph c.a_configuration_has_one_graph.ensures.one;
}
