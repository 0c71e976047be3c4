use Rattle.report_texts.proofs.GraphFaultLemmas.{always_one, never_both, no_want, one_drawn, one_fault}
use Rattle.report_texts.proofs.laws.one_graph_or_one_fault.Goals as goal

pub returns : goal.returns
returns c = record {
  always_one = always_one c.a_first_on_a_cycle_or_none.ensures;
  never_both = never_both;
  one_graph = one_drawn;
  one_fault = one_fault;
  no_want_of_memory = no_want;
}
