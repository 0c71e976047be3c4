use Rattle.command_spec.proofs.Prepared as prepared
use Rattle.command_spec.proofs.scripts.three_things_are_asked_of_a_script.Goals as goal

pub returns : goal.returns
returns c = record {
  whole_or_line = prepared.whole_or_line c.a_graph_or_a_fault.ensures c.a_plan_or_a_refusal.ensures.plan_alone;
  refused_or_nothing = λ files name why is refuses nothing. nothing why is refuses;
  refused_or_leads = prepared.refused_or_leads c.a_graph_or_a_fault.ensures c.a_plan_or_a_refusal.ensures.plan_alone;
  not_neither = prepared.not_neither;
}
