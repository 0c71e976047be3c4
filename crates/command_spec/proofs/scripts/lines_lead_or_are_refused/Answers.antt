use Rattle.command_spec.proofs.Leading.{change_leads_or_stops, lead_or_stop}
use Rattle.command_spec.proofs.Prepared.{never_both, one_end}
use Rattle.command_spec.proofs.scripts.lines_lead_or_are_refused.Goals as goal

pub returns : goal.returns
returns c = record {
  one_end = one_end c.a_graph_or_a_fault.ensures c.a_plan_or_a_refusal.ensures.plan_alone;
  never_both = never_both c.a_graph_or_a_fault.ensures c.a_plan_or_a_refusal.ensures.plan_alone;
  always_one = lead_or_stop c.a_fault_or_none.ensures c.a_graph_or_a_fault.ensures c.a_plan_or_a_refusal.ensures.always_one;
  of_a_change = change_leads_or_stops c.a_fault_or_none.ensures c.a_graph_or_a_fault.ensures c.a_plan_or_a_refusal.ensures.always_one;
}
