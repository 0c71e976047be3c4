use Rattle.command_spec.proofs.LineLemmas.{nothing_refuses}
use Rattle.command_spec.proofs.made.made_lines_are_not_refused.Goals as goal

pub returns : goal.returns
returns c = nothing_refuses c.a_graph_or_a_fault.ensures c.a_plan_or_a_refusal.ensures.plan_alone c.made_scripts_are_scripts.ensures
