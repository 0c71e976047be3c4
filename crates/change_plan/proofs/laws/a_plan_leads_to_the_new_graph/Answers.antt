use Rattle.change_plan.proofs.ApplyingLemmas.{connections_after, nodes_after}
use Rattle.change_plan.proofs.laws.a_plan_leads_to_the_new_graph.Goals as goal

pub returns-clause-nodes : goal.returns-clause-nodes
returns-clause-nodes c = λ old new p old_graph new_graph plan. nodes_after old new old_graph new_graph p plan

pub returns-clause-links : goal.returns-clause-links
returns-clause-links c = λ old new p old_graph new_graph plan. connections_after old new old_graph new_graph p plan
