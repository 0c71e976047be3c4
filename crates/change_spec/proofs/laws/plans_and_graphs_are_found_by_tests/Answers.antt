use Rattle.change_spec.proofs.PlanningLaws.{moves_lead_so, planned_so}
use Rattle.change_spec.proofs.StandingLaws.{graph_by}
use Rattle.change_spec.proofs.laws.plans_and_graphs_are_found_by_tests.Goals as goal

pub returns : goal.returns
returns c = record { plan = planned_so; moves = moves_lead_so; graph = graph_by }
