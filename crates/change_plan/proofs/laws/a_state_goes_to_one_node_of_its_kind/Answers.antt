use Rattle.change_plan.proofs.MoveLaws.{one_kind, one_source, one_target}
use Rattle.change_plan.proofs.laws.a_state_goes_to_one_node_of_its_kind.Goals as goal

pub returns-clause-kinds : goal.returns-clause-kinds
returns-clause-kinds c = λ old new moves shifts old_graph new_graph may are. one_kind old new old_graph new_graph moves may shifts are

pub returns-clause-sources : goal.returns-clause-sources
returns-clause-sources c = λ old new moves shifts old_graph new_graph may are. one_source old new old_graph new_graph moves may shifts are

pub returns-clause-targets : goal.returns-clause-targets
returns-clause-targets c = λ old new moves shifts old_graph new_graph may are. one_target old new old_graph new_graph moves may shifts are
