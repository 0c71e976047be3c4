use Rattle.config_graph.proofs.SearchLaws.{first_or_none}
use Rattle.config_graph.proofs.laws.a_first_on_a_cycle_or_none.Goals as goal

pub returns : goal.returns
returns c = λ g graph. first_or_none g graph.within
