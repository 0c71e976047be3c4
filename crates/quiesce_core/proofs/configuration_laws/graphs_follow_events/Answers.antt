use Rattle.quiesce_core.proofs.GraphNextLaws.{graphs_next}
use Rattle.quiesce_core.proofs.configuration_laws.graphs_follow_events.Goals as goal

pub returns : goal.returns
returns c s t e w step g = graphs_next s t e w step g
