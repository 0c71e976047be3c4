use Rattle.config_graph.proofs.GraphByLaws.{one_graph}
use Rattle.quiesce_core.specs.Live.{AreLinked, IsLiveNode}
use Rattle.quiesce_core.proofs.laws.one_graph.Goals as goal

pub returns : goal.returns
returns c config g h a b = one_graph (IsLiveNode config) (AreLinked config) g h a b
