-- A configuration has one graph.
use Rattle.std.proofs.Common.{◌≡◌}
use Rattle.config_graph.specs.Graph.{Graph}
use Rattle.config_graph.proofs.GraphByLaws.{one_graph}
use Rattle.quiesce_core.specs.Live.{AreLinked, IsGraphOf, IsLiveNode}
use Rattle.quiesce_core.specs.State.{Configuration}

pub graph_is_one : (c : Configuration) (g h : Graph) → IsGraphOf c g → IsGraphOf c h → g ≡ h
graph_is_one c g h a b = one_graph (IsLiveNode c) (AreLinked c) g h a b
