use Rattle.std.proofs.Common.{◌≡◌, take}
use Rattle.config_graph.specs.Graph.{ports}
use Rattle.config_graph.proofs.numbering.list_ports.Given as goal

abbrev pub invariant-loop-index : goal.invariant-loop-index
invariant-loop-index l = l.ports.items ≡ ports (take l.index l.nodes)
