use Rattle.std.proofs.Common.{◌≡◌, take}
use Rattle.config_graph.specs.Graph.{ports}
use Rattle.change_lists.proofs.layout.list_ports.Given as goal

abbrev pub invariant-loop-number : goal.invariant-loop-number
invariant-loop-number l = l.ports.items ≡ take l.number (ports l.graph.nodes)
