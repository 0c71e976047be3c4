use Rattle.std.proofs.Common.{◌≡◌, map, take}
use Rattle.config_graph.specs.Graph.{ports}
use Rattle.quiesce_core.specs.Start.{gate_of}
use Rattle.quiesce_core.proofs.starting.list_gates.Given as goal

abbrev pub invariant-loop-number : goal.invariant-loop-number
invariant-loop-number l = l.gates.items ≡ map (gate_of l.graph) (take l.number (ports l.graph.nodes))
