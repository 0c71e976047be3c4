use Rattle.std.proofs.Common.{◌≡◌, sum_by, take}
use Rattle.config_graph.specs.Graph.{requires_at}
use Rattle.change_plan.proofs.room.count_ports.Given as goal

abbrev pub invariant-loop-node : goal.invariant-loop-node
invariant-loop-node l = l.ports ≡ sum_by (requires_at l.graph.nodes) (take l.node-index l.nodes)
