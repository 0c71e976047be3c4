use Rattle.std.proofs.Common.{◌≡◌, map, take}
use Rattle.std.specs.List.{enumerate_from}
use Rattle.config_graph.specs.Graph as graph
use Rattle.quiesce_core.specs.Start.{slot_of}
use Rattle.quiesce_core.proofs.starting.list_slots.Given as goal

abbrev pub invariant-loop-node : goal.invariant-loop-node
invariant-loop-node l = record {
  items : l.slots.items ≡ map (slot_of l.nodes) (take l.node-index (enumerate_from 0 l.nodes));
  next : l.first_port ≡ graph.first_port l.nodes l.node-index;
}
