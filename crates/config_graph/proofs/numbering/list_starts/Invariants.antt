use Rattle.std.proofs.Common.{◌≡◌, map}
use Rattle.std.specs.List.{range_with_len}
use Rattle.config_graph.specs.Graph.{first_port}
use Rattle.config_graph.specs.Numbering.{first_provision, start}
use Rattle.config_graph.proofs.numbering.list_starts.Given as goal

abbrev pub invariant-loop-node : goal.invariant-loop-node
invariant-loop-node l = record {
  so_far : l.starts.items ≡ map (start l.nodes) (range_with_len 0 l.node-index);
  port_is : l.port ≡ first_port l.nodes l.node-index;
  provision_is : l.provision ≡ first_provision l.nodes l.node-index;
}
