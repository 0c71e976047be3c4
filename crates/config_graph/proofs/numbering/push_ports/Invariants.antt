use Rattle.std.proofs.Common.{◌≡◌, ◌++◌}
use Rattle.config_graph.specs.Graph.{ports_of}
use Rattle.config_graph.proofs.numbering.push_ports.Given as goal

abbrev pub invariant-loop-require : goal.invariant-loop-require
invariant-loop-require l = l.ports.items ≡ l.initial.ports.items ++ ports_of l.node l.require
