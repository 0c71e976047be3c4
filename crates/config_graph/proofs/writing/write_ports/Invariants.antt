use Rattle.std.proofs.Common.{◌≡◌, ◌++◌}
use Rattle.config_graph.specs.GraphText.{port_lines}
use Rattle.config_graph.proofs.writing.write_ports.Given as goal

abbrev pub invariant-loop-require : goal.invariant-loop-require
invariant-loop-require l =
    l.text.items ≡ l.initial.text.items ++ port_lines l.graph l.index l.node l.require
