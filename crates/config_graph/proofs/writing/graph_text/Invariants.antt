use Rattle.std.proofs.Common.{◌≡◌, take}
use Rattle.std.specs.Prelude.{flat_map}
use Rattle.std.specs.List.{enumerate_from}
use Rattle.config_graph.specs.GraphText.{node_lines}
use Rattle.config_graph.proofs.writing.graph_text.Given as goal

abbrev pub invariant-loop-index : goal.invariant-loop-index
invariant-loop-index l =
    l.text.items ≡ flat_map (λ p. node_lines l.graph p.0 p.1) (take l.index (enumerate_from 0 l.graph.nodes))
