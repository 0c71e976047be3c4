use Rattle.std.proofs.Common.{◌≡◌, ◌++◌, ◌≤◌, drop, length}
use Rattle.config_graph.specs.Graph.{ports}
use Rattle.report_texts.specs.GraphTexts.{links_by, targets_in}
use Rattle.report_texts.specs.TextLines.{lines}
use Rattle.report_texts.proofs.graphs.read_links.Given as goal

-- The links found, and those of the ports and lines that are left, are those of all.
abbrev pub invariant-lines : goal.invariant-lines
invariant-lines l = record {
  same : l.links.items ++ links_by l.graph.nodes (drop l.number (ports l.graph.nodes)) (targets_in (lines l.left))
      ≡ links_by l.graph.nodes (ports l.graph.nodes) (targets_in (lines l.text));
  within : l.number ≤ length (ports l.graph.nodes);
}

abbrev pub decreases-lines : goal.decreases-lines
decreases-lines l = length l.left
