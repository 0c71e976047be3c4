use Rattle.std.proofs.Common.{◌≡◌, ◌++◌, length}
use Rattle.report_texts.specs.GraphTexts.{nodes_in}
use Rattle.report_texts.specs.TextLines.{lines}
use Rattle.report_texts.proofs.graphs.read_nodes.Given as goal

-- The nodes found, and those of what is left, are those of the text.
abbrev pub invariant-lines : goal.invariant-lines
invariant-lines l = l.nodes.items ++ nodes_in (lines l.left) ≡ nodes_in (lines l.text)

abbrev pub decreases-lines : goal.decreases-lines
decreases-lines l = length l.left
