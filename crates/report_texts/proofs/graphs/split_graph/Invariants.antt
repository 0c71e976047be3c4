use Rattle.std.proofs.Common.{length}
use Rattle.report_texts.proofs.GraphLemmas.{Split}
use Rattle.report_texts.proofs.graphs.split_graph.Given as goal

-- What was passed over are lines of a graph.
abbrev pub invariant-lines : goal.invariant-lines
invariant-lines l = Split l.text l.left

abbrev pub decreases-lines : goal.decreases-lines
decreases-lines l = length l.left
