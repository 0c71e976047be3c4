use Rattle.std.proofs.Common.{◌≡◌, ◌+◌, ◌≤◌, length}
use Rattle.report_texts.specs.GraphFaults.{first_unlike}
use Rattle.report_texts.specs.TextLines.{lines}
use Rattle.report_texts.proofs.graph_texts.first_unlike.Given as goal

-- The texts differ where what is left of them does.
abbrev pub invariant-lines : goal.invariant-lines
invariant-lines l = record {
  same : first_unlike l.number (lines l.left) (lines l.right) ≡ first_unlike 1 (lines l.text) (lines l.other);
  room : l.number + length l.left ≤ length l.text + 1;
}

abbrev pub decreases-lines : goal.decreases-lines
decreases-lines l = length l.left
