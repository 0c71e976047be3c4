use Rattle.std.proofs.Common.{◌≡◌, ◌+◌, ◌≤◌, length, None}
use Rattle.report_texts.specs.GraphFaults.{first_bad}
use Rattle.report_texts.specs.TextLines.{lines}
use Rattle.report_texts.proofs.graph_texts.first_bad.Given as goal

-- What is found is found in what is left, behind the last node before it.
abbrev pub invariant-lines : goal.invariant-lines
invariant-lines l = record {
  same : first_bad l.number l.last (lines l.left) ≡ first_bad 1 None (lines l.text);
  room : l.number + length l.left ≤ length l.text + 1;
}

abbrev pub decreases-lines : goal.decreases-lines
decreases-lines l = length l.left
