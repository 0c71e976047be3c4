use Rattle.std.proofs.Common.{◌≡◌, ◌+◌, ◌≤◌, length}
use Rattle.report_texts.specs.TextLines.{lines, tail}
use Rattle.report_texts.proofs.graph_texts.open_end.Given as goal

-- What stands behind the last line feed is left, and the lines so far are counted.
abbrev pub invariant-lines : goal.invariant-lines
invariant-lines l = record {
  same : tail l.left ≡ tail l.text;
  counted : l.number + length (lines l.left) ≡ length (lines l.text) + 1;
  room : l.number + length l.left ≤ length l.text + 1;
}

abbrev pub decreases-lines : goal.decreases-lines
decreases-lines l = length l.left
