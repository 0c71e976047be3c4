use Rattle.std.proofs.Common.{◌+◌, ◌≤◌, length}
use Rattle.report_texts.proofs.logs.count_events.Given as goal

abbrev pub invariant-loop-line : goal.invariant-loop-line
invariant-loop-line l = l.count + length l.left ≤ length l.text

abbrev pub decreases-loop-line : goal.decreases-loop-line
decreases-loop-line l = length l.left
