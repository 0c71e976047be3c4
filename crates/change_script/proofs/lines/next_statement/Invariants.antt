use Rattle.std.proofs.Common.{◌≡◌, ◌+◌, ◌≤◌, length}
use Rattle.change_script.specs.Lines.{statements_from}
use Rattle.change_script.proofs.lines.next_statement.Given as goal

-- the lines passed over say nothing
abbrev pub invariant-loop-rest : goal.invariant-loop-rest
invariant-loop-rest l = record {
  same : statements_from l.number l.rest ≡ statements_from l.fn.number l.text;
  onward : l.fn.number ≤ l.number;
  within : l.number + length l.rest ≤ l.fn.number + length l.text;
}

abbrev pub decreases-loop-rest : goal.decreases-loop-rest
decreases-loop-rest l = length l.rest
