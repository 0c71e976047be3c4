use Rattle.std.proofs.Common.{◌≡◌, ◌++◌, ◌+◌, ◌≤◌, [], length}
use Rattle.change_script.specs.EventFiles.{first_fault}
use Rattle.change_script.specs.Lines.{statements_from}
use Rattle.change_script.specs.ScriptFiles.{line_faults, said}
use Rattle.change_script.specs.ScriptReading.{IsAbove}
use Rattle.change_script.proofs.script_files.lines_of.Given as goal

-- What is left decides, and completes the statements.
abbrev pub invariant-lines : goal.invariant-lines
invariant-lines l = record {
  same : first_fault (line_faults l.lines.items (statements_from l.number l.rest)) ≡ first_fault (line_faults [] (statements_from 1 l.text));
  read : l.lines.items ++ said (statements_from l.number l.rest) ≡ said (statements_from 1 l.text);
  above : IsAbove l.lines.items l.above;
  few : length l.lines.items ≤ 256;
  within : l.number + length l.rest ≤ 1 + length l.text;
}

abbrev pub decreases-lines : goal.decreases-lines
decreases-lines l = length l.rest
