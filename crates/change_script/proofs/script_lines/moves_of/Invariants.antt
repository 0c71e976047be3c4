use Rattle.std.proofs.Common.{◌≡◌, ◌++◌, map, drop}
use Rattle.change_script.specs.ScriptLines.{move_of}
use Rattle.change_script.specs.ScriptWords.{ends_of}
use Rattle.change_script.proofs.script_lines.moves_of.Given as goal

-- What is left completes the moves.
abbrev pub invariant-loop-ends : goal.invariant-loop-ends
invariant-loop-ends l = l.made.items ++ map move_of (map ends_of (drop l.ends-index l.moves)) ≡ map move_of (map ends_of l.moves)
