use Rattle.std.proofs.Common.{◌≡◌, ◌++◌, map, length, option_map}
use Rattle.change_script.specs.Tokens.{tokens}
use Rattle.change_script.specs.ScriptWords.{ends_of, more_moves}
use Rattle.change_script.proofs.script_words.more_moves.Given as goal

-- The moves found, and those of what is left, are those of the line.
abbrev pub invariant-moves : goal.invariant-moves
invariant-moves l = option_map (λ more. map ends_of l.moves.items ++ more) (more_moves (tokens l.rest)) ≡ more_moves (tokens l.line)

abbrev pub decreases-moves : goal.decreases-moves
decreases-moves l = length l.rest
