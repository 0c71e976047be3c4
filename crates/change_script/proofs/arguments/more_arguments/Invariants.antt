use Rattle.std.proofs.Common.{◌≡◌, ◌++◌, map, length, option_map}
use Rattle.change_script.specs.Tokens.{tokens}
use Rattle.change_script.specs.Arguments.{more_arguments}
use Rattle.change_script.proofs.arguments.more_arguments.Given as goal

-- The words found, and those of what is left, are those of the line.
abbrev pub invariant-arguments : goal.invariant-arguments
invariant-arguments l = option_map (λ found. (map (λ word. word.now) l.words.items ++ found.0, found.1)) (more_arguments (tokens l.rest)) ≡ more_arguments (tokens l.line)

abbrev pub decreases-arguments : goal.decreases-arguments
decreases-arguments l = length l.rest
