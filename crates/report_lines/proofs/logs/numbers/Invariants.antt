use Rattle.std.proofs.Common.{◌≡◌, ◌++◌, option_map, option_copied}
use Rattle.report_lines.specs.Parts.{all_of, length_left, parts_left}
use Rattle.report_lines.specs.Numbers.{max64, plain}
use Rattle.report_lines.proofs.logs.numbers.Given as goal

-- The numbers found, and those of what is left, are those of the line.
abbrev pub invariant-words : goal.invariant-words
invariant-words l = option_map (λ more. l.numbers.items ++ more) (all_of (plain max64) (parts_left 32 (option_copied l.rest))) ≡ all_of (plain max64) (parts_left 32 (option_copied l.words))

abbrev pub decreases-words : goal.decreases-words
decreases-words l = length_left (option_copied l.rest)
