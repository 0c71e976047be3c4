use Rattle.std.proofs.Common.{◌≡◌, ◌++◌, option_map, option_copied}
use Rattle.report_lines.specs.Parts.{all_of, length_left, parts_left}
use Rattle.report_lines.specs.Numbers.{plain_integer}
use Rattle.report_lines.specs.Readings.{arguments_in}
use Rattle.report_lines.proofs.history.arguments.Given as goal

-- The integers found, and those of what is left, are those of the list.
abbrev pub invariant-parts : goal.invariant-parts
invariant-parts l = option_map (λ more. l.args.items ++ more) (all_of plain_integer (parts_left 44 (option_copied l.rest))) ≡ arguments_in l.list

abbrev pub decreases-parts : goal.decreases-parts
decreases-parts l = length_left (option_copied l.rest)
