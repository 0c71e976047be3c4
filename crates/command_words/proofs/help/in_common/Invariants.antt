-- What is left has the rest in common.
use Rattle.std.proofs.Common.{◌≡◌, ◌+◌, ◌-◌, drop, length}
use Rattle.command_words.specs.HelpTexts.{in_common}
use Rattle.command_words.proofs.help.in_common.Given as goal

abbrev pub invariant-loop-count : goal.invariant-loop-count
invariant-loop-count l = l.count + in_common (drop l.count l.one) (drop l.count l.other) ≡ in_common l.one l.other

abbrev pub decreases-loop-count : goal.decreases-loop-count
decreases-loop-count l = length l.one - l.count
