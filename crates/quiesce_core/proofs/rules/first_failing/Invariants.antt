use Rattle.std.proofs.Common.{◌≡◌, drop}
use Rattle.quiesce_core.specs.Rules.{first_failing}
use Rattle.quiesce_core.proofs.rules.first_failing.Given as goal

-- those before this one hold
abbrev pub invariant-loop-number : goal.invariant-loop-number
invariant-loop-number l = first_failing (drop l.number-index l.table) ≡ first_failing l.table
