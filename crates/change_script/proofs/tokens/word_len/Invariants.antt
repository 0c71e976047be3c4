use Rattle.std.proofs.Common.{◌≡◌, ◌+◌, ◌≤◌, length, drop, ◌-◌}
use Rattle.change_script.specs.Tokens.{word_len}
use Rattle.change_script.proofs.tokens.word_len.Given as goal

-- The word goes on with what is left.
abbrev pub invariant-loop-len : goal.invariant-loop-len
invariant-loop-len l = record {
  same : l.len + word_len (drop l.len l.line) ≡ word_len l.line;
  within : l.len ≤ length l.line;
}

abbrev pub decreases-loop-len : goal.decreases-loop-len
decreases-loop-len l = length l.line - l.len
