-- To be believed (definitions.md).
-- Ports that have no root of their own any more.
use Rattle.std.specs.Prelude.{ℕ, Bool}
use Rattle.quiesce_word.specs.Words as words
use Rattle.quiesce_core.specs.Fields.{fields_of}
use Rattle.quiesce_core.specs.State.{State}

-- whether port p is drained, as its word tells: closed, and idle or in a consequent transaction
abbrev pub is_drained : State → ℕ → Bool
is_drained s p = words.is_drained (fields_of s p)
