-- To be believed (definitions.md).
-- Roots: transactions that were begun, and not called.
use Rattle.std.specs.Prelude.{ℕ, Bool, not, ◌&&◌, ◌==◌, List}
use Rattle.std.specs.List.{list_any}
use Rattle.quiesce_core.specs.declared.event.Event.{Event}
use Rattle.quiesce_word.specs.Words as words
use Rattle.quiesce_core.specs.Fields.{fields_of}
use Rattle.quiesce_core.specs.Runs.{HasRoot, is_end_of}
use Rattle.quiesce_core.specs.State.{State, exchange}
use Rattle.quiesce_laws.specs.Events.{is_root_of}

-- whether port p has an open root, as its word tells, and its serial is k
abbrev pub has_root : State → ℕ → ℕ → Bool
has_root s p k = words.has_root (fields_of s p) && (exchange s p).serial == k

-- whether such a root was begun and has not ended
abbrev pub is_open_root_after : List Event → ℕ → ℕ → Bool
is_open_root_after es p k = list_any (is_root_of p k) es && not (list_any (is_end_of p k) es)

-- the transaction of a port and serial has a root
pub record IsRooted (es : List Event) (p k : ℕ) : Type 0 where
  pub port : ℕ
  pub serial : ℕ
  pub has : HasRoot es p k port serial
