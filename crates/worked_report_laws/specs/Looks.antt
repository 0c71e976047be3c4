-- What looks saw.
use Rattle.std.specs.Prelude.{ℕ}
use Rattle.change_spec.specs.Scene.{Seen}

-- a port that a look saw, with its serial
abbrev pub found : ℕ → ℕ → Seen
found p k = record { port = p; serial = k }
