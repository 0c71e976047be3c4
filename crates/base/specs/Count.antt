-- To be believed (definitions.md).
-- Counts that never fall, as of faults. One that is kept in a `u64` stands still at its last value.
use Rattle.std.specs.Prelude.{ℕ, ◌<◌, ◌≤◌, ◌-◌, ◌^◌}

-- a count rose: it is higher than it was, unless it stood at the last value of a `u64`
abbrev pub Rose : ℕ → ℕ → Type 0
Rose old new = (old ≤ new) × (old < 2 ^ 64 - 1 → old < new)
