-- How many earlier nodes are behind a node: the one whose state it took over, the one whose state that one took over,
-- and so on.
use Rattle.std.specs.Prelude.{◌≡◌, ℕ, zero, suc, ◌<◌, ◌≤◌, Some, None}
use Rattle.quiesce_core.specs.State.{Configuration, slot}
use Rattle.quiesce_core.specs.declared.state.Slot.{Slot}

-- so many are behind the node in slot n
abbrev pub HasBehind : Configuration → ℕ → ℕ → Type 0
HasBehind c n zero = (m : Slot) × (slot c n ≡ Some m) × (m.from ≡ None)
HasBehind c n (suc d) = (m : Slot) × (k : ℕ) × (slot c n ≡ Some m) × (m.from ≡ Some k) × HasBehind c k d

-- at most so many are behind any node, and fewer behind one in a slot below this
abbrev pub IsShallow : Configuration → ℕ → ℕ → Type 0
IsShallow c sources lines = (n d : ℕ) → HasBehind c n d → (d ≤ lines) × (n < sources → d < lines)
