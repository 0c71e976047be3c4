-- Which node took over the state of each, by slot, as a board keeps it.
use Rattle.std.specs.Prelude.{◌≡◌, ℕ, List, Option, Some, None}
use Rattle.live_board.specs.Lengths.{length_at, noted}
use Rattle.quiesce_core.specs.State.{Configuration, slot}
use Rattle.quiesce_core.specs.declared.state.Slot.{Slot}

-- what is kept of a slot is a node that took over its state, and it is kept of each of which one did
pub record AreHeirs (c : Configuration) (heirs : List (Option ℕ)) : Type 0 where
  pub took : (n h : ℕ) → length_at heirs n ≡ Some h → (m : Slot) × (slot c h ≡ Some m) × (m.from ≡ Some n)
  pub known : (n h : ℕ) (m : Slot) → slot c h ≡ Some m → m.from ≡ Some n → (j : ℕ) × (length_at heirs n ≡ Some j)

-- with one node more, in this slot
abbrev pub with_heir : List (Option ℕ) → Option ℕ → ℕ → List (Option ℕ)
with_heir heirs None slot = heirs
with_heir heirs (Some n) slot = noted heirs n slot
