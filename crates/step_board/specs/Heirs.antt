-- Which node took over the state of each, found slot by slot.
use Rattle.std.specs.Prelude.{◌≡◌, ℕ, ◌<◌, ◌&&◌, nat_lt, List, length, position, take, Option, Some, None, is_none, slice_index_or, slice_set, if◌then◌else◌}
use Rattle.change_board.specs.Collecting.{took_over}
use Rattle.quiesce_core.specs.State.{Configuration}

-- the first of the nodes below slot i that took over the state of node k
abbrev pub heir_below : Configuration → ℕ → ℕ → Option ℕ
heir_below c i k = position (took_over k) (take i c.slots)

-- one place a node made has its heir below slot i
pub record AreHeirs (c : Configuration) (i : ℕ) (heirs : List (Option ℕ)) : Type 0 where
  pub one_a_node : length heirs ≡ length c.slots
  pub heirs_are : (k : ℕ) → k < length c.slots → slice_index_or heirs k None ≡ heir_below c i k

-- the node in this slot took over the state of the source
abbrev pub with_heir : List (Option ℕ) → Option ℕ → ℕ → List (Option ℕ)
with_heir heirs None slot = heirs
with_heir heirs (Some k) slot =
    if nat_lt k (length heirs) && is_none (slice_index_or heirs k None) then slice_set heirs k (Some slot) else heirs
