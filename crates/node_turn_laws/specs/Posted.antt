-- Worlds in which no hint waits but for a node that has others before it.
use Rattle.std.specs.Prelude.{◌≡◌, ℕ, ◌<◌, length, Option, None, Some, slice_index_or}
use Rattle.node_turn_laws.specs.World.{World, inbox, waiting_of}

-- the node for which the hint waits that requirement r of node n asked
abbrev pub waiting_at : World → ℕ → ℕ → Option ℕ
waiting_at w n r = slice_index_or (waiting_of w n) r None

-- no hint waits for a node whose inbox is empty
abbrev pub ArePosted : World → Type 0
ArePosted w = (n r m : ℕ) → waiting_at w n r ≡ Some m → 0 < length (inbox w m)
