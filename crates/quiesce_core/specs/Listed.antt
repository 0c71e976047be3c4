-- What the graph of the live nodes is built from: their slots in the order of their paths, the places that they get,
-- and their links.
use Rattle.std.specs.Prelude.{◌≡◌, ◌↔◌, ℕ, ◌<◌, ◌≤◌, true, List, [], length, Option, Some, None, slice_get, slice_index_or, option_map, option_and_then}
use Rattle.std.specs.Option.{option_map_or}
use Rattle.std.specs.Ordering.{nat_cmp}
use Rattle.std.specs.Cmp.Lexicographic.{slice_cmp}
use Rattle.std.specs.declared.cmp.Ordering.TheVariants.{Less}
use Rattle.config_graph.specs.declared.node.Node.{Node}
use Rattle.config_graph.specs.declared.node.Link.{Link}
use Rattle.config_graph.specs.declared.node.Target.{Target}
use Rattle.quiesce_core.specs.declared.state.Slot.{Slot}
use Rattle.quiesce_core.specs.State.{Configuration, slot, is_live, gate, owner, target}

-- the path of the node made in a slot
abbrev pub path_at : Configuration → ℕ → List ℕ
path_at c n = option_map_or (λ (m : Slot). m.node.path) (slot c n) []

-- the slots of the live nodes, in the order of their paths
pub record InPathOrder (c : Configuration) (order : List ℕ) : Type 0 where
  pub live : (a n : ℕ) → slice_get order a ≡ Some n → is_live c n ≡ true
  pub all : (n : ℕ) → is_live c n ≡ true → (a : ℕ) × (slice_get order a ≡ Some n)
  pub rising : (a b m n : ℕ) → a < b → slice_get order a ≡ Some m → slice_get order b ≡ Some n
      → slice_cmp nat_cmp (path_at c m) (path_at c n) ≡ Less
  pub few : length order ≤ length c.slots

-- the places of the first so many slots of the order; no other slot has one
abbrev pub ArePlaces : List ℕ → ℕ → List (Option ℕ) → Type 0
ArePlaces order k places = (n i : ℕ) → (slice_index_or places n None ≡ Some i) ↔ ((i < k) × (slice_get order i ≡ Some n))

-- the nodes of the first so many slots of the order
pub record AreNodesOf (c : Configuration) (order : List ℕ) (k : ℕ) (nodes : List Node) : Type 0 where
  pub count : length nodes ≡ k
  pub stands : (a n : ℕ) (m : Slot) → a < k → slice_get order a ≡ Some n → slot c n ≡ Some m → slice_get nodes a ≡ Some m.node

-- the link of a port between the places of its owner and its target, where they have places
abbrev pub link_in : Configuration → List (Option ℕ) → ℕ → Option Link
link_in c places p =
    option_and_then
    (λ (t : Target). option_and_then
    (λ i. option_map (λ j. record { from = i; require = (gate c p).require; to = j; provide = t.provide })
    (slice_index_or places t.node None))
    (slice_index_or places (owner c p) None))
    (target c p)
