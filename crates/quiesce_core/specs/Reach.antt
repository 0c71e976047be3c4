-- To be believed (definitions.md).
-- Which ports reach a node, and whether links close a cycle (Kramer and Magee 1990: a node is passive together with
-- the nodes whose transactions can lead to it).
use Rattle.std.specs.Prelude.{◌≡◌, ℕ, zero, suc, ◌+◌, ◌<◌, ◌≤◌, Bool, true, false, not, ◌&&◌, ◌||◌, ◌==◌, length, Some, IsTrue}
use Rattle.std.specs.List.{list_any, list_all, range_with_len}
use Rattle.std.specs.Option.{option_map_or}
use Rattle.config_graph.specs.declared.node.Target.{Target}
use Rattle.config_graph.specs.Wiring.{Wiring}
use Rattle.config_graph.specs.Kinds.{row}
use Rattle.quiesce_core.specs.declared.state.Slot.{Slot}
use Rattle.quiesce_core.specs.State.{Configuration, slot, target, ports_of, depends, is_depended}

-- p is a port of node n
pub record IsPortOf (c : Configuration) (n p : ℕ) : Type 0 where
  pub node : Slot
  pub made : slot c n ≡ Some node
  pub from : node.first_port ≤ p
  pub below : p < node.first_port + length (row node.node.kind).requires_

-- the links of a configuration, and what its kinds say of dependence
abbrev pub wiring_of : Configuration → Wiring ℕ
wiring_of c = record {
  Linked = λ p n x. target c p ≡ Some (record { node = n; provide = x });
  Depends = λ n x p. IsPortOf c n p × IsTrue (depends c n x p);
}

-- whether a port reaches the node over at most so many links
abbrev pub reaches_within : Configuration → ℕ → ℕ → ℕ → Bool
reaches_within c n zero p = false
reaches_within c n (suc k) p =
    option_map_or (λ (t : Target). t.node == n || list_any (λ q. depends c t.node t.provide q
    && reaches_within c n k q) (ports_of c t.node)) (target c p) false

-- whether a port reaches the node; where there is no cycle, it does so over no more links than this
unfoldable pub reaches : Configuration → ℕ → ℕ → Bool
reaches c n p = reaches_within c n (suc (length c.slots)) p

-- whether so many calls can be made one within another, the first from a node
abbrev pub can_walk : Configuration → ℕ → ℕ → Bool
can_walk c zero n = true
can_walk c (suc k) n = list_any (λ p. is_depended c n p
    && option_map_or (λ (t : Target). can_walk c k t.node) (target c p) false) (ports_of c n)

-- whether there is no cycle: from no node can more steps be made than there are nodes
unfoldable pub has_no_cycle : Configuration → Bool
has_no_cycle c = list_all (λ n. not (can_walk c (suc (length c.slots)) n)) (range_with_len 0 (length c.slots))
