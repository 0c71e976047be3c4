-- Where the live nodes of a configuration stand in a graph that has the same nodes.
use Rattle.std.proofs.Common.{◌≡◌, ℕ, ◌+◌, ◌-◌, ◌<◌, ◌≤◌, Bool, true, false, List, [], ◌∷◌, length, get_or, Some, refl, sym, ap, ◌∙◌, subst, arith, Contains, ⊎_elim, Option, None}
use Rattle.std.specs.Prelude.{◌↔◌, position, slice_get, bytes_eq}
use Rattle.std.proofs.lemmas.Bool.{and_from, and_parts, both_ways, or_cases}
use Rattle.std.proofs.lemmas.Option.{same_Some, slice_get-get_or}
use Rattle.std.proofs.lemmas.List.Quantifiers.{position-Some}
use Rattle.std.proofs.lemmas.Slice.Eq.{bytes_eq-Decides}
use Rattle.change_plan.proofs.NodeLaws.{one_path}
use Rattle.config_graph.specs.Graph.{Graph, PathsRise}
use Rattle.config_graph.specs.Kinds.{row}
use Rattle.config_graph.specs.declared.node.Node.{Node}
use Rattle.quiesce_core.specs.declared.state.Slot.{Slot}
use Rattle.quiesce_core.specs.Live.{IsLiveAt, IsLiveNode, StandsAt}
use Rattle.quiesce_core.specs.State.{Configuration, gate, owner, slot, is_live}
use Rattle.quiesce_core.specs.WellFormed.{IsSound}
use Rattle.base.proofs.OptionLaws.{map_or_at, map_or_true}
use Rattle.base.proofs.ContainsLaws.{at_some_place}
use Rattle.change_plan_laws.specs.Commit.{is_at, node_path, slot_at, is_one_of}
use Rattle.change_plan_laws.specs.Commit as commit
use Rattle.quiesce_laws.specs.Fitting.{PathsApart}
use Rattle.std.specs.Option.{option_map_or}

-- a node is live that is one of those at some places of a graph
stands_live : (g : Graph) (i : ℕ) (c : Configuration) (n : ℕ) → commit.stands_in g i c n ≡ true → is_live c n ≡ true
stands_live g i c n h = by (slot c n) h
  where
    by : (o : Option Slot) → option_map_or (is_at (node_path g i)) o false ≡ true → option_map_or (λ (m : Slot). m.live) o false ≡ true
    by None h = h
    by (Some m) h = (and_parts m.live _ h).0

pub one_live : (g : Graph) (places : List ℕ) (c : Configuration) (n : ℕ) → is_one_of g places c n ≡ true → is_live c n ≡ true
one_live g [] c n h = absurd (both_ways false refl h)
one_live g (i ∷ places) c n h = ⊎_elim (stands_live g i c n) (one_live g places c n) (or_cases (commit.stands_in g i c n) (is_one_of g places c n) h)

pub path_of : (g : Graph) (i : ℕ) (node : Node) → slice_get g.nodes i ≡ Some node → node_path g i ≡ node.path
path_of g i node e = map_or_at (λ (m : Node). m.path) (slice_get g.nodes i) [] node e

module _ (c : Configuration) (g : Graph) (rise : PathsRise g.nodes) (nodes_are : (node : Node) → Contains g.nodes node ↔ IsLiveNode c node) where
  pub stands_if_live : (n : ℕ) (node : Node) → IsLiveAt c n node → (i : ℕ) × (slice_get g.nodes i ≡ Some node) × StandsAt c g.nodes n i
  stands_if_live n node l =
      let held = (nodes_are node).1 (n, l) in
      let w = at_some_place g.nodes node held in
      (w.0, w.1, record { made = l.made; there = l.there; live = l.live; stands = w.1 ∙ ap Some (sym l.is_node) })

  pub stands_if_path : (n i : ℕ) (node : Node) (m : Slot) → slice_get g.nodes i ≡ Some node → slot c n ≡ Some m → is_at (node_path g i) m ≡ true → StandsAt c g.nodes n i
  stands_if_path n i node m at there h =
      let parts = and_parts m.live (bytes_eq m.node.path (node_path g i)) h in
      let same : m.node.path ≡ node.path = (bytes_eq-Decides m.node.path (node_path g i)).0 parts.1 ∙ path_of g i node at in
      let w = stands_if_live n m.node (record { made = m; there = there; live = parts.0; is_node = refl }) in
      let one : w.0 ≡ i = one_path g.nodes rise w.0 i m.node node w.1 at same in
      subst (λ k. StandsAt c g.nodes n k) one w.2

  pub stands_if_in : (n i : ℕ) (node : Node) → slice_get g.nodes i ≡ Some node → commit.stands_in g i c n ≡ true → StandsAt c g.nodes n i
  stands_if_in n i node at h = let m = map_or_true (is_at (node_path g i)) (slot c n) h in stands_if_path n i node m.0 at m.1 m.2

  pub stands_if_slot : (n i : ℕ) (node : Node) → slice_get g.nodes i ≡ Some node → slot_at c (node_path g i) ≡ Some n → StandsAt c g.nodes n i
  stands_if_slot n i node at h = let m = position_at (is_at (node_path g i)) c.slots n h in stands_if_path n i node m.0 at m.1 m.2
    where
      position_at : {A : Type 0} (f : A → Bool) (xs : List A) (n : ℕ) → position f xs ≡ Some n → (x : A) × (slice_get xs n ≡ Some x) × (f x ≡ true)
      position_at f [] n h = absurd (cc)
      position_at f (x ∷ xs) n h = let w = position-Some f (x ∷ xs) n x h in (get_or (x ∷ xs) n x, slice_get-get_or (x ∷ xs) n x w.0, w.1)

pub in_if_stands : (c : Configuration) (g : Graph) (n i : ℕ) → StandsAt c g.nodes n i → commit.stands_in g i c n ≡ true
in_if_stands c g n i s =
    map_or_at (is_at (node_path g i)) (slot c n) false s.made s.there
    ∙ and_from s.made.live (bytes_eq s.made.node.path (node_path g i)) s.live ((bytes_eq-Decides s.made.node.path (node_path g i)).1 (sym (path_of g i s.made.node s.stands)))

pub stands_live_at : (c : Configuration) (nodes : List Node) (n i : ℕ) (node : Node) → slice_get nodes i ≡ Some node → StandsAt c nodes n i → IsLiveAt c n node
stands_live_at c nodes n i node at s = record { made = s.made; there = s.there; live = s.live; is_node = same_Some s.made.node node (sym s.stands ∙ at) }

-- two slots at one place are one
pub one_slot : (c : Configuration) → PathsApart c → (nodes : List Node) (n k i : ℕ) → StandsAt c nodes n i → StandsAt c nodes k i → n ≡ k
one_slot c apart nodes n k i s t =
    apart n k s.made.node t.made.node (record { made = s.made; there = s.there; live = s.live; is_node = refl }) (record { made = t.made; there = t.there; live = t.live; is_node = refl })
    (ap (λ (m : Node). m.path) (same_Some s.made.node t.made.node (sym s.stands ∙ t.stands)))

-- a port is told by its owner and its requirement
pub one_port : (c : Configuration) → IsSound c → (p q : ℕ) → p < length c.gates → q < length c.gates → owner c p ≡ owner c q → (gate c p).require ≡ (gate c q).require → p ≡ q
one_port c sound p q hp hq own req =
    let o = sound.ports p hp in
    let o' = sound.ports q hq in
    let one : o.node ≡ o'.node = same_Some o.node o'.node (sym o.made ∙ ap (slot c) own ∙ o'.made) in
    let a = at p o.node hp o.made o.from o.below in
    let b = at q o'.node hq o'.made o'.from o'.below in
    let first : o.node.first_port ≡ o'.node.first_port = ap (λ (m : Slot). m.first_port) one in
    omega (arith, a, b, first, req)
  where
    at : (p : ℕ) (m : Slot) → p < length c.gates → slot c (owner c p) ≡ Some m → m.first_port ≤ p → p < m.first_port + length (row m.node.kind).requires_ → p ≡ m.first_port + (gate c p).require
    at p m hp made from below =
        let same : m.first_port + (p - m.first_port) ≡ p = omega (arith, from) in
        let is : (gate c p).require ≡ p - m.first_port = ap (λ i. (gate c i).require) (sym same) ∙ (sound.rows (owner c p) m made).in_order (p - m.first_port) (omega (arith, from, below)) in
        omega (arith, is, from)
