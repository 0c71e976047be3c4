-- The nodes of the instances in the order of their paths, one after another.
use Rattle.std.proofs.Common.{◌≡◌, ◌≢◌, ◌∙◌, ℕ, ◌+◌, ◌<◌, ◌≤◌, Bool, true, false, cond, List, [], ◌∷◌, ◌++◌, Option, Some, None, length, map, get_or, set, refl, ap, sym, subst, inl, inr, ◌⊎◌, arith}
use Rattle.std.specs.List.{slice_get, cons_option}
use Rattle.std.specs.Option.{option_map, option_and_then}
use Rattle.std.specs.Ordering.{nat_cmp}
use Rattle.std.specs.Cmp.Lexicographic.{slice_cmp}
use Rattle.std.specs.declared.cmp.Ordering.TheVariants.{Less}
use Rattle.std.proofs.lemmas.Bool.Decides.{eqb_tells}
use Rattle.std.proofs.lemmas.List.{length_push, length-set, map-append}
use Rattle.std.proofs.lemmas.List.Elements.{filter_map-append}
use Rattle.std.proofs.lemmas.List.Quantifiers.{all_pairs_push}
use Rattle.std.proofs.lemmas.Option.{slice_get-get_or, slice_get_within, slice_get_cases, same_Some, none-some}
use Rattle.config_graph.specs.declared.kind.Kind.{Kind}
use Rattle.config_graph.specs.declared.node.Node.{Node}
use Rattle.config_graph.specs.Kinds.{kind_named}
use Rattle.config_graph.specs.Graph.{PathsRise}
use Rattle.darwin_types.specs.Scope.{is_primitive}
use Rattle.elaborator.specs.Instances.{Instance}
use Rattle.elaborator.specs.Graph.{node_of, node_with}
use Rattle.elaborator.specs.Numbering.{Expanded, Numbered, NumberedInstance}
use Rattle.elaborator.specs.NodeOrder.{nodes_in, IsInOrder, AreNodesOf, AreFirstNodes}
use Rattle.elaborator.specs.declared.nodes.Nodes.{Nodes}
use Rattle.config_graph.proofs.PathLaws.{one_place}
use Rattle.elaborator.proofs.IndexLemmas.{same_numbered}
use Rattle.base.proofs.OptionLaws.{option_map_some}
use Rattle.base.proofs.PlaceLaws.{slice_get-front, slice_get-last, slice_get-push_cases, slice_get-set_cases, slice_get-set_other, slice_get-set_same}

-- what an instance that is a node is
pub record IsNodeOf (i : Instance) (n : Node) : Type 0 where
  pub kind : Kind
  pub primitive : is_primitive i.component ≡ true
  pub named : kind_named i.component.name ≡ Some kind
  pub is_node : n ≡ node_with i kind

pub node_parts : (i : Instance) (n : Node) → node_of i ≡ Some n → IsNodeOf i n
node_parts i n is = by_test (is_primitive i.component) refl is
  where
    by_test : (b : Bool) → is_primitive i.component ≡ b → cond b (option_map (node_with i) (kind_named i.component.name)) None ≡ Some n → IsNodeOf i n
    by_test true primitive is =
        let w = option_map_some (node_with i) (kind_named i.component.name) n is in record { kind = w.0; primitive = primitive; named = w.1; is_node = sym w.2 }
    by_test false primitive is = absurd (none-some n is)

pub node_path : (i : Instance) (n : Node) → node_of i ≡ Some n → n.path ≡ i.path
node_path i n is = ap (λ (m : Node). m.path) (node_parts i n is).is_node

-- an instance that is no node
pub first_nodes-skip :
    (e : Expanded) (order : List ℕ) (ns : List Node) (n : Nodes) (first m : ℕ) (i : Instance) → AreFirstNodes e order first ns n → slice_get order first ≡ Some m → Numbered e m i
    → node_of i ≡ None → AreFirstNodes e order (first + 1) ns n
first_nodes-skip e order ns n first m i so_far at numbered none = record {
  paths_rise = so_far.paths_rise;
  below = λ a b k node j at_a from at_b is. so_far.below a b k node j at_a (omega (arith, from)) at_b is;
  node_at = so_far.node_at;
  place_at = λ b k j node lt at_b is is_node.
      elim (eqb_tells b first) [
        | inl same ↦
            let number : k ≡ m = same_Some k m (sym at_b ∙ ap (slice_get order) same.1 ∙ at) in
            let one = same_numbered e m j i (subst (λ x. Numbered e x j) number is) numbered in
            absurd (none-some node (sym none ∙ ap node_of (sym one) ∙ is_node))
        | inr other ↦ so_far.place_at b k j node (omega (arith, lt, other.1)) at_b is is_node
      ];
  placed = so_far.placed;
  all_placed = so_far.all_placed;
  same_length = so_far.same_length;
  kinds = so_far.kinds;
  few = omega (arith, so_far.few);
}

-- an instance that is a node
pub first_nodes-push :
    (e : Expanded) (order : List ℕ) (old_ns new_ns : List Node) (old new : Nodes) (first m : ℕ) (i : Instance) (node : Node) → IsInOrder e order → AreFirstNodes e order first old_ns old
    → slice_get order first ≡ Some m → Numbered e m i → node_of i ≡ Some node → new_ns ≡ old_ns ++ node ∷ [] → new.kinds.items ≡ old.kinds.items ++ node.kind ∷ []
    → new.instances.items ≡ old.instances.items ++ m ∷ [] → new.places.items ≡ set old.places.items m (Some (length old.instances.items))
    → AreFirstNodes e order (first + 1) new_ns new
first_nodes-push e order old_ns new_ns old new first m i node in_order so_far at numbered is_node nodes kinds instances placed_last = record {
  paths_rise = subst PathsRise (sym nodes) (all_pairs_push (λ (x y : Node). slice_cmp nat_cmp x.path y.path ≡ Less) old_ns node so_far.paths_rise (λ k d within.
      subst (λ p. slice_cmp nat_cmp (get_or old_ns k d).path p ≡ Less) (sym path) (so_far.below k first m (get_or old_ns k d) i (slice_get-get_or old_ns k d within) (omega arith) at numbered)));
  below = λ a b k x j at_a from at_b is.
      elim (node_cases a x at_a) [
        | inl there ↦ so_far.below a b k x j there (omega (arith, from)) at_b is
        | inr last ↦ subst (λ y. slice_cmp nat_cmp y j.path ≡ Less) (sym path ∙ ap (λ (y : Node). y.path) last.1) (in_order.rising first b m k i j (omega (arith, from)) at at_b numbered is)
      ];
  node_at = λ a x at_a.
      elim (node_cases a x at_a) [
        | inl there ↦
            let w = so_far.node_at a x there in
            (w.0, w.1, instance_kept a w.0 w.2, w.3, w.4)
        | inr last ↦ (m, i, ap (slice_get new.instances.items) last.0 ∙ instance_last, numbered, is_node ∙ ap Some last.1)
      ];
  place_at = λ b k j x lt at_b is is_x.
      elim (eqb_tells k m) [
        | inl same ↦
            let one = same_numbered e m j i (subst (λ y. Numbered e y j) same.1 is) numbered in
            let x_is : node ≡ x = same_Some node x (sym is_node ∙ ap node_of (sym one) ∙ is_x) in
            (length old_ns, node_last ∙ ap Some x_is, ap (slice_get new.places.items) same.1 ∙ place_set)
        | inr other ↦
            let earlier : b < first = before b k lt at_b other.1 in
            let w = so_far.place_at b k j x earlier at_b is is_x in
            (w.0, node_kept w.0 x w.1, ap (λ ps. slice_get ps k) places ∙ slice_get-set_other old.places.items m (Some (length old_ns)) k other.1 ∙ w.2)
      ];
  placed = λ k a at_k.
      elim (slice_get-set_cases old.places.items m (Some (length old_ns)) k (Some a) (sym (ap (λ ps. slice_get ps k) places) ∙ at_k)) [
        | inl same ↦
            let place : length old_ns ≡ a = same_Some _ a same.1 in
            (node, i, subst (λ y. slice_get new_ns y ≡ Some node) place node_last, subst (λ y. Numbered e y i) (sym same.0) numbered, is_node)
        | inr there ↦ let w = so_far.placed k a there in (w.0, w.1, node_kept a w.0 w.2, w.3, w.4)
      ];
  all_placed = ap length places ∙ length-set old.places.items m (Some (length old_ns)) ∙ so_far.all_placed;
  same_length = ap length instances ∙ length_push old.instances.items m ∙ ap (λ y. y + 1) so_far.same_length ∙ sym (ap length nodes ∙ length_push old_ns node);
  kinds = kinds ∙ ap (λ ks. ks ++ node.kind ∷ []) so_far.kinds ∙ sym (map-append kind_of old_ns (node ∷ [])) ∙ ap (map kind_of) (sym nodes);
  few = omega (arith, so_far.few, ap length instances, length_push old.instances.items m);
}
  where
    kind_of : Node → Kind
    kind_of x = x.kind

    places : new.places.items ≡ set old.places.items m (Some (length old_ns))
    places = placed_last ∙ ap (λ k. set old.places.items m (Some k)) so_far.same_length

    path : node.path ≡ i.path
    path = node_path i node is_node

    node_cases : (a : ℕ) (x : Node) → slice_get new_ns a ≡ Some x → (slice_get old_ns a ≡ Some x) ⊎ ((a ≡ length old_ns) × (node ≡ x))
    node_cases a x at_a = slice_get-push_cases old_ns node a x (sym (ap (λ xs. slice_get xs a) nodes) ∙ at_a)

    node_kept : (a : ℕ) (x : Node) → slice_get old_ns a ≡ Some x → slice_get new_ns a ≡ Some x
    node_kept a x there = ap (λ xs. slice_get xs a) nodes ∙ slice_get-front old_ns (node ∷ []) a x there

    node_last : slice_get new_ns (length old_ns) ≡ Some node
    node_last = ap (λ xs. slice_get xs (length old_ns)) nodes ∙ slice_get-last old_ns node

    instance_kept : (a k : ℕ) → slice_get old.instances.items a ≡ Some k → slice_get new.instances.items a ≡ Some k
    instance_kept a k there = ap (λ xs. slice_get xs a) instances ∙ slice_get-front old.instances.items (m ∷ []) a k there

    instance_last : slice_get new.instances.items (length old_ns) ≡ Some m
    instance_last = ap (λ xs. slice_get xs (length old_ns)) instances ∙ ap (slice_get (old.instances.items ++ m ∷ [])) (sym so_far.same_length) ∙ slice_get-last old.instances.items m

    place_set : slice_get new.places.items m ≡ Some (Some (length old_ns))
    place_set = ap (λ ps. slice_get ps m) places ∙ slice_get-set_same old.places.items m (Some (length old_ns)) (omega (arith, so_far.all_placed, slice_get_within e.made m _ numbered.is_at))

    before : (b k : ℕ) → b < first + 1 → slice_get order b ≡ Some k → k ≢ m → b < first
    before b k lt at_b other =
        elim (eqb_tells b first) [
          | inl same ↦ absurd (other (same_Some k m (sym at_b ∙ ap (slice_get order) same.1 ∙ at)))
          | inr differs ↦ omega (arith, lt, differs.1)
        ]

-- the end
pub nodes-all :
    (e : Expanded) (order : List ℕ) (ns : List Node) (n : Nodes) (first : ℕ) → IsInOrder e order → length order ≤ first → first ≤ length order → AreFirstNodes e order first ns n → AreNodesOf e ns n
nodes-all e order ns n first in_order all no_more so_far = record {
  paths_rise = so_far.paths_rise;
  node_at = so_far.node_at;
  place_at = λ k i node numbered is_node.
      let w = in_order.all k i numbered (node_parts i node is_node).primitive in
      so_far.place_at w.0 k i node (omega (arith, all, slice_get_within order w.0 k w.1)) w.1 numbered is_node;
  placed = so_far.placed;
  all_placed = so_far.all_placed;
  same_length = so_far.same_length;
  kinds = so_far.kinds;
  few = omega (arith, so_far.few, so_far.same_length, in_order.few, no_more);
}

-- ---- the nodes that instances are, by their numbers

pub nodes_in-push :
    (e : Expanded) (numbers : List ℕ) (m : ℕ) (i : Instance) (node : Node) → Numbered e m i → node_of i ≡ Some node
    → nodes_in e (numbers ++ m ∷ []) ≡ nodes_in e numbers ++ node ∷ []
nodes_in-push e numbers m i node numbered is_node =
    filter_map-append node_at numbers (m ∷ []) ∙ ap (λ o. nodes_in e numbers ++ cons_option o []) (ap (λ o. option_and_then (λ (x : NumberedInstance). node_of x.instance) o) numbered.is_at ∙ is_node)
  where
    node_at : ℕ → Option Node
    node_at n = option_and_then (λ (x : NumberedInstance). node_of x.instance) (slice_get e.made n)

-- the node is that of the kind, where this is its kind
pub node_of_kind : (i : Instance) (n : Node) (kind : Kind) → node_of i ≡ Some n → n.kind ≡ kind → n ≡ node_with i kind
node_of_kind i n kind is same =
    let parts = node_parts i n is in
    parts.is_node ∙ ap (node_with i) (sym (ap (λ (x : Node). x.kind) parts.is_node) ∙ same)

-- the node at a place, by the number of its instance
pub node_there :
    (e : Expanded) (ns : List Node) (n : Nodes) (a m : ℕ) → AreNodesOf e ns n → slice_get n.instances.items a ≡ Some m
    → (node : Node) × (slice_get ns a ≡ Some node) × (i : Instance) × (Numbered e m i × (node_of i ≡ Some node))
node_there e ns n a m are at =
    elim (slice_get_cases ns a).1 [
      | inl there ↦
          let w = are.node_at a there.0 there.2 in
          (there.0, there.2, w.1, (subst (λ k. Numbered e k w.1) (same_Some w.0 m (sym w.2 ∙ at)) w.3, w.4))
      | inr past ↦ absurd (omega (arith, slice_get_within n.instances.items a m at, are.same_length, past.0))
    ]

-- no instance is two nodes
pub one_number :
    (e : Expanded) (ns : List Node) (n : Nodes) (a b m : ℕ) → AreNodesOf e ns n → slice_get n.instances.items a ≡ Some m → slice_get n.instances.items b ≡ Some m → a ≡ b
one_number e ns n a b m are at_a at_b =
    let x = node_there e ns n a m are at_a in
    let y = node_there e ns n b m are at_b in
    let node : x.0 ≡ y.0 = same_Some x.0 y.0 (sym x.3.1 ∙ ap node_of (same_numbered e m x.2 y.2 x.3.0 y.3.0) ∙ y.3.1) in
    one_place ns are.paths_rise a b y.0 (x.1 ∙ ap Some node) y.1
