-- Where no path is made twice and no source is bound twice, a requirement leads to one provision at most.
use Rattle.std.proofs.Common.{◌≡◌, ◌≢◌, ◌∙◌, ℕ, ◌<◌, ℤ, Bool, false, List, Option, Some, None, refl, ap, sym, subst, inl, inr, ◌⊎◌, arith}
use Rattle.std.specs.List.{Contains}
use Rattle.std.specs.Ordering.{int_eq}
use Rattle.std.specs.Str.{bytes_eq}
use Rattle.std.proofs.lemmas.Bool.{cases_Bool, cases_order, false≢true}
use Rattle.std.proofs.lemmas.Bool.Decides.{Decides-int_eq}
use Rattle.std.proofs.lemmas.Option.{none-some, same_Some}
use Rattle.std.proofs.lemmas.Slice.Eq.{bytes_eq-Decides}
use Rattle.config_graph.specs.declared.node.Node.{Node}
use Rattle.config_graph.proofs.KindLaws.{only_provision}
use Rattle.darwin_parser.specs.declared.tree.Side.{Side}
use Rattle.darwin_parser.specs.declared.tree.Side.TheVariants.{Provide, Require}
use Rattle.darwin_parser.specs.Tree.{Name, Tree}
use Rattle.darwin_types.specs.Scope.{is_primitive}
use Rattle.elaborator.specs.Paths.{Path}
use Rattle.elaborator.specs.Instances.{Instance, made_in, paths_in, Inst, at_top, below}
use Rattle.elaborator.specs.Bindings.{Port, Pair, pair_of, bindings_in, pairs_in, Bound, bound, BoundThrough, at_once, through}
use Rattle.elaborator.specs.Graph.{node_of, IsNode, port_at, Linked}
use Rattle.elaborator.proofs.ChildLaws.{depth-made}
use Rattle.elaborator.proofs.BoundLemmas.{Form, across, outward, inward, Where, inner, outer, parts, stands_where, form}
use Rattle.elaborator.proofs.RankLemmas.{expanded_composite}
use Rattle.elaborator.proofs.NodeLemmas.{node_parts, node_path}
use Rattle.elaborator.proofs.LinkLemmas.{both_sides}
use Rattle.elaborator.proofs.InstanceLaws.{IsSingle, path_made, told-by_level, told-below}
use Rattle.base.proofs.ContainsLaws.{Contains-from_flat_map}

-- ---- what can't differ is the same

abbrev CannotDiffer : {A : Type 0} → A → A → Type 0
CannotDiffer x y = (x ≢ y) → ⊥

same_bytes : (x y : List ℕ) → CannotDiffer x y → x ≡ y
same_bytes x y h =
    elim (cases_Bool (bytes_eq x y)) [
      | inl is ↦ (bytes_eq-Decides x y).0 is
      | inr differ ↦ absurd (h (λ one. false≢true (sym differ ∙ (bytes_eq-Decides x y).1 one)))
    ]

same_number : (m n : ℕ) → CannotDiffer m n → m ≡ n
same_number m n h = elim (cases_order m n) [ inl is ↦ is | inr differ ↦ absurd (h (unequal differ)) ]
  where
    unequal : (m < n) ⊎ (n < m) → m ≡ n → ⊥
    unequal (inl lt) is = omega (arith, lt, is)
    unequal (inr lt) is = omega (arith, lt, is)

same_side : (s t : Side) → CannotDiffer s t → s ≡ t
same_side Provide Provide h = refl
same_side Require Require h = refl
same_side Provide Require h = absurd (h (λ one. both_sides (sym one)))
same_side Require Provide h = absurd (h both_sides)

same_index : (x y : Option ℤ) → CannotDiffer x y → x ≡ y
same_index None None h = refl
same_index None (Some y) h = absurd (h (λ one. none-some y one))
same_index (Some x) None h = absurd (h (λ one. none-some x (sym one)))
same_index (Some x) (Some y) h =
    elim (cases_Bool (int_eq x y)) [
      | inl is ↦ ap Some ((Decides-int_eq x y).0 is)
      | inr differ ↦ absurd (h (λ one. false≢true (sym differ ∙ (Decides-int_eq x y).1 (same_Some x y one))))
    ]

same_port : (x y : Port) → CannotDiffer x y → x ≡ y
same_port x y h = λ i. record { path = path i; depth = depth i; side = side i; name = name i; index = index i }
  where
    path : x.path ≡ y.path
    path = same_bytes x.path y.path (λ differ. h (λ one. differ (ap (λ (p : Port). p.path) one)))

    depth : x.depth ≡ y.depth
    depth = same_number x.depth y.depth (λ differ. h (λ one. differ (ap (λ (p : Port). p.depth) one)))

    side : x.side ≡ y.side
    side = same_side x.side y.side (λ differ. h (λ one. differ (ap (λ (p : Port). p.side) one)))

    name : x.name ≡ y.name
    name = same_bytes x.name y.name (λ differ. h (λ one. differ (ap (λ (p : Port). p.name) one)))

    index : x.index ≡ y.index
    index = same_index x.index y.index (λ differ. h (λ one. differ (ap (λ (p : Port). p.index) one)))

-- ---- instances

-- no path is made twice, and no source is bound twice
pub record IsBoundOnce (tree : Tree) (top : Instance) : Type 0 where
  pub depth : top.depth ≡ 0
  pub composite : is_primitive top.component ≡ false
  pub single : IsSingle tree top
  pub once :
      (i : Instance) (p q : Pair) → Inst tree top i → Contains (pairs_in tree i) p → Contains (pairs_in tree i) q → p.source ≡ q.source
      → CannotDiffer p.target q.target

-- two instances in which one path is made are one
pub one_maker_of :
    (tree : Tree) (top : Instance) → IsBoundOnce tree top → (i j : Instance) (path : Path) → Inst tree top i → Inst tree top j → Contains (paths_in tree i) path
    → Contains (paths_in tree j) path → i ≡ j
one_maker_of tree top s i j path inst inst' there there' =
    told-by_level tree top s.single s.depth i inst j inst' (same_bytes i.path j.path (λ differ. one (λ same. differ (ap (λ (x : Instance). x.path) same)))) (same_number i.depth j.depth (λ differ. one (λ same. differ (ap (λ (x : Instance). x.depth) same))))
  where
    one : CannotDiffer i j
    one differ = s.single.apart i j path inst inst' differ there there'

-- ---- sources

-- where a source stands: in an instance made right there, or in the instance itself
data Source (tree : Tree) (i : Instance) (x : Port) : Type 0 where
  of_inner : (j : Instance) → Contains (made_in tree i) j → x.side ≡ Require → x.path ≡ j.path → Source tree i x
  its_own : x.side ≡ Provide → x.path ≡ i.path → x.depth ≡ i.depth → Source tree i x

source_by_form :
    (tree : Tree) (i : Instance) (a b : Bool) (s t : Side) (j : Instance) (x : Port) → Form a s b t → Where tree i a j → x.side ≡ s → x.path ≡ j.path → x.depth ≡ j.depth → Source tree i x
source_by_form tree i _ _ _ _ j x across (inner _ made) side path depth = of_inner j made side path
source_by_form tree i _ _ _ _ j x outward (inner _ made) side path depth = of_inner j made side path
source_by_form tree i _ _ _ _ _ x inward outer side path depth = its_own side path depth

source : (tree : Tree) (i : Instance) (p : Pair) → Contains (pairs_in tree i) p → Source tree i p.source
source tree i p there =
    let from = Contains-from_flat_map (pair_of tree i) (bindings_in i) p there in
    let w = parts tree i from.0 p from.2 in
    source_by_form tree i _ _ _ _ w.source.instance p.source (form w.source w.target w.leads) (stands_where tree i w.source_end w.source w.is_source) (ap (λ (x : Port). x.side) w.source_port) (ap (λ (x : Port). x.path) w.source_port) (ap (λ (x : Port). x.depth) w.source_port)

-- a port is a source in one instance at most
one_owner :
    (tree : Tree) (top : Instance) → IsBoundOnce tree top → (i j : Instance) (x : Port) → Inst tree top i → Inst tree top j → Source tree i x → Source tree j x → i ≡ j
one_owner tree top s i j x inst inst' (of_inner a there side path) (of_inner b there' side' path') =
    one_maker_of tree top s i j x.path inst inst' (subst (Contains (paths_in tree i)) (sym path) (path_made tree i a there)) (subst (Contains (paths_in tree j)) (sym path') (path_made tree j b there'))
one_owner tree top s i j x inst inst' (of_inner a there side path) (its_own side' path' depth') = absurd (both_sides (sym side ∙ side'))
one_owner tree top s i j x inst inst' (its_own side path depth) (of_inner b there' side' path') = absurd (both_sides (sym side' ∙ side))
one_owner tree top s i j x inst inst' (its_own side path depth) (its_own side' path' depth') =
    told-by_level tree top s.single s.depth i inst j inst' (sym path ∙ path') (sym depth ∙ depth')

-- ---- chains

record IsBound (tree : Tree) (top : Instance) (x y : Port) : Type 0 where
  pub instance : Instance
  pub pair : Pair
  pub inst : Inst tree top instance
  pub there : Contains (pairs_in tree instance) pair
  pub source_is : pair.source ≡ x
  pub target_is : pair.target ≡ y

bound_in : (tree : Tree) (top : Instance) (x y : Port) → Bound tree top x y → IsBound tree top x y
bound_in tree top _ _ (bound i p inst there) = record { instance = i; pair = p; inst = inst; there = there; source_is = refl; target_is = refl }

one_target : (tree : Tree) (top : Instance) → IsBoundOnce tree top → (x y z : Port) → Bound tree top x y → Bound tree top x z → y ≡ z
one_target tree top s x y z a b =
    let p = bound_in tree top x y a in
    let q = bound_in tree top x z b in
    let at = subst (Source tree p.instance) p.source_is (source tree p.instance p.pair p.there) in
    let at' = subst (Source tree q.instance) q.source_is (source tree q.instance q.pair q.there) in
    let same = one_owner tree top s p.instance q.instance x p.inst q.inst at at' in
    let target = same_port p.pair.target q.pair.target (s.once q.instance p.pair q.pair q.inst (subst (λ i. Contains (pairs_in tree i) p.pair) same p.there) q.there (p.source_is ∙ sym q.source_is)) in
    sym p.target_is ∙ target ∙ q.target_is

-- nothing is bound to the port
abbrev IsLast : Tree → Instance → Port → Type 0
IsLast tree top x = (y : Port) → Bound tree top x y → ⊥

-- the first binding of a list, and those after it
first_step : (tree : Tree) (top : Instance) (x z : Port) → BoundThrough tree top x z → Bound tree top x z ⊎ ((y : Port) × Bound tree top x y × BoundThrough tree top y z)
first_step tree top _ _ (at_once x z b) = inl b
first_step tree top _ _ (through x y z b rest) = inr (y, b, rest)

not_last : (tree : Tree) (top : Instance) (x z : Port) → BoundThrough tree top x z → IsLast tree top x → ⊥
not_last tree top x z leads last = elim (first_step tree top x z leads) [ inl b ↦ last z b | inr w ↦ last w.0 w.1 ]

-- lists of bindings from one port that can't be gone on with end at one port
one_end :
    (tree : Tree) (top : Instance) → IsBoundOnce tree top → (x y : Port) → BoundThrough tree top x y → (z : Port) → BoundThrough tree top x z → IsLast tree top y → IsLast tree top z → y ≡ z
one_end tree top s _ _ (at_once x y a) z leads last last' =
    elim (first_step tree top x z leads) [
      | inl b ↦ one_target tree top s x y z a b
      | inr w ↦ absurd (not_last tree top w.0 z w.2 (subst (IsLast tree top) (one_target tree top s x y w.0 a w.1) last))
    ]
one_end tree top s _ _ (through x w y a rest) z leads last last' =
    elim (first_step tree top x z leads) [
      | inl b ↦ absurd (not_last tree top w y rest (subst (IsLast tree top) (sym (one_target tree top s x w z a b)) last'))
      | inr v ↦ one_end tree top s w y rest z (subst (λ u. BoundThrough tree top u z) (sym (one_target tree top s x w v.0 a v.1)) v.2) last last'
    ]

-- ---- nodes

-- an instance that is a node isn't the top
node_below : (tree : Tree) (top : Instance) → IsBoundOnce tree top → (n : Node) (i : Instance) → Inst tree top i → node_of i ≡ Some n → 0 < i.depth
node_below tree top s n _ at_top is_node = absurd (false≢true (sym s.composite ∙ (node_parts top n is_node).primitive))
node_below tree top s n _ (below k i inst there) is_node = omega (arith, depth-made tree k i there)

-- instances that are nodes of one path are one
pub one_node :
    (tree : Tree) (top : Instance) → IsBoundOnce tree top → (m n : Node) (i : IsNode tree top m) (j : IsNode tree top n) → i.instance.path ≡ j.instance.path → i.instance ≡ j.instance
one_node tree top s m n i j same =
    told-below tree top s.single s.depth i.instance i.is_instance j.instance j.is_instance (node_below tree top s m i.instance i.is_instance i.is_node) (node_below tree top s n j.instance j.is_instance j.is_node) same

-- a provision of a node is bound to nothing
node_last : (tree : Tree) (top : Instance) → IsBoundOnce tree top → (n : Node) (i : IsNode tree top n) (name : Name) → IsLast tree top (port_at i.instance Provide name)
node_last tree top s n i name y b = by (subst (Source tree w.instance) w.source_is (source tree w.instance w.pair w.there))
  where
    w : IsBound tree top (port_at i.instance Provide name) y
    w = bound_in tree top (port_at i.instance Provide name) y b

    composite : is_primitive w.instance.component ≡ false
    composite = let from = Contains-from_flat_map (pair_of tree w.instance) (bindings_in w.instance) w.pair w.there in expanded_composite w.instance from.0 from.1

    by : Source tree w.instance (port_at i.instance Provide name) → ⊥
    by (of_inner a there side path) = both_sides (sym side)
    by (its_own side path depth) =
        let same = told-by_level tree top s.single s.depth i.instance i.is_instance w.instance w.inst path depth in
        false≢true (sym composite ∙ ap (λ (x : Instance). is_primitive x.component) (sym same) ∙ (node_parts i.instance n i.is_node).primitive)

-- a requirement of a node is linked to one provision at most
pub linked_once :
    (tree : Tree) (top : Instance) → IsBoundOnce tree top → (a b c : Node) (require provide other : ℕ) → Linked tree top a require b provide → Linked tree top a require c other
    → (b ≡ c) × (provide ≡ other)
linked_once tree top s a b c require provide other l m =
    let name = same_Some l.required m.required (sym l.requires_it ∙ m.requires_it) in
    let from = one_node tree top s a a l.from m.from (sym (node_path l.from.instance a l.from.is_node) ∙ node_path m.from.instance a m.from.is_node) in
    let start : port_at m.from.instance Require m.required ≡ port_at l.from.instance Require l.required = ap (λ i. port_at i Require m.required) (sym from) ∙ ap (port_at l.from.instance Require) (sym name) in
    let y = port_at l.to.instance Provide l.provided.name in
    let z = port_at m.to.instance Provide m.provided.name in
    let ends = one_end tree top s (port_at l.from.instance Require l.required) y l.leads z (subst (λ x. BoundThrough tree top x z) start m.leads) (node_last tree top s b l.to l.provided.name) (node_last tree top s c m.to m.provided.name) in
    let to = one_node tree top s b c l.to m.to (ap (λ (x : Port). x.path) ends) in
    (same_Some b c (sym l.to.is_node ∙ ap node_of to ∙ m.to.is_node), only_provision b.kind provide l.provided l.provides_it ∙ sym (only_provision c.kind other m.provided m.provides_it))
