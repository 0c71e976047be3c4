-- Where no path is made twice and no source is bound twice there is a graph: its nodes are sorted by insertion, and the
-- target of each requirement is searched for among them.
use Rattle.std.proofs.Common.{◌≡◌, ◌∙◌, ◌⊎◌, ◌↔◌, inl, inr, ℕ, ℤ, zero, suc, ◌<◌, List, [], ◌∷◌, ◌++◌, length, get_or, Option, Some, None, refl, sym, ap, subst, arith, add-one}
use Rattle.std.specs.List.{Contains, flat_map, filter_map, range_with_len, slice_get}
use Rattle.std.specs.Ordering.{nat_cmp, int_eq, ordering_reverse}
use Rattle.std.specs.Cmp.Lexicographic.{slice_cmp, nat_list_cmp_total}
use Rattle.std.specs.declared.cmp.Ordering.{Ordering}
use Rattle.std.specs.declared.cmp.Ordering.TheVariants.{Less, Equal, Greater}
use Rattle.std.proofs.lemmas.Bool.{cases_Bool, false≢true}
use Rattle.std.proofs.lemmas.Bool.Decides.{Decides-int_eq, eqb_tells}
use Rattle.std.proofs.lemmas.Slice.Eq.{bytes_eq-Decides}
use Rattle.std.proofs.lemmas.Option.{none-some, same_Some, slice_get_within}
use Rattle.std.proofs.lemmas.List.Elements.{Contains-get_or}
use Rattle.std.proofs.lemmas.List.FromFn.{length-range_with_len, get_or-range_with_len}
use Rattle.std.proofs.lemmas.List.Kept.{AllPairs-cons}
use Rattle.config_graph.specs.declared.node.Node.{Node}
use Rattle.config_graph.specs.declared.node.Link.{Link}
use Rattle.config_graph.specs.declared.node.Target.{Target}
use Rattle.config_graph.specs.Kinds.{row, Provision}
use Rattle.config_graph.specs.Graph.{Graph, PathsRise, graph_of, requires_at}
use Rattle.config_graph.proofs.IncomingLaws.{Contains-in_order}
use Rattle.config_graph.proofs.OrderLaws.{in_port_order-twice}
use Rattle.darwin_parser.specs.declared.tree.Side.{Side}
use Rattle.darwin_parser.specs.declared.tree.Side.TheVariants.{Provide, Require}
use Rattle.darwin_parser.specs.Tree.{Name, Tree}
use Rattle.elaborator.specs.Instances.{Instance, instances}
use Rattle.elaborator.specs.Bindings.{Port, Pair, pairs_in, Bound, bound, BoundThrough, at_once, through}
use Rattle.elaborator.specs.Graph.{node_of, IsNode, port_at, Linked, IsLink, IsElab}
use Rattle.elaborator.specs.Links.{link_to, IsTargeted, AreFirstLinks, AreLinks}
use Rattle.elaborator.proofs.RankLemmas.{rank, rank_falls}
use Rattle.elaborator.proofs.NodeLemmas.{node_path}
use Rattle.elaborator.proofs.LinkLemmas.{both_sides}
use Rattle.elaborator.proofs.InstanceLaws.{instances-listed}
use Rattle.elaborator.proofs.SingleLemmas.{IsBoundOnce, one_node, linked_once}
use Rattle.base.proofs.OrderedLaws.{before_all, rest_rises}
use Rattle.elaborator.proofs.UniqueLaws.{elab_by_list}
use Rattle.elaborator.proofs.AllLinksLemmas.{first_links-skip, first_links-push, first_links-node, links-all}
use Rattle.base.proofs.BytesLaws.{equal_bytes}
use Rattle.base.proofs.ContainsLaws.{Contains-at, Contains-cons_cases, Contains-filter_map, Contains-flat_map, Contains-from_filter_map, Contains-from_flat_map, Contains-here, Contains-nil, Contains-there, at_some_place}
use Rattle.base.proofs.TellLaws.{any_or_none, told_by}
use Rattle.base.specs.Telling.{CanTell}
use Rattle.config_graph.proofs.PathLaws.{one_place}
use Rattle.config_graph.proofs.KindLaws.{only_provision}

-- ---- what can be told

pub one_bytes : (x y : List ℕ) → CanTell (x ≡ y)
one_bytes x y = told_by _ (bytes_eq-Decides x y)

pub one_number : (m n : ℕ) → CanTell (m ≡ n)
one_number m n = elim (eqb_tells m n) [ inl is ↦ inl is.1 | inr differ ↦ inr differ.1 ]

one_side : (s t : Side) → (s ≡ t) ⊎ (s ≡ t → ⊥)
one_side Provide Provide = inl refl
one_side Require Require = inl refl
one_side Provide Require = inr (λ one. both_sides (sym one))
one_side Require Provide = inr both_sides

one_index : (x y : Option ℤ) → (x ≡ y) ⊎ (x ≡ y → ⊥)
one_index None None = inl refl
one_index None (Some y) = inr (λ one. none-some y one)
one_index (Some x) None = inr (λ one. none-some x (sym one))
one_index (Some x) (Some y) =
    elim (cases_Bool (int_eq x y)) [
      | inl is ↦ inl (ap Some ((Decides-int_eq x y).0 is))
      | inr differ ↦ inr (λ one. false≢true (sym differ ∙ (Decides-int_eq x y).1 (same_Some x y one)))
    ]

pub one_port : (x y : Port) → (x ≡ y) ⊎ (x ≡ y → ⊥)
one_port x y = by (one_bytes x.path y.path) (one_number x.depth y.depth) (one_side x.side y.side) (one_bytes x.name y.name) (one_index x.index y.index)
  where
    by :
        (x.path ≡ y.path) ⊎ (x.path ≡ y.path → ⊥) → (x.depth ≡ y.depth) ⊎ (x.depth ≡ y.depth → ⊥) → (x.side ≡ y.side) ⊎ (x.side ≡ y.side → ⊥)
        → (x.name ≡ y.name) ⊎ (x.name ≡ y.name → ⊥) → (x.index ≡ y.index) ⊎ (x.index ≡ y.index → ⊥) → (x ≡ y) ⊎ (x ≡ y → ⊥)
    by (inl p) (inl d) (inl s) (inl n) (inl i) = inl (λ k. record { path = p k; depth = d k; side = s k; name = n k; index = i k })
    by (inr differ) d s n i = inr (λ one. differ (ap (λ (z : Port). z.path) one))
    by (inl p) (inr differ) s n i = inr (λ one. differ (ap (λ (z : Port). z.depth) one))
    by (inl p) (inl d) (inr differ) n i = inr (λ one. differ (ap (λ (z : Port). z.side) one))
    by (inl p) (inl d) (inl s) (inr differ) i = inr (λ one. differ (ap (λ (z : Port). z.name) one))
    by (inl p) (inl d) (inl s) (inl n) (inr differ) = inr (λ one. differ (ap (λ (z : Port). z.index) one))

-- ---- lists of nodes in order

abbrev Before : Node → Node → Type 0
Before m n = slice_cmp nat_cmp m.path n.path ≡ Less

-- a list in order with one node more
record Inserted (x : Node) (ys : List Node) : Type 0 where
  pub list : List Node
  pub rise : PathsRise list
  pub holds : (n : Node) → Contains list n → (n ≡ x) ⊎ Contains ys n
  pub has : Contains list x
  pub keeps : (n : Node) → Contains ys n → Contains list n

inserted : (x : Node) (ys : List Node) → PathsRise ys → ((y : Node) → Contains ys y → x.path ≡ y.path → x ≡ y) → Inserted x ys
inserted x [] rise one = record {
  list = x ∷ [];
  rise = λ i j d lt within. absurd (omega (arith, lt, within));
  holds = λ n there. Contains-cons_cases x [] n there;
  has = Contains-here x [];
  keeps = λ n there. absurd (Contains-nil n there);
}
inserted x (y ∷ ys) rise one = by (slice_cmp nat_cmp x.path y.path) refl (inserted x ys (rest_rises Before y ys rise) (λ z there. one z (Contains-there y z ys there)))
  where
    after_x : slice_cmp nat_cmp x.path y.path ≡ Less → (z : Node) → Contains (y ∷ ys) z → Before x z
    after_x is z there =
        elim (Contains-cons_cases y ys z there) [
          | inl same ↦ subst (Before x) (sym same) is
          | inr later ↦ nat_list_cmp_total.trans x.path y.path z.path is (before_all Before y ys rise z later)
        ]

    after_y : slice_cmp nat_cmp x.path y.path ≡ Greater → (rest : Inserted x ys) → (z : Node) → Contains rest.list z → Before y z
    after_y is rest z there =
        elim (rest.holds z there) [
          | inl same ↦ subst (Before y) (sym same) (nat_list_cmp_total.antisymm y.path x.path ∙ ap ordering_reverse is)
          | inr later ↦ before_all Before y ys rise z later
        ]

    by : (o : Ordering) → slice_cmp nat_cmp x.path y.path ≡ o → Inserted x ys → Inserted x (y ∷ ys)
    by Less is rest = record {
      list = x ∷ y ∷ ys;
      rise = AllPairs-cons Before x (y ∷ ys) (λ k d low. after_x is (get_or (y ∷ ys) k d) (Contains-get_or (y ∷ ys) k d low)) rise;
      holds = λ n there. Contains-cons_cases x (y ∷ ys) n there;
      has = Contains-here x (y ∷ ys);
      keeps = λ n there. Contains-there x n (y ∷ ys) there;
    }
    by Equal is rest = record {
      list = y ∷ ys;
      rise = rise;
      holds = λ n there. inr there;
      has = subst (Contains (y ∷ ys)) (sym (one y (Contains-here y ys) (equal_bytes x.path y.path is))) (Contains-here y ys);
      keeps = λ n there. there;
    }
    by Greater is rest = record {
      list = y ∷ rest.list;
      rise = AllPairs-cons Before y rest.list (λ k d low. after_y is rest (get_or rest.list k d) (Contains-get_or rest.list k d low)) rest.rise;
      holds = λ n there.
          elim (Contains-cons_cases y rest.list n there) [
            | inl same ↦ inr (subst (Contains (y ∷ ys)) (sym same) (Contains-here y ys))
            | inr later ↦ elim (rest.holds n later) [ inl first ↦ inl first | inr old ↦ inr (Contains-there y n ys old) ]
          ];
      has = Contains-there y x rest.list rest.has;
      keeps = λ n there.
          elim (Contains-cons_cases y ys n there) [
            | inl same ↦ subst (Contains (y ∷ rest.list)) (sym same) (Contains-here y rest.list)
            | inr later ↦ Contains-there y n rest.list (rest.keeps n later)
          ];
    }

-- the nodes of a list, in order
record Ordered (xs : List Node) : Type 0 where
  pub list : List Node
  pub rise : PathsRise list
  pub holds : (n : Node) → Contains list n → Contains xs n
  pub keeps : (n : Node) → Contains xs n → Contains list n

ordered : (xs : List Node) → ((m n : Node) → Contains xs m → Contains xs n → m.path ≡ n.path → m ≡ n) → Ordered xs
ordered [] one = record { list = []; rise = λ i j d lt within. absurd (omega (arith, within)); holds = λ n there. there; keeps = λ n there. there }
ordered (x ∷ xs) one =
    let rest = ordered xs (λ m n there there' same. one m n (Contains-there x m xs there) (Contains-there x n xs there') same) in
    let more = inserted x rest.list rest.rise (λ y there same. one x y (Contains-here x xs) (Contains-there x y xs (rest.holds y there)) same) in
    record {
      list = more.list;
      rise = more.rise;
      holds = λ n there.
          elim (more.holds n there) [
            | inl same ↦ subst (Contains (x ∷ xs)) (sym same) (Contains-here x xs)
            | inr old ↦ Contains-there x n xs (rest.holds n old)
          ];
      keeps = λ n there.
          elim (Contains-cons_cases x xs n there) [
            | inl same ↦ subst (Contains more.list) (sym same) more.has
            | inr later ↦ more.keeps n (rest.keeps n later)
          ];
    }

-- ---- where bindings lead

module _ (tree : Tree) (top : Instance) (shallow : top.depth ≡ 0) where
  abbrev all_pairs : List Pair
  all_pairs = flat_map (pairs_in tree) (instances tree top)

  is_bound : (p : Pair) → Contains all_pairs p → Bound tree top p.source p.target
  is_bound p there =
      let from = Contains-from_flat_map (pairs_in tree) (instances tree top) p there in
      bound from.0 p ((instances-listed tree top from.0 shallow).1 from.1) from.2

  bound_there : (x y : Port) → Bound tree top x y → (p : Pair) × Contains all_pairs p × (p.source ≡ x) × (p.target ≡ y)
  bound_there _ _ (bound i p inst there) =
      (p, Contains-flat_map (pairs_in tree) (instances tree top) i p ((instances-listed tree top i shallow).0 inst) there, refl, refl)

  pair_falls : (p : Pair) → Contains all_pairs p → rank p.target < rank p.source
  pair_falls p there =
      let from = Contains-from_flat_map (pairs_in tree) (instances tree top) p there in
      rank_falls tree from.0 p from.2

  -- the pair is the first of a list that leads from the one port to the other
  abbrev Begins : Port → Port → Pair → Type 0
  Begins x y p = (p.source ≡ x) × ((p.target ≡ y) ⊎ BoundThrough tree top p.target y)

  begun : (x y : Port) (p : Pair) → Contains all_pairs p → Begins x y p → BoundThrough tree top x y
  begun x y p there (same, inl at) = at_once x y (subst (λ z. Bound tree top z y) same (subst (Bound tree top p.source) at (is_bound p there)))
  begun x y p there (same, inr rest) = through x p.target y (subst (λ z. Bound tree top z p.target) same (is_bound p there)) rest

  beginning : (x y : Port) → BoundThrough tree top x y → (p : Pair) × Contains all_pairs p × Begins x y p
  beginning _ _ (at_once x y b) = let w = bound_there x y b in (w.0, w.1, (w.2, inl w.3))
  beginning _ _ (through x y z b rest) = let w = bound_there x y b in (w.0, w.1, (w.2, inr (subst (λ v. BoundThrough tree top v z) (sym w.3) rest)))

  leads_or_not : (n : ℕ) (x y : Port) → rank x < n → BoundThrough tree top x y ⊎ (BoundThrough tree top x y → ⊥)
  leads_or_not zero x y low = absurd (omega (arith, low))
  leads_or_not (suc n) x y low =
      elim (any_or_none (Begins x y) all_pairs (λ p there. test p there (one_port p.source x) (λ less. leads_or_not n p.target y less))) [
        | inl w ↦ inl (begun x y w.0 w.1 w.2)
        | inr none ↦ inr (λ leads. let w = beginning x y leads in none w.0 w.1 w.2)
      ]
    where
      test :
          (p : Pair) → Contains all_pairs p → (p.source ≡ x) ⊎ (p.source ≡ x → ⊥)
          → (rank p.target < n → BoundThrough tree top p.target y ⊎ (BoundThrough tree top p.target y → ⊥)) → Begins x y p ⊎ (Begins x y p → ⊥)
      test p there (inr differ) rest = inr (λ begins. differ begins.0)
      test p there (inl same) rest = by (one_port p.target y) (rest (omega (arith, low, pair_falls p there, ap rank same)))
        where
          by : (p.target ≡ y) ⊎ (p.target ≡ y → ⊥) → BoundThrough tree top p.target y ⊎ (BoundThrough tree top p.target y → ⊥) → Begins x y p ⊎ (Begins x y p → ⊥)
          by (inl at) leads = inl (same, inl at)
          by (inr past) (inl leads) = inl (same, inr leads)
          by (inr past) (inr refuted) = inr (λ begins. elim begins.1 [ inl at ↦ past at | inr leads ↦ refuted leads ])

-- ---- the graph

module _ (tree : Tree) (top : Instance) (once : IsBoundOnce tree top) where
  linked_or_not : (a b : Node) → IsNode tree top a → IsNode tree top b → (require provide : ℕ) → Linked tree top a require b provide ⊎ (Linked tree top a require b provide → ⊥)
  linked_or_not a b from to require provide = by (slice_get (row a.kind).requires_ require) refl (slice_get (row b.kind).provides provide) refl
    where
      by :
          (r : Option Name) → slice_get (row a.kind).requires_ require ≡ r → (p : Option Provision) → slice_get (row b.kind).provides provide ≡ p
          → Linked tree top a require b provide ⊎ (Linked tree top a require b provide → ⊥)
      by None none p is = inr (λ l. none-some l.required (sym none ∙ l.requires_it))
      by (Some r) is None none = inr (λ l. none-some l.provided (sym none ∙ l.provides_it))
      by (Some r) is (Some p) is' = at (leads_or_not tree top once.depth (suc (rank x)) x y (omega arith))
        where
          x : Port
          x = port_at from.instance Require r

          y : Port
          y = port_at to.instance Provide p.name

          at : BoundThrough tree top x y ⊎ (BoundThrough tree top x y → ⊥) → Linked tree top a require b provide ⊎ (Linked tree top a require b provide → ⊥)
          at (inl leads) = inl (record { from = from; to = to; required = r; provided = p; requires_it = is; provides_it = is'; leads = leads })
          at (inr refuted) = inr (λ l.
              let i = one_node tree top once a a l.from from (sym (node_path l.from.instance a l.from.is_node) ∙ node_path from.instance a from.is_node) in
              let j = one_node tree top once b b l.to to (sym (node_path l.to.instance b l.to.is_node) ∙ node_path to.instance b to.is_node) in
              let name = same_Some l.required r (sym l.requires_it ∙ is) in
              let provision = same_Some l.provided p (sym l.provides_it ∙ is') in
              refuted (subst (λ z. BoundThrough tree top x z) (λ k. port_at (j k) Provide (provision k).name) (subst (λ z. BoundThrough tree top z (port_at l.to.instance Provide l.provided.name)) (λ k. port_at (i k) Require (name k)) l.leads)))

  -- the nodes, before they are in order
  abbrev all_nodes : List Node
  all_nodes = filter_map node_of (instances tree top)

  node_there : (n : Node) → IsNode tree top n → Contains all_nodes n
  node_there n is =
      let place = at_some_place (instances tree top) is.instance ((instances-listed tree top is.instance once.depth).0 is.is_instance) in
      Contains-filter_map node_of (instances tree top) place.0 is.instance n place.1 is.is_node

  there_node : (n : Node) → Contains all_nodes n → IsNode tree top n
  there_node n there =
      let w = Contains-from_filter_map node_of (instances tree top) n there in
      record { instance = w.0; is_instance = (instances-listed tree top w.0 once.depth).1 w.1; is_node = w.2 }

  nodes : Ordered all_nodes
  nodes = ordered all_nodes (λ m n there there' same.
      let i = there_node m there in
      let j = there_node n there' in
      let one = one_node tree top once m n i j (sym (node_path i.instance m i.is_node) ∙ same ∙ node_path j.instance n j.is_node) in
      same_Some m n (sym i.is_node ∙ ap node_of one ∙ j.is_node))

  nodes_are : (n : Node) → Contains nodes.list n ↔ IsNode tree top n
  nodes_are n = (λ there. there_node n (nodes.holds n there), λ is. nodes.keeps n (node_there n is))

  abbrev at_node : ℕ → Target
  at_node k = record { node = k; provide = 0 }

  link_or_not : (from require k : ℕ) → IsLink tree top nodes.list (link_to from require (at_node k)) ⊎ (IsLink tree top nodes.list (link_to from require (at_node k)) → ⊥)
  link_or_not from require k = by (slice_get nodes.list from) refl (slice_get nodes.list k) refl
    where
      by :
          (a : Option Node) → slice_get nodes.list from ≡ a → (b : Option Node) → slice_get nodes.list k ≡ b
          → IsLink tree top nodes.list (link_to from require (at_node k)) ⊎ (IsLink tree top nodes.list (link_to from require (at_node k)) → ⊥)
      by None none b is = inr (λ l. none-some l.from (sym none ∙ l.from_there))
      by (Some a) is None none = inr (λ l. none-some l.to (sym none ∙ l.to_there))
      by (Some a) is (Some b) is' =
          elim (linked_or_not a b ((nodes_are a).0 (Contains-at nodes.list from a is)) ((nodes_are b).0 (Contains-at nodes.list k b is')) require 0) [
            | inl linked ↦ inl (record { from = a; to = b; from_there = is; to_there = is'; linked = linked })
            | inr refuted ↦ inr (λ l.
                let one = same_Some l.from a (sym l.from_there ∙ is) in
                let other = same_Some l.to b (sym l.to_there ∙ is') in
                refuted (subst (λ n. Linked tree top a require n 0) other (subst (λ m. Linked tree top m require l.to 0) one l.linked)))
          ]

  places : List ℕ
  places = range_with_len 0 (length nodes.list)

  place_there : (k : ℕ) → k < length nodes.list → Contains places k
  unfolding places
  place_there k low = (k, rw length-range_with_len low, get_or-range_with_len 0 (length nodes.list) k k low ∙ omega arith)

  -- a kind has one provision at most
  first_provision : (from require : ℕ) (t : Target) → IsLink tree top nodes.list (link_to from require t) → t ≡ at_node t.node
  first_provision from require t is =
      let number = only_provision is.to.kind t.provide is.linked.provided is.linked.provides_it in
      λ k. record { node = t.node; provide = number k }

  one_target : (from require : ℕ) (t u : Target) → IsLink tree top nodes.list (link_to from require t) → IsLink tree top nodes.list (link_to from require u) → u ≡ t
  one_target from require t u is is' =
      let a = same_Some is.from is'.from (sym is.from_there ∙ is'.from_there) in
      let same = linked_once tree top once is'.from is'.to is.to require u.provide t.provide is'.linked (subst (λ n. Linked tree top n require is.to t.provide) a is.linked) in
      let place = one_place nodes.list nodes.rise u.node t.node is.to (is'.to_there ∙ ap Some same.0) is.to_there in
      λ k. record { node = place k; provide = same.1 k }

  targeted : (from require : ℕ) → (r : Option Target) × IsTargeted tree top nodes.list from require r
  targeted from require =
      elim (any_or_none (λ k. IsLink tree top nodes.list (link_to from require (at_node k))) places (λ k there. link_or_not from require k)) [
        | inl w ↦ (Some (at_node w.0), record { is_link = w.2; only = λ u is. one_target from require (at_node w.0) u w.2 is })
        | inr refuted ↦ (None, λ t is. refuted t.node (place_there t.node (slice_get_within nodes.list t.node is.to is.to_there)) (subst (λ u. IsLink tree top nodes.list (link_to from require u)) (first_provision from require t is) is))
      ]

  to_require :
      (from count : ℕ) → ((links : List Link) × AreFirstLinks tree top nodes.list from 0 links)
      → (links : List Link) × AreFirstLinks tree top nodes.list from count links
  to_require from zero first = first
  to_require from (suc count) first = next (to_require from count first) (targeted from count)
    where
      next :
          ((links : List Link) × AreFirstLinks tree top nodes.list from count links) → ((r : Option Target) × IsTargeted tree top nodes.list from count r)
          → (links : List Link) × AreFirstLinks tree top nodes.list from (suc count) links
      next so_far (None, none) =
          (so_far.0, subst (λ n. AreFirstLinks tree top nodes.list from n so_far.0) (add-one count) (first_links-skip tree top nodes.list from count so_far.0 so_far.1 none))
      next so_far (Some t, is) =
          let more = so_far.0 ++ link_to from count t ∷ [] in
          (more, subst (λ n. AreFirstLinks tree top nodes.list from n more) (add-one count) (first_links-push tree top nodes.list from count so_far.0 more t so_far.1 is refl))

  to_node : (from : ℕ) → (links : List Link) × AreFirstLinks tree top nodes.list from 0 links
  to_node zero = (
    [],
    record {
      sound = λ l there. absurd (Contains-nil l there);
      complete = λ l is before. elim before [ inl low ↦ absurd (omega (arith, low)) | inr at ↦ absurd (omega (arith, at.1)) ];
      one_a_port = λ i j d lt within. absurd (omega (arith, within));
    },
  )
  to_node (suc from) =
      let w = to_require from (requires_at nodes.list from) (to_node from) in
      (w.0, subst (λ n. AreFirstLinks tree top nodes.list n 0 w.0) (add-one from) (first_links-node tree top nodes.list from (requires_at nodes.list from) w.0 (omega arith) w.1))

  links : (links : List Link) × AreLinks tree top nodes.list links
  links = let w = to_node (length nodes.list) in (w.0, links-all tree top nodes.list (length nodes.list) w.0 (omega arith) w.1)

  pub elab_there : (g : Graph) × IsElab tree top g
  elab_there =
      let same = Contains-in_order nodes.list links.0 links.1.within links.1.one_a_port in (
        graph_of nodes.list links.0,
        elab_by_list tree top (graph_of nodes.list links.0) nodes.rise nodes_are
            (λ l. (λ there. (links.1.links_are l).0 ((same l).0 there), λ is. (same l).1 ((links.1.links_are l).1 is))) (in_port_order-twice nodes.list links.0),
      )
