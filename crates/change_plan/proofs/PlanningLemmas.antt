-- Lemmas on how many nodes and ports are to be created.
use Rattle.std.proofs.Common.{◌≡◌, ℕ, zero, suc, ◌+◌, ◌<◌, ◌≤◌, ◌^◌, List, [], ◌∷◌, length, map, take, get_or, refl, sym, ◌∙◌, ap, subst, inl, inr, arith, All, Contains, ◌↔◌, add-one, sum_by}
use Rattle.std.specs.List.{range_with_len}
use Rattle.std.specs.Option.{option_map_or}
use Rattle.std.proofs.lemmas.List.{take_all}
use Rattle.std.proofs.lemmas.List.Elements.{All-contains, All-cons, All-head, All-map, All-nil, All-same, All-tail, All-weaker}
use Rattle.std.proofs.lemmas.List.FromFn.{get_or-range_with_len, length-range_with_len}
use Rattle.std.proofs.lemmas.List.Sums.{sum_by-append, sum_by-cons, sum_by_more}
use Rattle.std.proofs.lemmas.Option.{slice_get_cases, slice_get_within}
use Rattle.config_graph.specs.Graph.{Graph, IsGraph, IsLinkWithin, requires_at, requires_of}
use Rattle.config_graph.specs.Enlarged.{Enlarged}
use Rattle.config_graph.specs.declared.node.Link.{Link}
use Rattle.config_graph.specs.declared.node.Node.{Node}
use Rattle.config_graph.proofs.NumberingLaws.{length-ports}
use Rattle.change_plan.specs.Differences.{GoneLinks, GoneNodes, GonePorts, IsGone, IsKeptLink, link_port}
use Rattle.change_plan.specs.Selects.{Selects}
use Rattle.config_graph.specs.declared.node.Port.{Port}
use Rattle.change_plan.specs.Selects.Selects.{ends, takes, skips}
use Rattle.change_plan.specs.Touched.{Frozen, IsTouched}
use Rattle.change_plan.proofs.SelectsLaws.{Selects-has, Selects-only, sum_by-Selects, Selects-shorter}
use Rattle.base.proofs.RisingLaws.{places_more}
use Rattle.base.proofs.RangeLaws.{Contains-places}

-- what each element has, each of a part has; and a part is no longer than the whole
All-Selects : {A : Type 0} (P Q : A → Type 0) (xs ys : List A) → Selects P xs ys → All Q xs → All Q ys
All-Selects P Q all part ends h = All-nil Q
All-Selects P Q all part (takes {x = x} {xs = xs} {ys = ys} has s) h =
    All-cons Q x ys (All-head Q x xs h) (All-Selects P Q xs ys s (All-tail Q x xs h))
All-Selects P Q all part (skips {x = x} {xs = xs} {ys = ys} lacks s) h = All-Selects P Q xs ys s (All-tail Q x xs h)

-- the ports of the first nodes
pub first_ports : (nodes : List Node) (n : ℕ) → n ≤ length nodes → sum_by (requires_at nodes) (range_with_len 0 n) ≡ sum_by requires_of (take n nodes)
first_ports nodes zero low = refl
first_ports nodes (suc n) low =
    elim (slice_get_cases nodes n).1 [
      | inl (m, inside, at, read) ↦
          let f = requires_at nodes in
          let rest : sum_by f (range_with_len 0 n) ≡ sum_by requires_of (take n nodes) = first_ports nodes n (omega arith) in
          let more : sum_by f (range_with_len 0 (n + 1)) ≡ sum_by f (range_with_len 0 n) + (f n + 0) = ap (sum_by f) (places_more n) ∙ sum_by-append f (range_with_len 0 n) (n ∷ []) ∙ ap (λ t. sum_by f (range_with_len 0 n) + t) (sum_by-cons f n []) in
          let here : f n ≡ requires_of (get_or nodes n m) = ap (λ o. option_map_or requires_of o 0) at ∙ ap requires_of (sym read) in
          let taken = sum_by_more requires_of nodes n m inside in
          let next : sum_by f (range_with_len 0 (n + 1)) ≡ sum_by requires_of (take (n + 1) nodes) = omega (arith, rest, more, here, taken) in
          subst (λ k. sum_by (requires_at nodes) (range_with_len 0 k) ≡ sum_by requires_of (take k nodes)) (add-one n) next
      | inr (past, none) ↦ absurd (omega arith)
    ]

places_within : (P : ℕ → Type 0) (n : ℕ) (ys : List ℕ) → Selects P (range_with_len 0 n) ys → All (λ i. i < n) ys
places_within P n ys selected = All-Selects P (λ i. i < n) (range_with_len 0 n) ys selected (λ k d low.
    let inside : k < n = rw length-range_with_len at low in
    rw (get_or-range_with_len 0 n k d inside) (omega arith))

module _ (g h : Graph) (graph : IsGraph g) (gone : List ℕ) (selected : GoneNodes g h gone) where
  pub gone_within : All (λ i. i < length g.nodes) gone
  gone_within = places_within (IsGone g h) (length g.nodes) gone selected

  pub gone_few : length gone < 2 ^ 32
  gone_few =
      let part = Selects-shorter (IsGone g h) (range_with_len 0 (length g.nodes)) gone selected in
      omega (arith, part, length-range_with_len 0 (length g.nodes), graph.few_nodes)

  pub gone_ports_few : sum_by (requires_at g.nodes) gone < 2 ^ 32
  gone_ports_few =
      let part = sum_by-Selects (IsGone g h) (requires_at g.nodes) (range_with_len 0 (length g.nodes)) gone selected in
      let all = first_ports g.nodes (length g.nodes) (omega arith) in
      let whole = ap (sum_by requires_of) (take_all (length g.nodes) g.nodes (omega arith)) in
      omega (arith, part, all, whole, length-ports g.nodes, graph.few_ports)

-- the links that are gone, and their ports, are in the graph
module _ (g h : Graph) (graph : IsGraph g) where
  pub gone_links_within : (links : List Link) → GoneLinks g h links → All (IsLinkWithin g.nodes) links
  gone_links_within links selected_ = All-Selects (λ k. ¬ IsKeptLink g h k) (IsLinkWithin g.nodes) g.links links selected_ graph.within

  pub gone_ports_within : (ports_ : List Port) → GonePorts g h ports_ → All (λ q. q.require < requires_at g.nodes q.node) ports_
  gone_ports_within ports_ (links, selected_, are) =
      All-same (λ q. q.require < requires_at g.nodes q.node) ports_ (map link_port links) are (All-map (λ (q : Port). q.require < requires_at g.nodes q.node) link_port links (All-weaker (IsLinkWithin g.nodes) (λ (l : Link). l.require < requires_at g.nodes l.from) (λ l inside. inside.begins) links (gone_links_within links selected_)))

-- the nodes that are touched, as a list of all of them
module _ (old new : Graph) (touched : List ℕ) (selected : Selects (IsTouched old new) (range_with_len 0 (length old.nodes)) touched) where
  pub touched_within : All (λ i. i < length old.nodes) touched
  touched_within = places_within (IsTouched old new) (length old.nodes) touched selected

  low : (i : ℕ) → IsTouched old new i → i < length old.nodes
  low i (inl gone) = slice_get_within old.nodes i gone.node gone.here
  low i (inr differs) = slice_get_within old.nodes i differs.stays.node differs.stays.here

  listed : (i : ℕ) → IsTouched old new i → Contains touched i
  listed i is = Selects-has (IsTouched old new) (range_with_len 0 (length old.nodes)) touched selected i (Contains-places (length old.nodes) i (low i is)) is

  touches : (i : ℕ) → Contains touched i → IsTouched old new i
  touches i there = All-contains (IsTouched old new) touched i (Selects-only (IsTouched old new) (range_with_len 0 (length old.nodes)) touched selected) there

  pub enlarged_touched : (i : ℕ) → Enlarged old (Contains touched) i ↔ Frozen old new i
  enlarged_touched i = (Enlarged-more (Contains touched) (IsTouched old new) touches i, Enlarged-more (IsTouched old new) (Contains touched) listed i)
    where
      Enlarged-more : (P Q : ℕ → Type 0) → ((n : ℕ) → P n → Q n) → (i : ℕ) → Enlarged old P i → Enlarged old Q i
      Enlarged-more P Q more i (inl own) = inl (more i own)
      Enlarged-more P Q more i (inr (n, require, own, reach)) = inr (n, require, more n own, reach)
