-- Lemmas on the changed nodes: a plan's steps name them.
use Rattle.std.proofs.Common.{◌≡◌, ◌⊎◌, ◌∙◌, ◌++◌, ℕ, List, Option, Some, None, refl, ap, sym, subst, inl, inr, Contains, slice_get, filter_map}
use Rattle.std.proofs.lemmas.List.Elements.{All-contains, Contains-append_cases, Contains-append_left, Contains-append_right}
use Rattle.std.proofs.lemmas.Option.{none-some}
use Rattle.std.specs.List.{range_with_len}
use Rattle.std.specs.Prelude.{length}
use Rattle.base.proofs.ContainsLaws.{Contains-filter_map, Contains-from_filter_map, Contains-from_map, Contains-at, at_some_place}
use Rattle.base.proofs.PlaceLaws.{one_at, slice_get-there}
use Rattle.config_graph.specs.Graph.{Graph, IsGraph, IsLinkWithin, requires_of, target_of}
use Rattle.config_graph.specs.declared.node.Link.{Link}
use Rattle.config_graph.specs.declared.node.Node.{Node}
use Rattle.config_graph.specs.declared.node.Port.{Port}
use Rattle.config_graph.specs.declared.node.Target.{Target}
use Rattle.config_graph.proofs.GraphByLaws.{linked_if_listed}
use Rattle.config_graph.proofs.NumberingLaws.{within_list}
use Rattle.config_graph.proofs.PathLaws.{one_place}
use Rattle.change_plan.specs.Differences.{IsGone, IsKeptLink, IsSameLink, IsTwin, link_port}
use Rattle.change_plan.specs.Plans.{HasStepsBetween}
use Rattle.change_plan.specs.Touched.{HasNewTarget, SameTarget}
use Rattle.change_plan.specs.declared.plan_data.Plan.{Plan}
use Rattle.change_plan.proofs.SelectsLaws.{Selects-has, Selects-only, Selects-part}
use Rattle.change_plan.proofs.StepLaws.{gone_listed, kept, linked_touched, lost_touched, unlinked}
use Rattle.change_parts.specs.Ties.{IsChanged}
use Rattle.change_parts.specs.Listed.{begin_number, changed_numbers, owner_number}
use Rattle.change_parts.specs.Members.{IsIndex}
use Rattle.change_parts.specs.declared.members.Members.{Members}
use Rattle.change_parts.proofs.MemberLemmas.{node_numbered, number_there}

-- ---- a list of four parts

module _ {A : Type 0} (ws bs cs ds : List A) (x : A) where
  pub four_cases : Contains (ws ++ bs ++ cs ++ ds) x → Contains ws x ⊎ (Contains bs x ⊎ (Contains cs x ⊎ Contains ds x))
  four_cases held =
      elim (Contains-append_cases (ws ++ bs ++ cs) ds x held) [
        | inr d ↦ inr (inr (inr d))
        | inl abc ↦ elim (Contains-append_cases (ws ++ bs) cs x abc) [
          | inr c ↦ inr (inr (inl c))
          | inl ab ↦ elim (Contains-append_cases ws bs x ab) [ inl a ↦ inl a | inr b ↦ inr (inl b) ]
        ]
      ]

  pub in_first : Contains ws x → Contains (ws ++ bs ++ cs ++ ds) x
  in_first held = Contains-append_left (ws ++ bs ++ cs) ds x (Contains-append_left (ws ++ bs) cs x (Contains-append_left ws bs x held))

  pub in_second : Contains bs x → Contains (ws ++ bs ++ cs ++ ds) x
  in_second held = Contains-append_left (ws ++ bs ++ cs) ds x (Contains-append_left (ws ++ bs) cs x (Contains-append_right ws bs x held))

  pub in_third : Contains cs x → Contains (ws ++ bs ++ cs ++ ds) x
  in_third held = Contains-append_left (ws ++ bs ++ cs) ds x (Contains-append_right (ws ++ bs) cs x held)

  pub in_fourth : Contains ds x → Contains (ws ++ bs ++ cs ++ ds) x
  in_fourth held = Contains-append_right (ws ++ bs ++ cs) ds x held

-- ---- ports whose targets differ

module _ (old new : Graph) (old_graph : IsGraph old) (new_graph : IsGraph new) (p : Plan) (plan : HasStepsBetween old new p) where
  -- the link of such a port is unlinked, or linked
  record Relinked (i : ℕ) : Type 0 where
    j : ℕ
    twin : IsTwin old new i j
    link : Link
    listed : Contains p.link link
    begins : link.from ≡ j

  new_target_listed : (i : ℕ) → HasNewTarget old new i → ((r : ℕ) × Contains p.unlink (record { node = i; require = r })) ⊎ Relinked i
  new_target_listed i t = by (target_of old.links i t.require) refl
    where
      kept_same : (u : Target) → target_of old.links i t.require ≡ Some u → (l : Link) → Contains new.links l → IsSameLink old new (record { from = i; require = t.require; to = u.node; provide = u.provide }) l
          → SameTarget old new (target_of old.links i t.require) (target_of new.links t.twin t.require)
      kept_same u e l there same =
          let node : same.from.node ≡ t.stays.node = one_at old.nodes i same.from.node t.stays.node same.from.here t.stays.here in
          let from : l.from ≡ t.twin = one_place new.nodes new_graph.paths_rise l.from t.twin t.stays.node (same.from.there ∙ ap Some node) t.stays.there in
          let f : target_of new.links t.twin t.require ≡ Some (record { node = l.to; provide = l.provide }) =
          (λ q. target_of new.links (sym from q) (same.require q)) ∙ (linked_if_listed new new_graph.in_order l.from l.require l.to l.provide).1 there in
          subst (λ (w : Option Target × Option Target). SameTarget old new w.0 w.1) (λ q. (sym e q, sym f q)) (same.to, same.provide)

      kept_linked : (u : Target) → (k : Link) → Contains old.links k → IsSameLink new old (record { from = t.twin; require = t.require; to = u.node; provide = u.provide }) k
          → target_of old.links i t.require ≡ Some (record { node = k.to; provide = k.provide })
      kept_linked u k there same =
          let node : same.from.node ≡ t.stays.node = one_at new.nodes t.twin same.from.node t.stays.node same.from.here t.stays.there in
          let from : k.from ≡ i = one_place old.nodes old_graph.paths_rise k.from i t.stays.node (same.from.there ∙ ap Some node) t.stays.here in
          (λ q. target_of old.links (sym from q) (same.require q)) ∙ (linked_if_listed old old_graph.in_order k.from k.require k.to k.provide).1 there

      by_new : target_of old.links i t.require ≡ None → (o : Option Target) → target_of new.links t.twin t.require ≡ o → ((r : ℕ) × Contains p.unlink (record { node = i; require = r })) ⊎ Relinked i
      by_new e None f = absurd (t.differs (subst (λ (w : Option Target × Option Target). SameTarget old new w.0 w.1) (λ q. (sym e q, sym f q)) tt))
      by_new e (Some u) f =
          let l : Link = record { from = t.twin; require = t.require; to = u.node; provide = u.provide } in
          let there = (linked_if_listed new new_graph.in_order t.twin t.require u.node u.provide).0 f in
          elim (kept new old new_graph old_graph l there) [
            | inr lost ↦ inr (record { j = t.twin; twin = t.stays; link = l; listed = Selects-has (λ k. ¬ IsKeptLink new old k) new.links p.link plan.link l there lost; begins = refl })
            | inl w ↦ absurd (none-some _ (sym e ∙ kept_linked u w.0 w.1 w.2))
          ]

      by : (o : Option Target) → target_of old.links i t.require ≡ o → ((r : ℕ) × Contains p.unlink (record { node = i; require = r })) ⊎ Relinked i
      by None e = by_new e (target_of new.links t.twin t.require) refl
      by (Some u) e =
          let k : Link = record { from = i; require = t.require; to = u.node; provide = u.provide } in
          let there = (linked_if_listed old old_graph.in_order i t.require u.node u.provide).0 e in
          elim (kept old new old_graph new_graph k there) [
            | inr lost ↦ inl (t.require, unlinked old new old_graph new_graph p plan k there lost)
            | inl w ↦ absurd (t.differs (kept_same u e w.0 w.1 w.2))
          ]

  module _ (m : Members) (index : IsIndex old new m) where
    abbrev removed_numbers : List ℕ
    removed_numbers = filter_map (slice_get m.of_old.items) p.remove

    abbrev unlinked_numbers : List ℕ
    unlinked_numbers = filter_map (owner_number m.of_old.items) p.unlink

    abbrev created_numbers : List ℕ
    created_numbers = filter_map (slice_get m.of_new.items) p.create

    abbrev linked_numbers : List ℕ
    linked_numbers = filter_map (begin_number m.of_new.items) p.link

    old_number : (i k : ℕ) (n : Node) → slice_get old.nodes i ≡ Some n → slice_get m.nodes.items k ≡ Some n → slice_get m.of_old.items i ≡ Some k
    old_number = number_there old.nodes m.nodes.items index.members.once m.of_old.items index.of_old

    new_number : (i k : ℕ) (n : Node) → slice_get new.nodes i ≡ Some n → slice_get m.nodes.items k ≡ Some n → slice_get m.of_new.items i ≡ Some k
    new_number = number_there new.nodes m.nodes.items index.members.once m.of_new.items index.of_new

    old_node : (i k : ℕ) (n : Node) → slice_get old.nodes i ≡ Some n → slice_get m.of_old.items i ≡ Some k → slice_get m.nodes.items k ≡ Some n
    old_node = node_numbered old.nodes m.nodes.items index.members.once m.of_old.items index.of_old

    new_node : (i k : ℕ) (n : Node) → slice_get new.nodes i ≡ Some n → slice_get m.of_new.items i ≡ Some k → slice_get m.nodes.items k ≡ Some n
    new_node = node_numbered new.nodes m.nodes.items index.members.once m.of_new.items index.of_new

    has : {X : Type 0} (f : X → Option ℕ) (xs : List X) (x : X) (k : ℕ) → Contains xs x → f x ≡ Some k → Contains (filter_map f xs) k
    has f xs x k held is = let q = at_some_place xs x held in Contains-filter_map f xs q.0 x k q.1 is

    pub changed_listed : (k : ℕ) (n : Node) → slice_get m.nodes.items k ≡ Some n → IsChanged old new n → Contains (changed_numbers p m) k
    changed_listed k n at (inr made) =
        let w = gone_listed new old p.create plan.create n made.there made.gone in
        in_third removed_numbers unlinked_numbers created_numbers linked_numbers k (has (slice_get m.of_new.items) p.create w.0 k w.1 (new_number w.0 k n w.2 at))
    changed_listed k n at (inl (i, i_at, inl gone)) =
        let same : gone.node ≡ n = one_at old.nodes i gone.node n gone.here i_at in
        let w = gone_listed old new p.remove plan.remove n (Contains-at old.nodes i n i_at) (subst (λ x. ¬ Contains new.nodes x) same gone.gone) in
        in_first removed_numbers unlinked_numbers created_numbers linked_numbers k (has (slice_get m.of_old.items) p.remove w.0 k w.1 (old_number w.0 k n w.2 at))
    changed_listed k n at (inl (i, i_at, inr t)) =
        elim (new_target_listed i t) [
          | inl w ↦ in_second removed_numbers unlinked_numbers created_numbers linked_numbers k
              (has (owner_number m.of_old.items) p.unlink (record { node = i; require = w.0 }) k w.1 (old_number i k n i_at at))
          | inr w ↦
              let same : w.twin.node ≡ n = one_at old.nodes i w.twin.node n w.twin.here i_at in
              let there : slice_get new.nodes w.link.from ≡ Some n = ap (slice_get new.nodes) w.begins ∙ w.twin.there ∙ ap Some same in
              in_fourth removed_numbers unlinked_numbers created_numbers linked_numbers k (has (begin_number m.of_new.items) p.link w.link k w.listed (new_number w.link.from k n there at))
        ]

    -- a number that is listed is that of a changed node
    abbrev ChangedAt : ℕ → Type 0
    ChangedAt k = (n : Node) × (slice_get m.nodes.items k ≡ Some n) × IsChanged old new n

    pub listed_changed : (k : ℕ) → Contains (changed_numbers p m) k → ChangedAt k
    listed_changed k held =
        elim (four_cases removed_numbers unlinked_numbers created_numbers linked_numbers k held) [
          | inl one ↦ removed k one
          | inr (inl two) ↦ unlinked_ k two
          | inr (inr (inl three)) ↦ created k three
          | inr (inr (inr four)) ↦ linked k four
        ]
      where
        removed : (k : ℕ) → Contains removed_numbers k → ChangedAt k
        removed k held =
            let w = Contains-from_filter_map (slice_get m.of_old.items) p.remove k held in
            let gone = All-contains (IsGone old new) p.remove w.0 (Selects-only (IsGone old new) (range_with_len 0 (length old.nodes)) p.remove plan.remove) w.1 in
            (gone.node, old_node w.0 k gone.node gone.here w.2, inl (w.0, gone.here, inl gone))

        created : (k : ℕ) → Contains created_numbers k → ChangedAt k
        created k held =
            let w = Contains-from_filter_map (slice_get m.of_new.items) p.create k held in
            let gone = All-contains (IsGone new old) p.create w.0 (Selects-only (IsGone new old) (range_with_len 0 (length new.nodes)) p.create plan.create) w.1 in
            (gone.node, new_node w.0 k gone.node gone.here w.2, inr (record { there = Contains-at new.nodes w.0 gone.node gone.here; gone = gone.gone }))

        unlinked_ : (k : ℕ) → Contains unlinked_numbers k → ChangedAt k
        unlinked_ k held =
            let w = Contains-from_filter_map (owner_number m.of_old.items) p.unlink k held in
            let v = Contains-from_map link_port plan.unlink.0 w.0 (subst (λ ports. Contains ports w.0) plan.unlink.2 w.1) in
            let l = v.0 in
            let there = Selects-part (λ x. ¬ IsKeptLink old new x) old.links plan.unlink.0 plan.unlink.1 l v.1 in
            let lost = All-contains (λ x. ¬ IsKeptLink old new x) plan.unlink.0 l (Selects-only (λ x. ¬ IsKeptLink old new x) old.links plan.unlink.0 plan.unlink.1) v.1 in
            let n = slice_get-there old.nodes l.from (within_list requires_of old.nodes l.from l.require (All-contains (IsLinkWithin old.nodes) old.links l old_graph.within there).begins) in
            let number : slice_get m.of_old.items l.from ≡ Some k = ap (λ (q : Port). slice_get m.of_old.items q.node) (sym v.2) ∙ w.2 in
            (n.0, old_node l.from k n.0 n.1 number, inl (l.from, n.1, lost_touched old new old_graph new_graph p plan l there lost))

        linked : (k : ℕ) → Contains linked_numbers k → ChangedAt k
        linked k held =
            let w = Contains-from_filter_map (begin_number m.of_new.items) p.link k held in
            elim (linked_touched old new old_graph new_graph p plan w.0 w.1) [
              | inl made ↦ created k (has (slice_get m.of_new.items) p.create w.0.from k made w.2)
              | inr v ↦ (v.1.node, new_node w.0.from k v.1.node v.1.there w.2, inl (v.0, v.1.here, v.2))
            ]
