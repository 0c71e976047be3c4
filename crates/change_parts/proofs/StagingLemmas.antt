-- Lemmas on a stage by numbers: it is the graph after the groups whose members are marked.
use Rattle.std.proofs.Common.{◌*◌, ◌≡◌, ◌⊎◌, ◌↔◌, ◌∙◌, ◌<◌, ◌≤◌, ◌+◌, ◌^◌, ℕ, Bool, true, false, not, List, [], ◌∷◌, ◌++◌, Some, None, length, get_or, map, refl, ap, sym, subst, inl, inr, arith, All, Contains, slice_get, filter_map, length-append}
use Rattle.std.specs.Prelude.{if◌then◌else◌}
use Rattle.std.specs.List.{sum_by}
use Rattle.std.proofs.lemmas.List.Sums.{sum_by-cons}
use Rattle.std.specs.Option.{option_map_or}
use Rattle.std.proofs.lemmas.Bool.{cases_Bool, cases_lt, false≢true}
use Rattle.std.proofs.lemmas.List.Elements.{All-contains, Contains-append_cases, Contains-append_left, Contains-append_right}
use Rattle.std.proofs.lemmas.Option.{get_or_from_slice_get, none-some, option_and_then_some, same_Some, slice_get-get_or, slice_get_within}
use Rattle.base.proofs.ContainsLaws.{Contains-at, Contains-filter_map, Contains-from_filter_map, at_some_place, All-from}
use Rattle.base.proofs.PlaceLaws.{one_at, slice_get-front, slice_get-last, slice_get-map_at, slice_get-map_some, slice_get-push_cases, slice_get-there}
use Rattle.config_graph.specs.Cycles.{IsLinked}
use Rattle.config_graph.specs.Graph.{Graph, IsGraph, IsLinkWithin, OneLinkAPort, PathsRise, begins_at, graph_of, ports, provides_of, requires_of}
use Rattle.config_graph.specs.GraphBy.{AreLinkedAt}
use Rattle.config_graph.specs.Marks.{IsMarked}
use Rattle.config_graph.specs.declared.node.Link.{Link}
use Rattle.config_graph.specs.declared.node.Node.{Node}
use Rattle.config_graph.proofs.GraphByLaws.{linked_if_listed}
use Rattle.config_graph.proofs.KindLaws.{two_requires}
use Rattle.config_graph.proofs.LinkLaws.{begins_here, begins_there}
use Rattle.config_graph.proofs.MarkLaws.{marked_within}
use Rattle.config_graph.proofs.NumberingLaws.{length-ports, within_list}
use Rattle.config_graph.proofs.OrderLaws.{IsGraph-graph_of, one_link-in_order}
use Rattle.config_graph.proofs.PathLaws.{one_place}
use Rattle.config_graph.proofs.TellLaws.{tell_contained}
use Rattle.change_plan.specs.declared.plan_data.Move.{Move}
use Rattle.change_parts.specs.Groups.{IsBefore, IsIn}
use Rattle.change_parts.specs.Stages.{AreLinkedAfter, IsAfter, IsNodeAfter}
use Rattle.change_parts.specs.Ties.{AreConnected, IsChanged, IsCreated, IsRemoved, IsTouchedNode}
use Rattle.change_parts.specs.Ties.Tied.{replaced}
use Rattle.change_parts.proofs.LinkedLaws.{from_contained, removed_touched, tell_touched, untouched_alike}
use Rattle.change_parts.proofs.StageLaws.{end_stands, ends_within}
use Rattle.change_parts.proofs.TieLaws.{in_against, in_changed}
use Rattle.change_parts.specs.Members.{AreNumbers, IsIndex}
use Rattle.change_parts.specs.Staging.{AreLaid, IsApplied, link_in, stands}
use Rattle.change_parts.specs.declared.members.Members.{Members}
use Rattle.change_parts.proofs.MemberLemmas.{before_if, replaced_alike}
use Rattle.change_parts.proofs.PairLemmas.{pairs_append, pairs_filter_map, pairs_from, pairs_held}

-- ---- nodes that are laid one after the other

module _ (st : ℕ → Bool) (all nodes : List Node) (places : List ℕ) (node : Node) (at : slice_get all (length places) ≡ Some node) (laid : AreLaid st all nodes places) where
  longer : length (places ++ length nodes ∷ []) ≡ length places + 1
  longer = length-append places (length nodes ∷ [])

  -- the last member
  is_last : (k : ℕ) (n : Node) → k ≡ length places → slice_get all k ≡ Some n → n ≡ node
  is_last k n last k_at = one_at all (length places) n node (subst (λ j. slice_get all j ≡ Some n) last k_at) at

  pub laid_more : st (length places) ≡ true → AreLaid st all (nodes ++ node ∷ []) (places ++ length nodes ∷ [])
  laid_more standing = record {
    there = λ k n below k_at is. elim (cases_lt k (length places)) [
      | inl earlier ↦ let w = laid.there k n earlier k_at is in (w.0, slice_get-front places (length nodes ∷ []) k w.0 w.1, slice_get-front nodes (node ∷ []) w.0 n w.2)
      | inr later ↦
          let last : k ≡ length places = omega (arith, later, below, longer) in
          (length nodes, subst (λ j. slice_get (places ++ length nodes ∷ []) j ≡ Some (length nodes)) (sym last) (slice_get-last places (length nodes)), slice_get-last nodes node ∙ ap Some (sym (is_last k n last k_at)))
    ];
    from = λ p n p_at. elim (slice_get-push_cases nodes node p n p_at) [
      | inl was ↦ let w = laid.from p n was in (w.0, omega (arith, w.1, longer), w.2, w.3)
      | inr last ↦ (length places, omega (arith, longer), at ∙ ap Some last.1, standing)
    ];
    ordered = λ p q m n below p_at q_at. elim (slice_get-push_cases nodes node q n q_at) [
      | inl was ↦ elim (slice_get-push_cases nodes node p m p_at) [
        | inl was' ↦ laid.ordered p q m n below was' was
        | inr last ↦ absurd (omega (arith, last.0, below, slice_get_within nodes q n was))
      ]
      | inr last ↦ elim (slice_get-push_cases nodes node p m p_at) [
        | inl was ↦ let w = laid.from p m was in (w.0, length places, w.1, w.2, w.3, at ∙ ap Some last.1, standing)
        | inr last' ↦ absurd (omega (arith, last.0, last'.0, below))
      ]
    ];
    few = omega (arith, longer, length-append nodes (node ∷ []), laid.few);
  }

  pub laid_pass : st (length places) ≡ false → AreLaid st all nodes (places ++ length nodes ∷ [])
  laid_pass lacking = record {
    there = λ k n below k_at is. elim (cases_lt k (length places)) [
      | inl earlier ↦ let w = laid.there k n earlier k_at is in (w.0, slice_get-front places (length nodes ∷ []) k w.0 w.1, w.2)
      | inr later ↦
          let last : k ≡ length places = omega (arith, later, below, longer) in
          absurd (false≢true (sym lacking ∙ sym (ap st last) ∙ is))
    ];
    from = λ p n p_at. let w = laid.from p n p_at in (w.0, omega (arith, w.1, longer), w.2, w.3);
    ordered = laid.ordered;
    few = omega (arith, longer, laid.few);
  }

pub laid_none : (st : ℕ → Bool) (all : List Node) → AreLaid st all [] []
laid_none st all = record {
  there = λ k n below at is. absurd (omega (arith, below));
  from = λ p n at. absurd (none-some n at);
  ordered = λ p q m n below at at'. absurd (none-some m at);
  few = omega arith;
}

-- ---- a link between places

record LinkParts (numbers : List ℕ) (marks : List Bool) (places : List ℕ) (l k : Link) : Type 0 where
  a : ℕ
  b : ℕ
  first : slice_get numbers l.from ≡ Some a
  second : slice_get numbers l.to ≡ Some b
  marked : slice_get marks a ≡ Some true
  from : slice_get places a ≡ Some k.from
  to : slice_get places b ≡ Some k.to
  require : l.require ≡ k.require
  provide : l.provide ≡ k.provide

module _ (numbers : List ℕ) (marks : List Bool) (places : List ℕ) where
  link_parts : (l k : Link) → link_in numbers marks places l ≡ Some k → LinkParts numbers marks places l k
  link_parts l k e =
      option_and_then_some _ (slice_get numbers l.from) k e (λ a first e1.
      option_and_then_some _ (slice_get numbers l.to) k e1 (λ b second e2.
      option_and_then_some _ (slice_get marks a) k e2 (λ marked is_marked e3.
      option_and_then_some _ (slice_get places a) k e3 (λ i from e4.
      option_and_then_some _ (slice_get places b) k e4 (λ j to e5. by marked a b i j first second is_marked from to e5)))))
    where
      by : (marked : Bool) (a b i j : ℕ) → slice_get numbers l.from ≡ Some a → slice_get numbers l.to ≡ Some b → slice_get marks a ≡ Some marked → slice_get places a ≡ Some i → slice_get places b ≡ Some j
          → (if not marked then None else Some (record { from = i; require = l.require; to = j; provide = l.provide })) ≡ Some k → LinkParts numbers marks places l k
      by false a b i j first second is_marked from to e = absurd (none-some k e)
      by true a b i j first second is_marked from to e =
          let same : record { from = i; require = l.require; to = j; provide = l.provide } ≡ k = same_Some _ k e in
          record {
            a = a;
            b = b;
            first = first;
            second = second;
            marked = is_marked;
            from = from ∙ ap (λ (x : Link). Some x.from) same;
            to = to ∙ ap (λ (x : Link). Some x.to) same;
            require = ap (λ (x : Link). x.require) same;
            provide = ap (λ (x : Link). x.provide) same;
          }

  parts_link : (l : Link) (a b i j : ℕ) → slice_get numbers l.from ≡ Some a → slice_get numbers l.to ≡ Some b → slice_get marks a ≡ Some true → slice_get places a ≡ Some i → slice_get places b ≡ Some j
      → link_in numbers marks places l ≡ Some (record { from = i; require = l.require; to = j; provide = l.provide })
  parts_link l a b i j first second marked from to = rw (first, second, marked, from, to) refl

-- a link of a graph as a link between places, told by its nodes
record Joins (g : Graph) (all : List Node) (marks : List Bool) (places : List ℕ) (k : Link) : Type 0 where
  a : ℕ
  b : ℕ
  m : Node
  n : Node
  m_at : slice_get all a ≡ Some m
  n_at : slice_get all b ≡ Some n
  marked : slice_get marks a ≡ Some true
  from : slice_get places a ≡ Some k.from
  to : slice_get places b ≡ Some k.to
  connected : AreConnected g m k.require n k.provide

module _ (g : Graph) (graph : IsGraph g) (all : List Node) (once : (a b : ℕ) (n : Node) → slice_get all a ≡ Some n → slice_get all b ≡ Some n → a ≡ b) (numbers : List ℕ) (numbered : AreNumbers g.nodes all numbers) (marks : List Bool) (places : List ℕ) where
  member_at : (i a : ℕ) (n : Node) → slice_get g.nodes i ≡ Some n → slice_get numbers i ≡ Some a → slice_get all a ≡ Some n
  member_at i a n at is =
      let w = numbered.are i n at in
      subst (λ k. slice_get all k ≡ Some n) (one_at numbers i w.0 a w.1 is) w.2

  link_joins : (l k : Link) → Contains g.links l → link_in numbers marks places l ≡ Some k → Joins g all marks places k
  link_joins l k there e =
      let p = link_parts numbers marks places l k e in
      let inside = All-contains (IsLinkWithin g.nodes) g.links l graph.within there in
      let f = slice_get-there g.nodes l.from (within_list requires_of g.nodes l.from l.require inside.begins) in
      let t = slice_get-there g.nodes l.to (within_list provides_of g.nodes l.to l.provide inside.ends) in
      record {
        a = p.a;
        b = p.b;
        m = f.0;
        n = t.0;
        m_at = member_at l.from p.a f.0 f.1 p.first;
        n_at = member_at l.to p.b t.0 t.1 p.second;
        marked = p.marked;
        from = p.from;
        to = p.to;
        connected = (l, there, record { from = f.1; require = p.require; to = t.1; provide = p.provide });
      }

  joins_from : (k : Link) → Contains (filter_map (link_in numbers marks places) g.links) k → Joins g all marks places k
  joins_from k held = let w = Contains-from_filter_map (link_in numbers marks places) g.links k held in link_joins w.0 k w.1 w.2

  joins_to : (a b i j r x : ℕ) (m n : Node) → slice_get all a ≡ Some m → slice_get all b ≡ Some n → AreConnected g m r n x → slice_get marks a ≡ Some true → slice_get places a ≡ Some i → slice_get places b ≡ Some j
      → Contains (filter_map (link_in numbers marks places) g.links) (record { from = i; require = r; to = j; provide = x })
  joins_to a b i j r x m n m_at n_at (l, there, made) marked from to =
      let v = numbered.are l.from m made.from in
      let w = numbered.are l.to n made.to in
      let first : slice_get numbers l.from ≡ Some a = v.1 ∙ ap Some (once v.0 a m v.2 m_at) in
      let second : slice_get numbers l.to ≡ Some b = w.1 ∙ ap Some (once w.0 b n w.2 n_at) in
      let place = at_some_place g.links l there in
      Contains-filter_map (link_in numbers marks places) g.links place.0 l (record { from = i; require = r; to = j; provide = x }) place.1
      (parts_link numbers marks places l a b i j first second marked from to ∙ (λ q. Some (record { from = i; require = made.require q; to = j; provide = made.provide q })))

  -- two links of the graph whose places begin at one port
  module _ (nodes : List Node) (stand : (l k : Link) → Contains g.links l → link_in numbers marks places l ≡ Some k → (m : Node) → slice_get g.nodes l.from ≡ Some m → slice_get nodes k.from ≡ Some m) where
    one_port : OneLinkAPort (filter_map (link_in numbers marks places) g.links)
    one_port =
        pairs_filter_map (λ x y. Contains g.links x × Contains g.links y × (begins_at x.from x.require y ≡ false)) (λ k l. begins_at k.from k.require l ≡ false) (link_in numbers marks places) apart g.links
        (pairs_held (λ x y. begins_at x.from x.require y ≡ false) g.links (one_link-in_order g graph))
      where
        begin : (l : Link) → Contains g.links l → (m : Node) × (slice_get g.nodes l.from ≡ Some m)
        begin l there = slice_get-there g.nodes l.from (within_list requires_of g.nodes l.from l.require (All-contains (IsLinkWithin g.nodes) g.links l graph.within there).begins)

        apart : (x y k l : Link) → Contains g.links x × Contains g.links y × (begins_at x.from x.require y ≡ false) → link_in numbers marks places x ≡ Some k → link_in numbers marks places y ≡ Some l → begins_at k.from k.require l ≡ false
        apart x y k l (x_there, y_there, differ) e e' =
            elim (cases_Bool (begins_at k.from k.require l)) [
              | inr no_ ↦ no_
              | inl yes_ ↦
                  let both = begins_there k.from k.require l yes_ in
                  let m = begin x x_there in
                  let n = begin y y_there in
                  let m_stands = stand x k x_there e m.0 m.1 in
                  let n_stands = stand y l y_there e' n.0 n.1 in
                  let same : n.0 ≡ m.0 = one_at nodes k.from n.0 m.0 (subst (λ i. slice_get nodes i ≡ Some n.0) both.0 n_stands) m_stands in
                  let place : y.from ≡ x.from = one_place g.nodes graph.paths_rise y.from x.from m.0 (n.1 ∙ ap Some same) m.1 in
                  let p = link_parts numbers marks places x k e in
                  let q = link_parts numbers marks places y l e' in
                  absurd (false≢true (sym differ ∙ begins_here x.from x.require y place (q.require ∙ both.1 ∙ sym p.require)))
            ]

-- ---- the stage

module _ (old new : Graph) (old_graph : IsGraph old) (new_graph : IsGraph new) (m : Members) (index : IsIndex old new m) (applied : List Bool) (moves : List Move) (firsts : List (List ℕ))
    (is_applied : IsApplied old new moves firsts m.nodes.items applied) where
  abbrev all : List Node
  all = m.nodes.items

  abbrev In : Node → Type 0
  In = IsIn old new moves firsts

  abbrev After : Node → Type 0
  After = IsNodeAfter old new moves firsts old

  abbrev Linked : Node → ℕ → Node → ℕ → Type 0
  Linked = AreLinkedAfter old new moves firsts old

  changed_in : (k : ℕ) (n : Node) → slice_get all k ≡ Some n → In n → IsMarked applied k
  changed_in k n at is_in = (is_applied.are k n at (in_changed old new old_graph new_graph moves firsts n is_in)).1 is_in

  removed_changed : (n : Node) → IsRemoved old new n → IsChanged old new n
  removed_changed n lost = inl (removed_touched old new old_graph new_graph n lost)

  marked_new : (k : ℕ) (n : Node) → slice_get all k ≡ Some n → IsMarked applied k → Contains new.nodes n → After n
  marked_new k n at marked there =
      elim (tell_contained old.nodes n) [
        | inl was ↦ inl (was, λ w. w.1.gone there)
        | inr missing ↦ let made : IsCreated old new n = record { there = there; gone = missing } in inr ((is_applied.are k n at (inr made)).0 marked, made)
      ]

  unmarked_old : (k : ℕ) (n : Node) → slice_get all k ≡ Some n → ¬ IsMarked applied k → Contains old.nodes n → After n
  unmarked_old k n at unmarked was = inl (was, λ w. unmarked (changed_in k n at w.0))

  standing_after : (k : ℕ) (n : Node) → slice_get all k ≡ Some n → stands m applied k ≡ true → After n
  standing_after k n at is = by (get_or applied k false) refl is
    where
      by : (b : Bool) → get_or applied k false ≡ b → (if b then get_or m.in_new.items k false else get_or m.in_old.items k false) ≡ true → After n
      by true e s = marked_new k n at e ((index.in_new.are k n at).0 s)
      by false e s = unmarked_old k n at (λ marked. false≢true (sym e ∙ marked)) ((index.in_old.are k n at).0 s)

  after_standing : (k : ℕ) (n : Node) → slice_get all k ≡ Some n → After n → stands m applied k ≡ true
  after_standing k n at after = by (get_or applied k false) refl after
    where
      by : (b : Bool) → get_or applied k false ≡ b → After n → (if b then get_or m.in_new.items k false else get_or m.in_old.items k false) ≡ true
      by true e (inr w) = (index.in_new.are k n at).1 w.1.there
      by true e (inl w) =
          (index.in_new.are k n at).1 (elim (tell_contained new.nodes n) [
            | inl stays ↦ stays
            | inr gone ↦ let lost : IsRemoved old new n = record { there = w.0; gone = gone } in absurd (w.1 ((is_applied.are k n at (removed_changed n lost)).0 e, lost))
          ])
      by false e (inl w) = (index.in_old.are k n at).1 w.0
      by false e (inr w) = absurd (false≢true (sym e ∙ changed_in k n at w.0))

  -- which links there are of a member
  abbrev Joined : ℕ → Node → ℕ → Node → ℕ → Type 0
  Joined k from r to x = (IsMarked applied k × AreConnected new from r to x) ⊎ ((¬ IsMarked applied k) × AreConnected old from r to x)

  joined_after : (k : ℕ) (from : Node) (r : ℕ) (to : Node) (x : ℕ) → slice_get all k ≡ Some from → Joined k from r to x → After from
  joined_after k from r to x at (inl w) = marked_new k from at w.0 (from_contained new new_graph from r to x w.1)
  joined_after k from r to x at (inr w) = unmarked_old k from at w.0 (from_contained old old_graph from r to x w.1)

  joined_linked : (k : ℕ) (from : Node) (r : ℕ) (to : Node) (x : ℕ) → slice_get all k ≡ Some from → Joined k from r to x → Linked from r to x
  joined_linked k from r to x at (inr w) = inr (λ is_in. w.0 (changed_in k from at is_in), w.1)
  joined_linked k from r to x at (inl w) =
      elim (tell_contained old.nodes from) [
        | inr missing ↦ inl ((is_applied.are k from at (inr (record { there = from_contained new new_graph from r to x w.1; gone = missing }))).0 w.0, w.1)
        | inl was ↦ elim (tell_touched old new old_graph new_graph from was) [
          | inl touched ↦ inl ((is_applied.are k from at (inl touched)).0 w.0, w.1)
          | inr quiet ↦ inr (not_in was quiet, (untouched_alike old new old_graph new_graph from was quiet r to x).1 w.1)
        ]
      ]
    where
      not_in : Contains old.nodes from → ¬ IsTouchedNode old new from → ¬ In from
      not_in was quiet is_in = elim (in_changed old new old_graph new_graph moves firsts from is_in) [ inl touched ↦ quiet touched | inr made ↦ made.gone was ]

  linked_joined : (k : ℕ) (from : Node) (r : ℕ) (to : Node) (x : ℕ) → slice_get all k ≡ Some from → Linked from r to x → Joined k from r to x
  linked_joined k from r to x at (inl w) = inl (changed_in k from at w.0, w.1)
  linked_joined k from r to x at (inr w) =
      elim (cases_Bool (get_or applied k false)) [
        | inr unmarked ↦ inr (λ marked. false≢true (sym unmarked ∙ marked), w.1)
        | inl marked ↦
            let was = from_contained old old_graph from r to x w.1 in
            inl (marked, (untouched_alike old new old_graph new_graph from was (λ touched. w.0 ((is_applied.are k from at (inl touched)).0 marked)) r to x).0 w.1)
      ]

  -- members that stand there have paths in order
  standing_rise : (k l : ℕ) (u v : Node) → k < l → slice_get all k ≡ Some u → slice_get all l ≡ Some v → After u → After v → IsBefore u.path v.path
  standing_rise k l u v below at at' after after' =
      before_if u.path v.path (index.members.ordered k l u v below at at')
      (λ same. elim (replaced_alike old new old_graph new_graph all index.members k l u v (λ e. omega (arith, e, below)) at at' same) [
        | inl w ↦ not_both u v w.0 w.1 same after after'
        | inr w ↦ not_both v u w.0 w.1 (sym same) after' after
      ])
    where
      not_both : (a b : Node) → IsRemoved old new a → IsCreated old new b → a.path ≡ b.path → After a → After b → ⊥
      not_both a b lost made same (inr w) after_b = w.1.gone lost.there
      not_both a b lost made same (inl w) (inl v) = made.gone v.0
      not_both a b lost made same (inl w) (inr v) = w.1 (in_against old new old_graph new_graph moves firsts a b (replaced lost made same) v.0, lost)

  module _ (nodes : List Node) (places : List ℕ) (laid : AreLaid (stands m applied) all nodes places) (long : length places ≡ length all) (few : length all < 2 ^ 31) where
    pub stage_rises : PathsRise nodes
    stage_rises = pairs_from (λ (u v : Node). IsBefore u.path v.path) nodes (λ p q u v below at at'.
        let w = laid.ordered p q u v below at at' in
        standing_rise w.0 w.1 u v w.2 w.3 w.5 (standing_after w.0 u w.3 w.4) (standing_after w.1 v w.5 w.6))

    -- at which place a member stands
    laid_at : (k p : ℕ) (n : Node) → slice_get all k ≡ Some n → After n → slice_get places k ≡ Some p → slice_get nodes p ≡ Some n
    laid_at k p n at after is =
        let w = laid.there k n (omega (arith, long, slice_get_within all k n at)) at (after_standing k n at after) in
        subst (λ q. slice_get nodes q ≡ Some n) (one_at places k w.0 p w.1 is) w.2

    at_laid : (p : ℕ) (n : Node) → slice_get nodes p ≡ Some n → (k : ℕ) × (slice_get all k ≡ Some n) × After n × (slice_get places k ≡ Some p)
    at_laid p n at =
        let w = laid.from p n at in
        let v = laid.there w.0 n w.1 w.2 w.3 in
        (w.0, w.2, standing_after w.0 n w.2 w.3, v.1 ∙ ap Some (one_place nodes stage_rises v.0 p n v.2 at))

    abbrev left : List Bool
    left = map not applied

    unmarked_left : (k : ℕ) → slice_get left k ≡ Some true → ¬ IsMarked applied k
    unmarked_left k at marked =
        let w = slice_get-map_some not applied k true at in
        let read : get_or applied k false ≡ w.0 = get_or_from_slice_get applied k w.0 false w.1 in
        absurd (false≢true (ap not (sym marked ∙ read) ∙ w.2))

    left_unmarked : (k : ℕ) (n : Node) → slice_get all k ≡ Some n → ¬ IsMarked applied k → slice_get left k ≡ Some true
    left_unmarked k n at unmarked =
        let here : slice_get applied k ≡ Some (get_or applied k false) = slice_get-get_or applied k false (omega (arith, is_applied.long, slice_get_within all k n at)) in
        by (get_or applied k false) refl here
      where
        by : (b : Bool) → get_or applied k false ≡ b → slice_get applied k ≡ Some b → slice_get (map not applied) k ≡ Some true
        by true e here = absurd (unmarked e)
        by false e here = slice_get-map_at not applied k false here

    marked_at : (k : ℕ) → IsMarked applied k → slice_get applied k ≡ Some true
    marked_at k marked = slice_get-get_or applied k false (marked_within applied k marked) ∙ ap Some marked

    at_marked : (k : ℕ) → slice_get applied k ≡ Some true → IsMarked applied k
    at_marked k at = get_or_from_slice_get applied k true false at

    abbrev from_old : List Link
    from_old = filter_map (link_in m.of_old.items left places) old.links

    abbrev from_new : List Link
    from_new = filter_map (link_in m.of_new.items applied places) new.links

    abbrev links : List Link
    links = from_old ++ from_new

    -- a link is one of the stage
    record Stands (k : Link) : Type 0 where
      a : ℕ
      u : Node
      v : Node
      u_at : slice_get all a ≡ Some u
      joined : Joined a u k.require v k.provide
      from : slice_get nodes k.from ≡ Some u
      to : slice_get nodes k.to ≡ Some v

    joined_stands : (k : Link) (a b : ℕ) (u v : Node) → slice_get all a ≡ Some u → slice_get all b ≡ Some v → slice_get places a ≡ Some k.from → slice_get places b ≡ Some k.to → Joined a u k.require v k.provide → Stands k
    joined_stands k a b u v at at' from to joined =
        let linked = joined_linked a u k.require v k.provide at joined in
        record {
          a = a;
          u = u;
          v = v;
          u_at = at;
          joined = joined;
          from = laid_at a k.from u at (joined_after a u k.require v k.provide at joined) from;
          to = laid_at b k.to v at' (end_stands old new old_graph new_graph moves firsts u k.require v k.provide linked) to;
        }

    old_stands : (k : Link) → Joins old all left places k → Stands k
    old_stands k w = joined_stands k w.a w.b w.m w.n w.m_at w.n_at w.from w.to (inr (unmarked_left w.a w.marked, w.connected))

    new_stands : (k : Link) → Joins new all applied places k → Stands k
    new_stands k w = joined_stands k w.a w.b w.m w.n w.m_at w.n_at w.from w.to (inl (at_marked w.a w.marked, w.connected))

    link_stands : (k : Link) → Contains links k → Stands k
    link_stands k held =
        elim (Contains-append_cases from_old from_new k held) [
          | inl was ↦ old_stands k (joins_from old old_graph all index.members.once m.of_old.items index.of_old left places k was)
          | inr made ↦ new_stands k (joins_from new new_graph all index.members.once m.of_new.items index.of_new applied places k made)
        ]

    pub links_within : All (IsLinkWithin nodes) links
    links_within = All-from links (IsLinkWithin nodes) (λ k held.
        let w = link_stands k held in
        let inside : (k.require < requires_of w.u) × (k.provide < provides_of w.v) = elim w.joined [
          | inl c ↦ ends_within new new_graph w.u k.require w.v k.provide c.1
          | inr c ↦ ends_within old old_graph w.u k.require w.v k.provide c.1
        ] in
        record {
          begins = subst (λ n. k.require < n) (sym (ap (λ o. option_map_or requires_of o 0) w.from)) inside.0;
          ends = subst (λ n. k.provide < n) (sym (ap (λ o. option_map_or provides_of o 0) w.to)) inside.1;
        })

    pub links_apart : OneLinkAPort links
    unfolding joins_from old_stands link_joins joined_stands new_stands
    links_apart =
        pairs_append (λ k l. begins_at k.from k.require l ≡ false) from_old from_new
        (one_port old old_graph all index.members.once m.of_old.items index.of_old left places nodes (λ l k there e u at. begin_old l k there e u at))
        (one_port new new_graph all index.members.once m.of_new.items index.of_new applied places nodes (λ l k there e u at. begin_new l k there e u at))
        (λ k l held held'. elim (cases_Bool (begins_at k.from k.require l)) [
          | inr no_ ↦ no_
          | inl yes_ ↦
              let both = begins_there k.from k.require l yes_ in
              let v = joins_from old old_graph all index.members.once m.of_old.items index.of_old left places k held in
              let w = joins_from new new_graph all index.members.once m.of_new.items index.of_new applied places l held' in
              let v_from = (old_stands k v).from in
              let w_from = (new_stands l w).from in
              absurd (apart v.a w.a v.m w.m k.from v.m_at w.m_at (unmarked_left v.a v.marked) (at_marked w.a w.marked) v_from (subst (λ i. slice_get nodes i ≡ Some w.m) both.0 w_from))
        ])
      where
        apart : (a b : ℕ) (u v : Node) (p : ℕ) → slice_get all a ≡ Some u → slice_get all b ≡ Some v → ¬ IsMarked applied a → IsMarked applied b → slice_get nodes p ≡ Some u → slice_get nodes p ≡ Some v → ⊥
        apart a b u v p at at' unmarked marked here here' =
            let same : u ≡ v = one_at nodes p u v here here' in
            unmarked (subst (IsMarked applied) (index.members.once b a v at' (at ∙ ap Some same)) marked)

        begin_old : (l k : Link) → Contains old.links l → link_in m.of_old.items left places l ≡ Some k → (u : Node) → slice_get old.nodes l.from ≡ Some u → slice_get nodes k.from ≡ Some u
        begin_old l k there e u at =
            let p = link_parts m.of_old.items left places l k e in
            let at' = member_at old old_graph all index.members.once m.of_old.items index.of_old left places l.from p.a u at p.first in
            laid_at p.a k.from u at' (unmarked_old p.a u at' (unmarked_left p.a p.marked) (Contains-at old.nodes l.from u at)) p.from

        begin_new : (l k : Link) → Contains new.links l → link_in m.of_new.items applied places l ≡ Some k → (u : Node) → slice_get new.nodes l.from ≡ Some u → slice_get nodes k.from ≡ Some u
        begin_new l k there e u at =
            let p = link_parts m.of_new.items applied places l k e in
            let at' = member_at new new_graph all index.members.once m.of_new.items index.of_new applied places l.from p.a u at p.first in
            laid_at p.a k.from u at' (marked_new p.a u at' (at_marked p.a p.marked) (Contains-at new.nodes l.from u at)) p.from

    pub few_nodes : length nodes < 2 ^ 32
    few_nodes = omega (arith, laid.few, long, few)

    pub few_ports : length (ports nodes) < 2 ^ 32
    few_ports = omega (arith, length-ports nodes, two_each nodes, laid.few, long, few)
      where
        two_each : (ns : List Node) → sum_by requires_of ns ≤ 2 * length ns
        two_each [] = omega arith
        two_each (n ∷ ns) = omega (arith, sum_by-cons requires_of n ns, two_requires n.kind, two_each ns)

    -- so what is built is a graph
    pub is_graph : (g : Graph) → g ≡ graph_of nodes links → IsGraph g
    is_graph g is = subst IsGraph (sym is) (IsGraph-graph_of nodes links stage_rises links_within few_nodes few_ports)

    -- and it is the stage
    pub is_stage : (g : Graph) → g ≡ graph_of nodes links → ((l : Link) → Contains g.links l ↔ Contains links l) → IsAfter old new moves firsts old g
    is_stage g is same_links = record {
      paths_rise = subst PathsRise (sym nodes_are) stage_rises;
      nodes_are = λ n. (
        λ held. let w = at_some_place g.nodes n held in (at_laid w.0 n (subst (λ ns. slice_get ns w.0 ≡ Some n) nodes_are w.1)).2,
        λ after.
            let k = at_some_place all n (index.members.all n (there n after)) in
            let w = laid.there k.0 n (omega (arith, long, slice_get_within all k.0 n k.1)) k.1 (after_standing k.0 n k.1 after) in
            subst (λ ns. Contains ns n) (sym nodes_are) (Contains-at nodes w.0 n w.2),
      );
      links_are = λ i r j x. (to i r j x, from i r j x);
      in_order = graph.in_order;
    }
      where
        nodes_are : g.nodes ≡ nodes
        nodes_are = ap (λ (h : Graph). h.nodes) is

        graph : IsGraph g
        graph = is_graph g is

        there : (n : Node) → After n → Contains old.nodes n ⊎ Contains new.nodes n
        there n (inl w) = inl w.0
        there n (inr w) = inr w.1.there

        to : (i r j x : ℕ) → IsLinked g i r j x → AreLinkedAt Linked g.nodes i r j x
        to i r j x linked =
            let k : Link = record { from = i; require = r; to = j; provide = x } in
            let w = link_stands k ((same_links k).0 ((linked_if_listed g graph.in_order i r j x).0 linked)) in
            record {
              from = w.u;
              to = w.v;
              from_there = subst (λ ns. slice_get ns i ≡ Some w.u) (sym nodes_are) w.from;
              to_there = subst (λ ns. slice_get ns j ≡ Some w.v) (sym nodes_are) w.to;
              linked = joined_linked w.a w.u r w.v x w.u_at w.joined;
            }

        listed : (i r j x : ℕ) (u v : Node) → slice_get nodes i ≡ Some u → slice_get nodes j ≡ Some v → Linked u r v x → Contains links (record { from = i; require = r; to = j; provide = x })
        listed i r j x u v at at' linked =
            let a = at_laid i u at in
            let b = at_laid j v at' in
            elim (linked_joined a.0 u r v x a.1 linked) [
              | inl c ↦ Contains-append_right from_old from_new (record { from = i; require = r; to = j; provide = x })
                  (joins_to new new_graph all index.members.once m.of_new.items index.of_new applied places a.0 b.0 i j r x u v a.1 b.1 c.1 (marked_at a.0 c.0) a.3 b.3)
              | inr c ↦ Contains-append_left from_old from_new (record { from = i; require = r; to = j; provide = x })
                  (joins_to old old_graph all index.members.once m.of_old.items index.of_old left places a.0 b.0 i j r x u v a.1 b.1 c.1 (left_unmarked a.0 u a.1 c.0) a.3 b.3)
            ]

        from : (i r j x : ℕ) → AreLinkedAt Linked g.nodes i r j x → IsLinked g i r j x
        from i r j x w =
            (linked_if_listed g graph.in_order i r j x).1 ((same_links (record { from = i; require = r; to = j; provide = x })).1
            (listed i r j x w.from w.to (subst (λ ns. slice_get ns i ≡ Some w.from) nodes_are w.from_there) (subst (λ ns. slice_get ns j ≡ Some w.to) nodes_are w.to_there) w.linked))
