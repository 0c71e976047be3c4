-- Lemmas on stages: what stands in one, that it is sound, and that groups applied one after the other are applied
-- together.
use Rattle.std.proofs.Common.{◌≡◌, ◌⊎◌, ◌↔◌, ◌++◌, ℕ, ◌<◌, [], List, Some, refl, sym, ap, subst, inl, inr, Contains, slice_get}
use Rattle.std.specs.Option.{option_map_or}
use Rattle.std.proofs.lemmas.List.Elements.{All-contains, Contains-append_cases, Contains-append_left, Contains-append_right}
use Rattle.base.specs.Telling.{CanTell}
use Rattle.base.proofs.ContainsLaws.{Contains-at, Contains-nil, at_some_place, All-from}
use Rattle.base.proofs.PlaceLaws.{one_at, slice_get-there}
use Rattle.config_graph.proofs.NumberingLaws.{within_list}
use Rattle.config_graph.specs.Cycles.{IsLinked, graph_wiring}
use Rattle.config_graph.specs.Graph.{Graph, IsGraph, IsLinkWithin, provides_at, provides_of, requires_at, requires_of}
use Rattle.config_graph.specs.GraphBy.{AreLinkedAt, IsGraphBy}
use Rattle.config_graph.specs.Sound.{HasItsArgument, Sound}
use Rattle.config_graph.specs.Wiring.{HasNoCycle}
use Rattle.config_graph.specs.declared.node.Link.{Link}
use Rattle.config_graph.specs.declared.node.Node.{Node}
use Rattle.config_graph.proofs.GraphByLaws.{linked_if_listed, one_graph}
use Rattle.config_graph.proofs.PathLaws.{one_place}
use Rattle.config_graph.proofs.TellLaws.{tell_contained}
use Rattle.change_plan.specs.declared.plan_data.Move.{Move}
use Rattle.change_parts.specs.Groups.{AreGroups, IsIn}
use Rattle.change_parts.specs.Stages.{AreLinkedAfter, IsAfter, IsNodeAfter}
use Rattle.change_parts.specs.Ties.{AreConnected, IsCreated, IsRemoved, IsTouchedNode}
use Rattle.change_parts.specs.Ties.Tied.{unlinked, linked}
use Rattle.change_parts.proofs.LinkedLaws.{from_contained, linked_at, removed_touched, tell_touched, to_contained, untouched_alike}
use Rattle.change_parts.proofs.TieLaws.{in_against, in_along, in_changed}

-- the ends of a connection are a requirement of the one node and a provision of the other
pub ends_within : (g : Graph) → IsGraph g → (from : Node) (r : ℕ) (to : Node) (x : ℕ) → AreConnected g from r to x → (r < requires_of from) × (x < provides_of to)
ends_within g graph from r to x (l, there, made) =
    let inside = All-contains (IsLinkWithin g.nodes) g.links l graph.within there in
    let requires_ : requires_at g.nodes l.from ≡ requires_of from = ap (λ o. option_map_or requires_of o 0) made.from in
    let provides_ : provides_at g.nodes l.to ≡ provides_of to = ap (λ o. option_map_or provides_of o 0) made.to in
    (subst (λ (p : ℕ × ℕ). p.0 < p.1) (λ n. (made.require n, requires_ n)) inside.begins, subst (λ (p : ℕ × ℕ). p.0 < p.1) (λ n. (made.provide n, provides_ n)) inside.ends)

-- where nodes and links are told by nodes, a connection is a link, and a link a connection
module _ (IsNode : Node → Type 0) (Linked : Node → ℕ → Node → ℕ → Type 0) (g : Graph) (by_ : IsGraphBy IsNode Linked g) where
  pub connection_linked : (from : Node) (r : ℕ) (to : Node) (x : ℕ) → AreConnected g from r to x → Linked from r to x
  connection_linked from r to x (l, there, made) =
      let is : IsLinked g l.from r l.to x = (linked_if_listed g by_.in_order l.from r l.to x).1
      (subst (Contains g.links) (λ n. record { from = l.from; require = made.require n; to = l.to; provide = made.provide n }) there) in
      let w = (by_.links_are l.from r l.to x).0 is in
      subst (λ (p : Node × Node). Linked p.0 r p.1 x) (λ n. (same_at l.from w.from from w.from_there made.from n, same_at l.to w.to to w.to_there made.to n)) w.linked
    where
      same_at : (i : ℕ) (a b : Node) → slice_get g.nodes i ≡ Some a → slice_get g.nodes i ≡ Some b → a ≡ b
      same_at i a b at at' = one_at g.nodes i a b at at'

  pub linked_connection : (from : Node) (r : ℕ) (to : Node) (x : ℕ) → Contains g.nodes from → Contains g.nodes to → Linked from r to x → AreConnected g from r to x
  linked_connection from r to x from_there to_there is =
      let a = at_some_place g.nodes from from_there in
      let b = at_some_place g.nodes to to_there in (
        record { from = a.0; require = r; to = b.0; provide = x },
        (linked_if_listed g by_.in_order a.0 r b.0 x).0 ((by_.links_are a.0 r b.0 x).1 (record { from = from; to = to; from_there = a.1; to_there = b.1; linked = is })),
        record { from = a.1; require = refl; to = b.1; provide = refl },
      )

-- a graph is the one of its own nodes and connections
own_graph_by : (g : Graph) → IsGraph g → IsGraphBy (Contains g.nodes) (AreConnected g) g
own_graph_by g graph = record {
  paths_rise = graph.paths_rise;
  nodes_are = λ n. (λ h. h, λ h. h);
  links_are = λ i r j x. (to i r j x, λ w. from i r j x w);
  in_order = graph.in_order;
}
  where
    to : (i r j x : ℕ) → IsLinked g i r j x → AreLinkedAt (AreConnected g) g.nodes i r j x
    to i r j x is =
        let listed = (linked_if_listed g graph.in_order i r j x).0 is in
        let inside = All-contains (IsLinkWithin g.nodes) g.links (record { from = i; require = r; to = j; provide = x }) graph.within listed in
        let a = slice_get-there g.nodes i (within_list requires_of g.nodes i r inside.begins) in
        let b = slice_get-there g.nodes j (within_list provides_of g.nodes j x inside.ends) in
        record { from = a.0; to = b.0; from_there = a.1; to_there = b.1; linked = (record { from = i; require = r; to = j; provide = x }, listed, record { from = a.1; require = refl; to = b.1; provide = refl }) }

    from : (i r j x : ℕ) → AreLinkedAt (AreConnected g) g.nodes i r j x → IsLinked g i r j x
    from i r j x w =
        let c = linked_at g graph w.from r w.to x w.linked in
        let i_is : c.i ≡ i = one_place g.nodes graph.paths_rise c.i i w.from c.from_there w.from_there in
        let j_is : c.j ≡ j = one_place g.nodes graph.paths_rise c.j j w.to c.to_there w.to_there in
        subst (λ (p : ℕ × ℕ). IsLinked g p.0 r p.1 x) (λ n. (i_is n, j_is n)) c.linked

-- a graph told by the same nodes, and by the same links between these
by_alike :
    (N : Node → Type 0) (L : Node → ℕ → Node → ℕ → Type 0) (M : Node → Type 0) (K : Node → ℕ → Node → ℕ → Type 0) (g : Graph) → IsGraphBy N L g
    → ((n : Node) → N n ↔ M n) → ((from : Node) (r : ℕ) (to : Node) (x : ℕ) → Contains g.nodes from → Contains g.nodes to → L from r to x ↔ K from r to x) → IsGraphBy M K g
by_alike N L M K g h nodes links = record {
  paths_rise = h.paths_rise;
  nodes_are = λ n. (λ there. (nodes n).0 ((h.nodes_are n).0 there), λ is. (h.nodes_are n).1 ((nodes n).1 is));
  links_are = λ i r j x. (
    λ e. let w = (h.links_are i r j x).0 e in
        record { from = w.from; to = w.to; from_there = w.from_there; to_there = w.to_there; linked = (links w.from r w.to x (Contains-at g.nodes i w.from w.from_there) (Contains-at g.nodes j w.to w.to_there)).0 w.linked },
    λ w. (h.links_are i r j x).1 (record { from = w.from; to = w.to; from_there = w.from_there; to_there = w.to_there; linked = (links w.from r w.to x (Contains-at g.nodes i w.from w.from_there) (Contains-at g.nodes j w.to w.to_there)).1 w.linked }),
  );
  in_order = h.in_order;
}

module _ (old new : Graph) (old_graph : IsGraph old) (new_graph : IsGraph new) (moves : List Move) where
  abbrev In : List (List ℕ) → Node → Type 0
  In firsts = IsIn old new moves firsts

  abbrev After : List (List ℕ) → Graph → Graph → Type 0
  After firsts g h = IsAfter old new moves firsts g h

  -- what stands in a stage is of the old graph or was created
  pub node_of_stage : (done : List (List ℕ)) (g : Graph) → After done old g → (n : Node) → Contains g.nodes n → Contains old.nodes n ⊎ (In done n × IsCreated old new n)
  node_of_stage done g stage n there = elim ((stage.nodes_are n).0 there) [ inl w ↦ inl w.0 | inr w ↦ inr w ]

  -- a node that stays stands in each stage
  pub stays_in_stage : (done : List (List ℕ)) (g : Graph) → After done old g → (n : Node) → Contains old.nodes n → Contains new.nodes n → Contains g.nodes n
  stays_in_stage done g stage n there stays = (stage.nodes_are n).1 (inl (there, λ w. w.1.gone stays))

  -- a link of a stage begins at a created or touched node, or stands in the old graph
  pub link_of_stage : (done : List (List ℕ)) (from : Node) (r : ℕ) (to : Node) (x : ℕ) → AreLinkedAfter old new moves done old from r to x
      → (In done from × IsCreated old new from) ⊎ (IsTouchedNode old new from ⊎ AreConnected old from r to x)
  link_of_stage done from r to x (inr w) = inr (inr w.1)
  link_of_stage done from r to x (inl w) =
      elim (in_changed old new old_graph new_graph moves done from w.0) [
        | inl touched ↦ inr (inl touched)
        | inr made ↦ inl (w.0, made)
      ]

  -- no link is lost: what a link ends at stands there too
  pub end_stands : (done : List (List ℕ)) (from : Node) (r : ℕ) (to : Node) (x : ℕ) → AreLinkedAfter old new moves done old from r to x → IsNodeAfter old new moves done old to
  end_stands done from r to x (inl (is_in, c)) =
      elim (tell_contained old.nodes to) [
        | inl before ↦ inl (before, λ w. w.1.gone (to_contained new new_graph from r to x c))
        | inr missing ↦
            let made : IsCreated old new to = record { there = to_contained new new_graph from r to x c; gone = missing } in
            inr (in_along old new old_graph new_graph moves done from to (linked r x c made) is_in, made)
      ]
  end_stands done from r to x (inr (not_in, c)) =
      inl (to_contained old old_graph from r to x c, λ w. not_in (in_against old new old_graph new_graph moves done from to (unlinked r x c w.1) w.0))

  -- where a link begins in a stage it ends there
  pub end_of_stage : (done : List (List ℕ)) (g : Graph) → After done old g → (from : Node) (r : ℕ) (to : Node) (x : ℕ) → Contains g.nodes from
      → AreLinkedAfter old new moves done old from r to x → Contains g.nodes to
  end_of_stage done g stage from r to x there is = (stage.nodes_are to).1 (end_stands done from r to x is)

  -- a stage without a cycle is sound
  pub stage_sound : (done : List (List ℕ)) (g : Graph) → After done old g → Sound old → Sound new → HasNoCycle (graph_wiring g) → Sound g
  stage_sound done g stage old_sound new_sound acyclic = record {
    paths_rise = stage.paths_rise;
    arguments = All-from g.nodes HasItsArgument (λ n there. elim (node_of_stage done g stage n there) [
      | inl before ↦ All-contains HasItsArgument old.nodes n old_sound.arguments before
      | inr w ↦ All-contains HasItsArgument new.nodes n new_sound.arguments w.1.there
    ]);
    within = All-from g.links (IsLinkWithin g.nodes) within_;
    in_order = stage.in_order;
    no_cycle = acyclic;
  }
    where
      within_ : (l : Link) → Contains g.links l → IsLinkWithin g.nodes l
      within_ l there =
          let w = (stage.links_are l.from l.require l.to l.provide).0 ((linked_if_listed g stage.in_order l.from l.require l.to l.provide).1 there) in
          let ends : (l.require < requires_of w.from) × (l.provide < provides_of w.to) = elim w.linked [
            | inl c ↦ ends_within new new_graph w.from l.require w.to l.provide c.1
            | inr c ↦ ends_within old old_graph w.from l.require w.to l.provide c.1
          ] in
          record {
            begins = subst (λ k. l.require < k) (sym (ap (λ o. option_map_or requires_of o 0) w.from_there)) ends.0;
            ends = subst (λ k. l.provide < k) (sym (ap (λ o. option_map_or provides_of o 0) w.to_there)) ends.1;
          }

  -- the old graph is the stage before all groups
  pub first_stage : After [] old old
  first_stage = by_alike (Contains old.nodes) (AreConnected old) (IsNodeAfter old new moves [] old) (AreLinkedAfter old new moves [] old) old (own_graph_by old old_graph)
      (λ n. (λ there. inl (there, λ w. none n w.0), λ w. elim w [ inl v ↦ v.0 | inr v ↦ absurd (none n v.0) ]))
      (λ from r to x from_there to_there. (λ c. inr (none from, c), λ w. elim w [ inl v ↦ absurd (none from v.0) | inr v ↦ v.1 ]))
    where
      none : (n : Node) → ¬ In [] n
      none n (p, held, g) = Contains-nil p held

  -- two lists of groups that follow one another
  pub in_both : (done taken : List (List ℕ)) (n : Node) → In (done ++ taken) n → In done n ⊎ In taken n
  in_both done taken n (p, held, g) = elim (Contains-append_cases done taken p held) [ inl h ↦ inl (p, h, g) | inr h ↦ inr (p, h, g) ]

  pub in_left : (done taken : List (List ℕ)) (n : Node) → In done n → In (done ++ taken) n
  in_left done taken n (p, held, g) = (p, Contains-append_left done taken p held, g)

  pub in_right : (done taken : List (List ℕ)) (n : Node) → In taken n → In (done ++ taken) n
  in_right done taken n (p, held, g) = (p, Contains-append_right done taken p held, g)

  -- groups that are applied one after the other are applied together
  module _ (done taken : List (List ℕ)) (apart : (n : Node) → In done n → In taken n → ⊥) (g : Graph) (stage : After done old g) where
    nodes_to : (n : Node) → IsNodeAfter old new moves taken g n → IsNodeAfter old new moves (done ++ taken) old n
    nodes_to n (inr w) = inr (in_right done taken n w.0, w.1)
    nodes_to n (inl (there, stays)) =
        elim ((stage.nodes_are n).0 there) [
          | inl w ↦ inl (w.0, λ v. elim (in_both done taken n v.0) [ inl first ↦ w.1 (first, v.1) | inr then ↦ stays (then, v.1) ])
          | inr w ↦ inr (in_left done taken n w.0, w.1)
        ]

    nodes_from : (n : Node) → IsNodeAfter old new moves (done ++ taken) old n → IsNodeAfter old new moves taken g n
    nodes_from n (inl (there, stays)) =
        inl ((stage.nodes_are n).1 (inl (there, λ w. stays (in_left done taken n w.0, w.1))), λ w. stays (in_right done taken n w.0, w.1))
    nodes_from n (inr (is_in, made)) =
        elim (in_both done taken n is_in) [
          | inl first ↦ inl ((stage.nodes_are n).1 (inr (first, made)), λ w. made.gone w.1.there)
          | inr then ↦ inr (then, made)
        ]

    links_to : (from : Node) (r : ℕ) (to : Node) (x : ℕ) → AreLinkedAfter old new moves taken g from r to x → AreLinkedAfter old new moves (done ++ taken) old from r to x
    links_to from r to x (inl w) = inl (in_right done taken from w.0, w.1)
    links_to from r to x (inr (not_then, c)) =
        elim (connection_linked (IsNodeAfter old new moves done old) (AreLinkedAfter old new moves done old) g stage from r to x c) [
          | inl w ↦ inl (in_left done taken from w.0, w.1)
          | inr w ↦ inr (λ is. elim (in_both done taken from is) [ inl first ↦ w.0 first | inr then ↦ not_then then ], w.1)
        ]

    was : (from : Node) (r : ℕ) (to : Node) (x : ℕ) → IsNodeAfter old new moves taken g from → ¬ In taken from → AreLinkedAfter old new moves done old from r to x → AreConnected g from r to x
    was from r to x (inr w) not_then is = absurd (not_then w.0)
    was from r to x (inl w) not_then is =
        linked_connection (IsNodeAfter old new moves done old) (AreLinkedAfter old new moves done old) g stage from r to x w.0 (end_of_stage done g stage from r to x w.0 is) is

    links_from : (from : Node) (r : ℕ) (to : Node) (x : ℕ) → IsNodeAfter old new moves taken g from → AreLinkedAfter old new moves (done ++ taken) old from r to x → AreLinkedAfter old new moves taken g from r to x
    links_from from r to x node (inl (is_in, c)) =
        elim (in_both done taken from is_in) [
          | inr then ↦ inl (then, c)
          | inl first ↦ inr (apart from first, was from r to x node (apart from first) (inl (first, c)))
        ]
    links_from from r to x node (inr (not_in, c)) =
        let not_then = λ (then : In taken from). not_in (in_right done taken from then) in
        inr (not_then, was from r to x node not_then (inr (λ first. not_in (in_left done taken from first), c)))

    module _ (h : Graph) where
      pub stage_next : After taken g h → After (done ++ taken) old h
      stage_next next_ = by_alike (IsNodeAfter old new moves taken g) (AreLinkedAfter old new moves taken g) (IsNodeAfter old new moves (done ++ taken) old) (AreLinkedAfter old new moves (done ++ taken) old) h next_
          (λ n. (nodes_to n, nodes_from n)) (λ from r to x there to_there. (links_to from r to x, links_from from r to x ((next_.nodes_are from).0 there)))

      -- and groups that are applied together are applied one after the other
      pub stage_split : After (done ++ taken) old h → After taken g h
      stage_split all_ = by_alike (IsNodeAfter old new moves (done ++ taken) old) (AreLinkedAfter old new moves (done ++ taken) old) (IsNodeAfter old new moves taken g) (AreLinkedAfter old new moves taken g) h all_
          (λ n. (nodes_from n, nodes_to n)) (λ from r to x there to_there. (links_from from r to x (nodes_from from ((all_.nodes_are from).0 there)), links_to from r to x))

  -- after all groups the new graph stands
  module _ (firsts : List (List ℕ)) (groups : AreGroups old new moves firsts) where
    pub new_stage : After firsts old new
    new_stage = by_alike (Contains new.nodes) (AreConnected new) (IsNodeAfter old new moves firsts old) (AreLinkedAfter old new moves firsts old) new (own_graph_by new new_graph)
        (λ n. (nodes_to n, nodes_from n)) (λ from r to x from_there to_there. (links_to from r to x, links_from from r to x))
      where
        nodes_to : (n : Node) → Contains new.nodes n → IsNodeAfter old new moves firsts old n
        nodes_to n there =
            elim (tell_contained old.nodes n) [
              | inl before ↦ inl (before, λ w. w.1.gone there)
              | inr missing ↦ let made : IsCreated old new n = record { there = there; gone = missing } in inr (groups.all n (inr made), made)
            ]

        nodes_from : (n : Node) → IsNodeAfter old new moves firsts old n → Contains new.nodes n
        nodes_from n (inr w) = w.1.there
        nodes_from n (inl (there, stays)) =
            elim (tell_contained new.nodes n) [
              | inl after ↦ after
              | inr gone ↦ let lost : IsRemoved old new n = record { there = there; gone = gone } in absurd (stays (groups.all n (inl (removed_touched old new old_graph new_graph n lost)), lost))
            ]

        links_to : (from : Node) (r : ℕ) (to : Node) (x : ℕ) → AreConnected new from r to x → AreLinkedAfter old new moves firsts old from r to x
        links_to from r to x c = by (tell_contained old.nodes from)
          where
            by : CanTell (Contains old.nodes from) → AreLinkedAfter old new moves firsts old from r to x
            by (inr missing) = inl (groups.all from (inr (record { there = from_contained new new_graph from r to x c; gone = missing })), c)
            by (inl there) =
                elim (tell_touched old new old_graph new_graph from there) [
                  | inl touched ↦ inl (groups.all from (inl touched), c)
                  | inr quiet ↦ inr (not_changed quiet, (untouched_alike old new old_graph new_graph from there quiet r to x).1 c)
                ]
              where
                not_changed : ¬ IsTouchedNode old new from → ¬ In firsts from
                not_changed quiet is_in = elim (in_changed old new old_graph new_graph moves firsts from is_in) [ inl touched ↦ quiet touched | inr made ↦ made.gone there ]

        links_from : (from : Node) (r : ℕ) (to : Node) (x : ℕ) → AreLinkedAfter old new moves firsts old from r to x → AreConnected new from r to x
        links_from from r to x (inl w) = w.1
        links_from from r to x (inr (not_in, c)) =
            let there = from_contained old old_graph from r to x c in
            (untouched_alike old new old_graph new_graph from there (λ touched. not_in (groups.all from (inl touched))) r to x).0 c

    pub last_stage : (g : Graph) → After firsts old g → g ≡ new
    last_stage g stage = one_graph (IsNodeAfter old new moves firsts old) (AreLinkedAfter old new moves firsts old) g new stage new_stage
