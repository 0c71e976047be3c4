-- That there are no groups, or no stage after some of them, can't be.
use Rattle.std.proofs.Common.{◌≡◌, ◌⊎◌, ◌∙◌, ◌++◌, ◌<◌, ℕ, List, [], ◌∷◌, Some, refl, ap, sym, subst, inl, inr, true, arith, map, Contains, slice_get}
use Rattle.std.specs.Option.{option_map_or}
use Rattle.std.specs.Ordering.{is_eq, nat_cmp, ordering_reverse}
use Rattle.std.specs.Cmp.Lexicographic.{slice_cmp, nat_list_cmp_total}
use Rattle.std.specs.Prelude.{AllPairs}
use Rattle.std.specs.declared.cmp.Ordering.{Ordering}
use Rattle.std.specs.declared.cmp.Ordering.TheVariants.{Less, Equal, Greater}
use Rattle.std.proofs.lemmas.List.Elements.{All-cons, All-contains, All-contains_itself, Contains-append_cases, Contains-append_left, Contains-append_right}
use Rattle.std.proofs.lemmas.List.Kept.{AllPairs-cons}
use Rattle.std.proofs.lemmas.Map.Text.{is_eq-slice_cmp}
use Rattle.std.proofs.lemmas.Option.{same_Some}
use Rattle.std.proofs.lemmas.Slice.Eq.{bytes_eq-Decides}
use Rattle.base.proofs.ContainsLaws.{Contains-at, Contains-cons_cases, Contains-filter_map, Contains-from_map, Contains-here, Contains-map, Contains-nil, Contains-there, at_some_place, All-from}
use Rattle.base.proofs.FindLaws.{find-only}
use Rattle.base.proofs.OrderedLaws.{before_all, rest_rises}
use Rattle.base.proofs.PlaceLaws.{one_at}
use Rattle.config_graph.specs.Cycles.{IsLinked}
use Rattle.config_graph.specs.Graph.{Graph, IsGraph, PathsRise, begins_at, graph_of, in_port_order, link_at, port_number, ports, requires_at, requires_of}
use Rattle.config_graph.specs.GraphBy.{AreLinkedAt}
use Rattle.config_graph.specs.declared.node.Link.{Link}
use Rattle.config_graph.specs.declared.node.Node.{Node}
use Rattle.config_graph.specs.declared.node.Port.{Port}
use Rattle.config_graph.specs.declared.node.Target.{Target}
use Rattle.config_graph.proofs.GraphByLaws.{linked_if_listed}
use Rattle.config_graph.proofs.LinkLaws.{begins_here, begins_there, get-ports}
use Rattle.config_graph.proofs.OrderLaws.{All-ordered, in_port_order-twice}
use Rattle.config_graph.proofs.PathLaws.{irreflexive, one_place}
use Rattle.config_graph.proofs.TellLaws.{tell_contained}
use Rattle.change_plan.specs.Selects.{Selects}
use Rattle.change_plan.specs.declared.plan_data.Move.{Move}
use Rattle.change_plan.proofs.NodeLaws.{one_path}
use Rattle.change_plan.proofs.SelectsLaws.{Selects-has, Selects-only}
use Rattle.change_parts.specs.Groups.{AreGroups, IsBefore, IsIn, IsLeast}
use Rattle.change_parts.specs.Stages.{AreLinkedAfter, IsAfter, IsNodeAfter}
use Rattle.change_parts.specs.Ties.{AreConnected, IsChanged, IsCreated, IsRemoved, Joined}
use Rattle.change_parts.specs.Ties.Joined.{itself}
use Rattle.change_parts.specs.Ties.Tied.{replaced}
use Rattle.change_parts.proofs.LinkedLaws.{linked_at}
use Rattle.change_parts.proofs.MissingLemmas.{Related, all_related, not_not, of_each, some_part}
use Rattle.change_parts.proofs.StageLaws.{ends_within}
use Rattle.change_parts.proofs.TieLaws.{in_against, joined_back, joined_changed, then_joined}

-- ---- nodes in the order of their paths

abbrev Rises : Node → Node → Type 0
Rises m n = slice_cmp nat_cmp m.path n.path ≡ Less

-- a node put in its place among nodes that rise, where no other has its path
record Put (n : Node) (xs : List Node) : Type 0 where
  items : List Node
  rise : PathsRise items
  have : (m : Node) → Contains items m → (m ≡ n) ⊎ Contains xs m
  here : (m : Node) × Contains items m × (m.path ≡ n.path)
  kept : (m : Node) → Contains xs m → Contains items m

put : (n : Node) (xs : List Node) → PathsRise xs → Put n xs
put n [] rise = record {
  items = n ∷ [];
  rise = AllPairs-cons Rises n [] (λ k d low. absurd (omega (arith, low))) rise;
  have = λ m held. elim (Contains-cons_cases n [] m held) [ inl same ↦ inl same | inr later ↦ inr later ];
  here = (n, Contains-here n [], refl);
  kept = λ m held. absurd (Contains-nil m held);
}
put n (x ∷ xs) rise = by (slice_cmp nat_cmp n.path x.path) refl (put n xs (rest_rises Rises x xs rise))
  where
    by : (o : Ordering) → slice_cmp nat_cmp n.path x.path ≡ o → Put n xs → Put n (x ∷ xs)
    by Less e w = record {
      items = n ∷ x ∷ xs;
      rise = AllPairs-cons Rises n (x ∷ xs) (All-cons (Rises n) x xs e (All-from xs (Rises n) (λ y held. nat_list_cmp_total.trans n.path x.path y.path e (before_all Rises x xs rise y held)))) rise;
      have = λ m held. Contains-cons_cases n (x ∷ xs) m held;
      here = (n, Contains-here n (x ∷ xs), refl);
      kept = λ m held. Contains-there n m (x ∷ xs) held;
    }
    by Equal e w = record {
      items = x ∷ xs;
      rise = rise;
      have = λ m held. inr held;
      here = (x, Contains-here x xs, sym ((bytes_eq-Decides n.path x.path).0 (sym (is_eq-slice_cmp n.path x.path) ∙ ap is_eq e)));
      kept = λ m held. held;
    }
    by Greater e w =
        let above : Rises x n = nat_list_cmp_total.antisymm x.path n.path ∙ ap ordering_reverse e in
        record {
          items = x ∷ w.items;
          rise = AllPairs-cons Rises x w.items (All-from w.items (Rises x) (λ y held. elim (w.have y held) [
            | inl same ↦ subst (Rises x) (sym same) above
            | inr there ↦ before_all Rises x xs rise y there
          ])) w.rise;
          have = λ m held. elim (Contains-cons_cases x w.items m held) [
            | inl same ↦ inr (subst (Contains (x ∷ xs)) (sym same) (Contains-here x xs))
            | inr later ↦ elim (w.have m later) [ inl same ↦ inl same | inr there ↦ inr (Contains-there x m xs there) ]
          ];
          here = (w.here.0, Contains-there x w.here.0 w.items w.here.1, w.here.2);
          kept = λ m held. elim (Contains-cons_cases x xs m held) [
            | inl same ↦ subst (Contains (x ∷ w.items)) (sym same) (Contains-here x w.items)
            | inr later ↦ Contains-there x m w.items (w.kept m later)
          ];
        }

-- of a list's nodes one of each path
record InOrder (ns : List Node) : Type 0 where
  items : List Node
  rise : PathsRise items
  have : (n : Node) → Contains items n → Contains ns n
  all : (n : Node) → Contains ns n → (m : Node) × Contains items m × (m.path ≡ n.path)

in_order : (ns : List Node) → InOrder ns
in_order [] = record { items = []; rise = λ i j d below within. absurd (omega (arith, within)); have = λ n held. held; all = λ n held. absurd (Contains-nil n held) }
in_order (x ∷ xs) =
    let w = in_order xs in
    let p = put x w.items w.rise in
    record {
      items = p.items;
      rise = p.rise;
      have = λ n held. elim (p.have n held) [
        | inl same ↦ subst (Contains (x ∷ xs)) (sym same) (Contains-here x xs)
        | inr there ↦ Contains-there x n xs (w.have n there)
      ];
      all = λ n held. elim (Contains-cons_cases x xs n held) [
        | inl same ↦ (p.here.0, p.here.1, p.here.2 ∙ ap (λ (m : Node). m.path) (sym same))
        | inr later ↦ let m = w.all n later in (m.0, p.kept m.0 m.1, m.2)
      ];
    }

paths_in_order : (ns : List Node) → PathsRise ns → AllPairs IsBefore (map (λ (n : Node). n.path) ns)
paths_in_order [] rise = λ i j d below within. absurd (omega (arith, within))
paths_in_order (n ∷ ns) rise =
    AllPairs-cons IsBefore n.path (map (λ (m : Node). m.path) ns)
    (All-from (map (λ (m : Node). m.path) ns) (IsBefore n.path) (λ p held.
    let m = Contains-from_map (λ (m : Node). m.path) ns p held in
    subst (IsBefore n.path) (sym m.2) (before_all Rises n ns rise m.0 m.1)))
    (paths_in_order ns (rest_rises Rises n ns rise))

module _ (old new : Graph) (old_graph : IsGraph old) (new_graph : IsGraph new) (moves : List Move) where
  abbrev members : List Node
  members = old.nodes ++ new.nodes

  changed_there : (n : Node) → IsChanged old new n → Contains members n
  changed_there n (inl touched) = Contains-append_left old.nodes new.nodes n (Contains-at old.nodes touched.0 n touched.1)
  changed_there n (inr made) = Contains-append_right old.nodes new.nodes n made.there

  same_node : (g : Graph) → PathsRise g.nodes → (a b : Node) → Contains g.nodes a → Contains g.nodes b → a.path ≡ b.path → a ≡ b
  same_node g rise a b held held' same =
      let i = at_some_place g.nodes a held in
      let j = at_some_place g.nodes b held' in
      let place : i.0 ≡ j.0 = one_path g.nodes rise i.0 j.0 a b i.1 j.1 same in
      one_at g.nodes j.0 a b (subst (λ k. slice_get g.nodes k ≡ Some a) place i.1) j.1

  -- ---- groups

  -- of the nodes that are joined to one, one has a least path
  abbrev LeastOf : List Node → Node → Node → Type 0
  LeastOf xs n m = Joined old new moves n m × ((k : Node) → Contains xs k → Joined old new moves n k → ¬ IsBefore k.path m.path)

  least_of : (xs : List Node) (n : Node) → ¬ (¬ ((m : Node) × LeastOf xs n m))
  least_of [] n never = never (n, (itself, λ k held. absurd (Contains-nil k held)))
  least_of (x ∷ xs) n never =
      least_of xs n (λ w. not_not (Joined old new moves n x) (λ joined. not_not (IsBefore x.path w.0.path) (λ before. never (by w.0 w.1 joined before))))
    where
      by : (m : Node) → LeastOf xs n m → Joined old new moves n x ⊎ (¬ Joined old new moves n x) → IsBefore x.path m.path ⊎ (¬ IsBefore x.path m.path) → (m : Node) × LeastOf (x ∷ xs) n m
      by m (j, least) (inr apart) before = (
        m,
        (
          j,
          λ k held jk. elim (Contains-cons_cases x xs k held) [
            | inl same ↦ absurd (apart (subst (Joined old new moves n) same jk))
            | inr later ↦ least k later jk
          ],
        ),
      )
      by m (j, least) (inl jx) (inr behind) = (
        m,
        (
          j,
          λ k held jk below. elim (Contains-cons_cases x xs k held) [
            | inl same ↦ behind (subst (λ (z : Node). IsBefore z.path m.path) same below)
            | inr later ↦ least k later jk below
          ],
        ),
      )
      by m (j, least) (inl jx) (inl before) = (
        x,
        (
          jx,
          λ k held jk below. elim (Contains-cons_cases x xs k held) [
            | inl same ↦ irreflexive x.path (subst (λ (z : Node). IsBefore z.path x.path) same below)
            | inr later ↦ least k later jk (nat_list_cmp_total.trans k.path x.path m.path below before)
          ],
        ),
      )

  least_is : (n m : Node) → IsChanged old new n → LeastOf members n m → IsLeast old new moves m
  least_is n m changed (j, least) =
      let m_changed = joined_changed old new old_graph new_graph moves n m j changed in
      record {
        changed = m_changed;
        least = λ k jk. least k (changed_there k (joined_changed old new old_graph new_graph moves m k jk m_changed)) (then_joined old new old_graph new_graph moves n m k j jk);
      }

  pub groups_there : ¬ (¬ ((firsts : List (List ℕ)) × AreGroups old new moves firsts))
  groups_there never = some_part (IsLeast old new moves) members (λ chosen. from chosen.0 chosen.1 (in_order chosen.0))
    where
      from : (ls : List Node) → Selects (IsLeast old new moves) members ls → InOrder ls → ⊥
      from ls chosen o = of_each (λ n. IsChanged old new n → IsIn old new moves firsts n) members each (λ all. never (
        firsts,
        record {
          rise = paths_in_order o.items o.rise;
          are = λ first held.
              let n = Contains-from_map (λ (m : Node). m.path) o.items first held in
              (n.0, sym n.2, All-contains (IsLeast old new moves) ls n.0 (Selects-only (IsLeast old new moves) members ls chosen) (o.have n.0 n.1));
          all = λ n changed. all n (changed_there n changed) changed;
        },
      ))
        where
          firsts : List (List ℕ)
          firsts = map (λ (m : Node). m.path) o.items

          is_in : (n m : Node) → IsChanged old new n → LeastOf members n m → IsIn old new moves firsts n
          is_in n m changed w =
              let is = least_is n m changed w in
              let listed = Selects-has (IsLeast old new moves) members ls chosen m (changed_there m is.changed) is in
              let named = o.all m listed in (
                m.path,
                subst (Contains firsts) named.2 (Contains-map (λ (k : Node). k.path) o.items named.0 named.1),
                record { node = m; named = refl; least = is; joined = joined_back old new old_graph new_graph moves n m w.0 },
              )

          each : (n : Node) → Contains members n → ¬ (¬ (IsChanged old new n → IsIn old new moves firsts n))
          each n held none = not_not (IsChanged old new n) (λ which. elim which [
            | inr lacks ↦ none (λ changed. absurd (lacks changed))
            | inl changed ↦ least_of members n (λ w. none (λ _. is_in n w.0 changed w.1))
          ])

  -- ---- the stage after some groups

  module _ (firsts : List (List ℕ)) where
    abbrev After : Node → Type 0
    After = IsNodeAfter old new moves firsts old

    abbrev Linked : Node → ℕ → Node → ℕ → Type 0
    Linked = AreLinkedAfter old new moves firsts old

    after_there : (n : Node) → After n → Contains members n
    after_there n (inl w) = Contains-append_left old.nodes new.nodes n w.0
    after_there n (inr w) = Contains-append_right old.nodes new.nodes n w.1.there

    -- no two nodes of it have one path
    kept_and_made : (a b : Node) → Contains old.nodes a → ¬ (IsIn old new moves firsts a × IsRemoved old new a) → IsIn old new moves firsts b → IsCreated old new b → a.path ≡ b.path → ⊥
    kept_and_made a b there stays is_in made same =
        elim (tell_contained new.nodes a) [
          | inl after ↦ made.gone (subst (Contains old.nodes) (same_node new new_graph.paths_rise a b after made.there same) there)
          | inr gone ↦
              let lost : IsRemoved old new a = record { there = there; gone = gone } in
              stays (in_against old new old_graph new_graph moves firsts a b (replaced lost made same) is_in, lost)
        ]

    one_of_path : (a b : Node) → After a → After b → a.path ≡ b.path → a ≡ b
    one_of_path a b (inl v) (inl w) same = same_node old old_graph.paths_rise a b v.0 w.0 same
    one_of_path a b (inr v) (inr w) same = same_node new new_graph.paths_rise a b v.1.there w.1.there same
    one_of_path a b (inl v) (inr w) same = absurd (kept_and_made a b v.0 v.1 w.0 w.1 same)
    one_of_path a b (inr v) (inl w) same = absurd (kept_and_made b a w.0 w.1 v.0 v.1 (sym same))

    -- a requirement is linked to one provision
    one_end : (g : Graph) → IsGraph g → (from : Node) (r : ℕ) (to to' : Node) (x x' : ℕ) → AreConnected g from r to x → AreConnected g from r to' x' → (to ≡ to') × (x ≡ x')
    one_end g graph from r to to' x x' c c' =
        let a = linked_at g graph from r to x c in
        let b = linked_at g graph from r to' x' c' in
        let place : b.i ≡ a.i = one_place g.nodes graph.paths_rise b.i a.i from b.from_there a.from_there in
        let ends = same_Some _ _ (sym a.linked ∙ subst (λ i. IsLinked g i r b.j x') place b.linked) in
        let j_is : a.j ≡ b.j = ap (λ (t : Target). t.node) ends in
        (one_at g.nodes b.j to to' (subst (λ j. slice_get g.nodes j ≡ Some to) j_is a.to_there) b.to_there, ap (λ (t : Target). t.provide) ends)

    one_link : (from : Node) (r : ℕ) (to to' : Node) (x x' : ℕ) → Linked from r to x → Linked from r to' x' → (to ≡ to') × (x ≡ x')
    one_link from r to to' x x' (inl v) (inl w) = one_end new new_graph from r to to' x x' v.1 w.1
    one_link from r to to' x x' (inr v) (inr w) = one_end old old_graph from r to to' x x' v.1 w.1
    one_link from r to to' x x' (inl v) (inr w) = absurd (w.0 v.0)
    one_link from r to to' x x' (inr v) (inl w) = absurd (v.0 w.0)

    begins_within : (from : Node) (r : ℕ) (to : Node) (x : ℕ) → Linked from r to x → r < requires_of from
    begins_within from r to x (inl w) = (ends_within new new_graph from r to x w.1).0
    begins_within from r to x (inr w) = (ends_within old old_graph from r to x w.1).0

    module _ (nodes : List Node) (rise : PathsRise nodes) where
      -- a link of a graph, between places of the stage
      record Carried (g : Graph) (l k : Link) : Type 0 where
        from : Node
        to : Node
        from_was : slice_get g.nodes l.from ≡ Some from
        to_was : slice_get g.nodes l.to ≡ Some to
        from_is : slice_get nodes k.from ≡ Some from
        to_is : slice_get nodes k.to ≡ Some to
        require : k.require ≡ l.require
        provide : k.provide ≡ l.provide
        linked : Linked from k.require to k.provide

      one_carried : (g : Graph) (l k k' : Link) → Carried g l k → Carried g l k' → k ≡ k'
      one_carried g l k k' a b =
          let from : a.from ≡ b.from = one_at g.nodes l.from a.from b.from a.from_was b.from_was in
          let to : a.to ≡ b.to = one_at g.nodes l.to a.to b.to a.to_was b.to_was in
          let from_at : k.from ≡ k'.from = one_place nodes rise k.from k'.from b.from (subst (λ n. slice_get nodes k.from ≡ Some n) from a.from_is) b.from_is in
          let to_at : k.to ≡ k'.to = one_place nodes rise k.to k'.to b.to (subst (λ n. slice_get nodes k.to ≡ Some n) to a.to_is) b.to_is in
          λ n. record { from = from_at n; require = (a.require ∙ sym b.require) n; to = to_at n; provide = (a.provide ∙ sym b.provide) n }

      module _ (were : Related (Carried old) old.links) (are : Related (Carried new) new.links) where
        abbrev links : List Link
        links = were.items ++ are.items

        at_carried : (g : Graph) (l k : Link) → Carried g l k → AreLinkedAt Linked nodes k.from k.require k.to k.provide
        at_carried g l k c = record { from = c.from; to = c.to; from_there = c.from_is; to_there = c.to_is; linked = c.linked }

        listed_linked : (k : Link) → Contains links k → AreLinkedAt Linked nodes k.from k.require k.to k.provide
        listed_linked k held = elim (Contains-append_cases were.items are.items k held) [
          | inl h ↦ let w = were.have k h in at_carried old w.0 k w.2
          | inr h ↦ let w = are.have k h in at_carried new w.0 k w.2
        ]

        carried : (g : Graph) (all : Related (Carried g) g.links) (k : Link) (w : AreLinkedAt Linked nodes k.from k.require k.to k.provide) → AreConnected g w.from k.require w.to k.provide → Contains all.items k
        carried g all k w (l, held, made) =
            all.all l k held (record { from = w.from; to = w.to; from_was = made.from; to_was = made.to; from_is = w.from_there; to_is = w.to_there; require = sym made.require; provide = sym made.provide; linked = w.linked })

        linked_listed : (k : Link) → AreLinkedAt Linked nodes k.from k.require k.to k.provide → Contains links k
        linked_listed k w = elim w.linked [
          | inl c ↦ Contains-append_right were.items are.items k (carried new are k w c.1)
          | inr c ↦ Contains-append_left were.items are.items k (carried old were k w c.1)
        ]

        -- each link stands in the order of ports
        own : (k : Link) → Contains links k → Contains (in_port_order nodes links) k
        own k held =
            let w = listed_linked k held in
            let p : Port = record { node = k.from; require = k.require } in
            let begins = begins_within w.from k.require w.to k.provide w.linked in
            let inside : k.require < requires_at nodes k.from = subst (λ n. k.require < n) (sym (ap (λ o. option_map_or requires_of o 0) w.from_there)) begins in
            Contains-filter_map (λ (q : Port). link_at links q.node q.require) (ports nodes) (port_number nodes k.from k.require) p k (get-ports nodes k.from k.require inside)
            (find-only (begins_at k.from k.require) links k held (begins_here k.from k.require k refl refl) (same_at k held w))
          where
            same_at : (k : Link) → Contains links k → AreLinkedAt Linked nodes k.from k.require k.to k.provide → (l : Link) → Contains links l → begins_at k.from k.require l ≡ true → l ≡ k
            same_at k held w l held' begins =
                let v = listed_linked l held' in
                let here = begins_there k.from k.require l begins in
                let from : v.from ≡ w.from = one_at nodes k.from v.from w.from (subst (λ i. slice_get nodes i ≡ Some v.from) here.0 v.from_there) w.from_there in
                let ends = one_link w.from k.require v.to w.to l.provide k.provide (subst (λ (z : Node × ℕ). Linked z.0 z.1 v.to l.provide) (λ n. (from n, here.1 n)) v.linked) w.linked in
                let to_at : l.to ≡ k.to = one_place nodes rise l.to k.to w.to (subst (λ n. slice_get nodes l.to ≡ Some n) ends.0 v.to_there) w.to_there in
                λ n. record { from = here.0 n; require = here.1 n; to = to_at n; provide = ends.1 n }

        stage_of : ((n : Node) → Contains nodes n → After n) → ((n : Node) → After n → Contains nodes n) → IsAfter old new moves firsts old (graph_of nodes links)
        stage_of stand there = record {
          paths_rise = rise;
          nodes_are = λ n. (stand n, there n);
          links_are = λ i r j x. (
            λ linked. listed_linked (record { from = i; require = r; to = j; provide = x })
                (All-contains (Contains links) (in_port_order nodes links) (record { from = i; require = r; to = j; provide = x })
                (All-ordered links (Contains links) (All-contains_itself links) (ports nodes))
                ((linked_if_listed (graph_of nodes links) (in_port_order-twice nodes links) i r j x).0 linked)),
            λ w. (linked_if_listed (graph_of nodes links) (in_port_order-twice nodes links) i r j x).1
                (own (record { from = i; require = r; to = j; provide = x }) (linked_listed (record { from = i; require = r; to = j; provide = x }) w)),
          );
          in_order = in_port_order-twice nodes links;
        }

    pub stage_there : ¬ (¬ ((g : Graph) × IsAfter old new moves firsts old g))
    stage_there never = some_part After members (λ chosen. from chosen.0 chosen.1 (in_order chosen.0))
      where
        from : (ns : List Node) → Selects After members ns → InOrder ns → ⊥
        from ns chosen o =
            all_related (Carried o.items o.rise old) (one_carried o.items o.rise old) old.links (λ were.
            all_related (Carried o.items o.rise new) (one_carried o.items o.rise new) new.links (λ are.
            never (graph_of o.items (links o.items o.rise were are), stage_of o.items o.rise were are stand there)))
          where
            stand : (n : Node) → Contains o.items n → After n
            stand n held = All-contains After ns n (Selects-only After members ns chosen) (o.have n held)

            there : (n : Node) → After n → Contains o.items n
            there n after =
                let m = o.all n (Selects-has After members ns chosen n (after_there n after) after) in
                subst (Contains o.items) (one_of_path m.0 n (stand m.0 m.1) after m.2) m.1
