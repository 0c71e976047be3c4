-- Lemmas that tie classes of numbers to the groups of a change: the numbers are the places of the nodes of both graphs.
use Rattle.std.proofs.Common.{take, false, leb, ◌≡◌, ◌∙◌, ◌≤◌, ◌<◌, ◌+◌, ℕ, zero, suc, List, [], ◌∷◌, Option, Some, option_map, length, get_or, refl, ap, sym, subst, inl, inr, arith, Contains, slice_get, filter_map}
use Rattle.std.specs.List.{cons_option, range_with_len}
use Rattle.std.specs.Prelude.{AllPairs}
use Rattle.std.proofs.lemmas.List.Elements.{All-contains}
use Rattle.std.proofs.lemmas.Bool.{cases_eq, cases_lt}
use Rattle.std.proofs.lemmas.List.FromFn.{get_or-range_with_len, length-range_with_len}
use Rattle.std.proofs.lemmas.List.Kept.{AllPairs-cons}
use Rattle.std.proofs.lemmas.Option.{none-some, same_Some, slice_get_within}
use Rattle.base.proofs.ContainsLaws.{Contains-here, Contains-there, Contains-at, Contains-filter_map, Contains-from_filter_map, at_some_place}
use Rattle.base.proofs.MapLaws.{All-filter_map}
use Rattle.base.proofs.PlaceLaws.{one_at, slice_get-there, slice_get-take, slice_get-from_take}
use Rattle.base.proofs.RangeLaws.{Contains-places}
use Rattle.config_graph.specs.Graph.{Graph, IsGraph}
use Rattle.config_graph.specs.declared.node.Node.{Node}
use Rattle.config_graph.proofs.PathLaws.{irreflexive}
use Rattle.change_plan.specs.Selects.{Selects}
use Rattle.change_plan.specs.Selects.Selects.{ends, takes, skips}
use Rattle.change_plan.specs.declared.plan_data.Move.{Move}
use Rattle.change_plan.proofs.SelectsLaws.{Selects-has, Selects-only, Selects-part}
use Rattle.change_parts.specs.Groups.{AreGroups, IsBefore, IsIn, IsLeast}
use Rattle.change_parts.specs.Ties.{IsChanged, Joined, Tied}
use Rattle.change_parts.specs.Ties.Joined.{itself as alone, along as forth, against as back}
use Rattle.change_parts.specs.Ties.Tied.{replaced}
use Rattle.change_parts.proofs.TieLaws.{joined_back, joined_changed, one_group, tied_changed}
use Rattle.config_graph.specs.Marks.{IsMarked}
use Rattle.change_parts.proofs.PairLemmas.{pairs_at, pairs_selected}
use Rattle.std.proofs.lemmas.Bool.{le-leb, leb-true}
use Rattle.std.proofs.lemmas.List.{get_or-map, length-map}
use Rattle.change_parts.specs.Members.{AreMembers}
use Rattle.change_parts.specs.Staging.{IsApplied}
use Rattle.change_parts.specs.Groupings.{applied_up_to}
use Rattle.change_parts.proofs.MemberLemmas.{before_if, replaced_alike}
use Rattle.change_parts.specs.Classes.{AreClasses, Chain}
use Rattle.change_parts.specs.Classes.Chain.{itself, along, against}

-- what is given of each element
filter_map_all : {A B : Type 0} (f : A → Option B) (xs : List A) → ((x : A) → Contains xs x → (b : B) × (f x ≡ Some b))
    → (length (filter_map f xs) ≡ length xs) × ((i : ℕ) (x : A) (b : B) → slice_get xs i ≡ Some x → f x ≡ Some b → slice_get (filter_map f xs) i ≡ Some b)
filter_map_all f [] each = (refl, λ i x b at is. absurd (none-some x at))
filter_map_all {A = A} {B = B} f (x ∷ xs) each =
    let w = each x (Contains-here x xs) in
    let rest = filter_map_all f xs (λ y held. each y (Contains-there x y xs held)) in
    (ap (λ o. length (cons_option o (filter_map f xs))) w.1 ∙ ap suc rest.0, λ i y b at is. subst (λ o. slice_get (cons_option o (filter_map f xs)) i ≡ Some b) (sym w.1) (by w.0 w.1 rest.1 i y b at is))
  where
    by : (a : B) → f x ≡ Some a → ((i : ℕ) (y : A) (b : B) → slice_get xs i ≡ Some y → f y ≡ Some b → slice_get (filter_map f xs) i ≡ Some b)
        → (i : ℕ) (y : A) (b : B) → slice_get (x ∷ xs) i ≡ Some y → f y ≡ Some b → slice_get (a ∷ filter_map f xs) i ≡ Some b
    by a is_a rest zero y b at is = sym is_a ∙ ap f (same_Some x y at) ∙ is
    by a is_a rest (suc i) y b at is = rest i y b at is

range_order : (n : ℕ) → AllPairs (λ (i j : ℕ). i < j) (range_with_len 0 n)
range_order n i j d below within =
    let inside : j < n = subst (λ m. j < m) (length-range_with_len 0 n) within in
    let a = get_or-range_with_len 0 n i d (omega (arith, below, inside)) in
    let b = get_or-range_with_len 0 n j d inside in
    omega (arith, a, b, below)

module _ (old new : Graph) (old_graph : IsGraph old) (new_graph : IsGraph new) (moves : List Move) (nodes : List Node) (members : AreMembers old new nodes)
    (ties : List (ℕ × ℕ)) (least : List ℕ) (classes : AreClasses ties least) (long : length least ≡ length nodes)
    (tie_is : (a b : ℕ) (m n : Node) → slice_get nodes a ≡ Some m → slice_get nodes b ≡ Some n → Contains ties (a, b) → Tied old new moves m n)
    (is_tie : (a b : ℕ) (m n : Node) → slice_get nodes a ≡ Some m → slice_get nodes b ≡ Some n → Tied old new moves m n → Contains ties (a, b)) where
  node_there : (a : ℕ) → a < length least → (n : Node) × (slice_get nodes a ≡ Some n)
  node_there a low = slice_get-there nodes a (subst (λ k. a < k) long low)

  in_least : (a : ℕ) (n : Node) → slice_get nodes a ≡ Some n → a < length least
  in_least a n at = subst (λ k. a < k) (sym long) (slice_get_within nodes a n at)

  -- a chain of numbers is a chain of nodes
  chain_joined : (a b : ℕ) (m n : Node) → slice_get nodes a ≡ Some m → slice_get nodes b ≡ Some n → Chain ties a b → Joined old new moves m n
  chain_joined a _ m n at at' itself = subst (Joined old new moves m) (one_at nodes a m n at at') alone
  chain_joined a b m n at at' (along {b = d} t rest) =
      let x = node_there d (classes.within a d t).1 in
      forth (tie_is a d m x.0 at x.1 t) (chain_joined d b x.0 n x.1 at' rest)
  chain_joined a b m n at at' (against {b = d} t rest) =
      let x = node_there d (classes.within d a t).0 in
      back (tie_is d a x.0 m x.1 at t) (chain_joined d b x.0 n x.1 at' rest)

  changed_there : (n : Node) → IsChanged old new n → (a : ℕ) × (slice_get nodes a ≡ Some n)
  changed_there n (inl touched) = at_some_place nodes n (members.all n (inl (Contains-at old.nodes touched.0 n touched.1)))
  changed_there n (inr made) = at_some_place nodes n (members.all n (inr made.there))

  joined_chain : (a b : ℕ) (m n : Node) → slice_get nodes a ≡ Some m → slice_get nodes b ≡ Some n → Joined old new moves m n → Chain ties a b
  joined_chain a b m _ at at' alone = subst (Chain ties a) (members.once a b m at at') itself
  joined_chain a b m n at at' (forth {b = x} t rest) =
      let d = changed_there x (tied_changed old new old_graph new_graph moves m x t).1 in
      along (is_tie a d.0 m x at d.1 t) (joined_chain d.0 b x n d.1 at' rest)
  joined_chain a b m n at at' (back {b = x} t rest) =
      let d = changed_there x (tied_changed old new old_graph new_graph moves x m t).0 in
      against (is_tie d.0 a x m d.1 at t) (joined_chain d.0 b x n d.1 at' rest)

  -- a changed node at the least number of its class
  pub record Leads (k : ℕ) : Type 0 where
    pub node : Node
    pub there : slice_get nodes k ≡ Some node
    pub changed : IsChanged old new node
    pub least_is : get_or least k 0 ≡ k

  leads_least : (k : ℕ) (w : Leads k) → IsLeast old new moves w.node
  leads_least k w = record {
    changed = w.changed;
    least = λ m joined before.
        let b = changed_there m (joined_changed old new old_graph new_graph moves w.node m joined w.changed) in
        let same = classes.same k b.0 (in_least k w.node w.there) (in_least b.0 m b.1) (joined_chain k b.0 w.node m w.there b.1 joined) in
        let below = classes.below b.0 (in_least b.0 m b.1) in
        elim (cases_eq k b.0) [
          | inl here ↦ irreflexive m.path (subst (λ x. IsBefore m.path x.path) (one_at nodes b.0 w.node m (subst (λ i. slice_get nodes i ≡ Some w.node) here w.there) b.1) before)
          | inr apart ↦ members.ordered k b.0 w.node m (omega (arith, w.least_is, same, below, apart)) w.there b.1 before
        ];
  }

  -- leaders at two places have paths in order
  leads_rise : (k l : ℕ) (v : Leads k) (w : Leads l) → k < l → IsBefore v.node.path w.node.path
  leads_rise k l v w below = before_if v.node.path w.node.path (members.ordered k l v.node w.node below v.there w.there) apart
    where
      not_joined : ¬ Joined old new moves v.node w.node
      not_joined joined =
          let same = classes.same k l (in_least k v.node v.there) (in_least l w.node w.there) (joined_chain k l v.node w.node v.there w.there joined) in
          omega (arith, sym v.least_is ∙ same ∙ w.least_is, below)

      apart : ¬ (v.node.path ≡ w.node.path)
      apart same =
          elim (replaced_alike old new old_graph new_graph nodes members k l v.node w.node (λ e. omega (arith, e, below)) v.there w.there same) [
            | inl e ↦ not_joined (forth (replaced e.0 e.1 same) alone)
            | inr e ↦ not_joined (back (replaced e.0 e.1 (sym same)) alone)
          ]

  -- each changed node has one
  leader : (n : Node) → IsChanged old new n → (k : ℕ) × (w : Leads k) × Joined old new moves w.node n
  leader n changed =
      let b = changed_there n changed in
      let b_in = in_least b.0 n b.1 in
      let k = get_or least b.0 0 in
      let chain = classes.joined b.0 b_in in
      let k_in : k < length least = omega (arith, classes.below b.0 b_in, b_in) in
      let x = node_there k k_in in
      let joined = chain_joined k b.0 x.0 n x.1 b.1 chain in
      (k, record { node = x.0; there = x.1; changed = joined_changed old new old_graph new_graph moves n x.0 (joined_back old new old_graph new_graph moves x.0 n joined) changed; least_is = classes.same k b.0 k_in b_in chain }, joined)

  abbrev path_at : ℕ → Option (List ℕ)
  path_at k = option_map (λ (n : Node). n.path) (slice_get nodes k)

  -- the paths of leaders rise with their places
  paths_rise : (n a : ℕ) (fs : List ℕ) → Selects Leads (range_with_len a n) fs → AllPairs IsBefore (filter_map path_at fs)
  paths_rise zero a _ ends = λ i j d below low. absurd (omega (arith, low))
  paths_rise (suc n) a _ (skips {ys = fs} lacks s) = paths_rise n (a + 1) fs s
  paths_rise (suc n) a _ (takes {ys = fs} v s) =
      subst (λ o. AllPairs IsBefore (cons_option o (filter_map path_at fs))) (sym (ap (option_map (λ (n : Node). n.path)) v.there))
      (AllPairs-cons IsBefore v.node.path (filter_map path_at fs) (All-filter_map path_at (IsBefore v.node.path) fs after) (paths_rise n (a + 1) fs s))
    where
      after : (i l : ℕ) (q : List ℕ) → slice_get fs i ≡ Some l → path_at l ≡ Some q → IsBefore v.node.path q
      after i l q at found =
          let held = Contains-at fs i l at in
          let w = All-contains Leads fs l (Selects-only Leads (range_with_len (a + 1) n) fs s) held in
          let r = Selects-part Leads (range_with_len (a + 1) n) fs s l held in
          let place = sym (get_or-range_with_len (a + 1) n r.0 l (subst (λ m. r.0 < m) (length-range_with_len (a + 1) n) r.1)) ∙ r.2 in
          let path_is : w.node.path ≡ q = same_Some w.node.path q (sym (ap (option_map (λ (n : Node). n.path)) w.there) ∙ found) in
          subst (IsBefore v.node.path) path_is (leads_rise a l v w (omega (arith, place)))

  module _ (fs : List ℕ) (selected : Selects Leads (range_with_len 0 (length nodes)) fs) where
    abbrev pub firsts : List (List ℕ)
    firsts = filter_map path_at fs

    pub firsts_groups : AreGroups old new moves firsts
    firsts_groups = record {
      rise = paths_rise (length nodes) 0 fs selected;
      are = λ p held.
          let w = Contains-from_filter_map path_at fs p held in
          let v = All-contains Leads fs w.0 (Selects-only Leads (range_with_len 0 (length nodes)) fs selected) w.1 in
          (v.node, same_Some v.node.path p (sym (ap (option_map (λ (n : Node). n.path)) v.there) ∙ w.2), leads_least w.0 v);
      all = λ n changed.
          let w = leader n changed in
          let k = w.0 in
          let held = Selects-has Leads (range_with_len 0 (length nodes)) fs selected k (Contains-places (length nodes) k (slice_get_within nodes k w.1.node w.1.there)) w.1 in
          let place = at_some_place fs k held in
          (w.1.node.path, Contains-filter_map path_at fs place.0 k w.1.node.path place.1 (ap (option_map (λ (n : Node). n.path)) w.1.there), record { node = w.1.node; named = refl; least = leads_least k w.1; joined = w.2 });
    }

    path_there : (k : ℕ) → Contains fs k → (w : Leads k) × (path_at k ≡ Some w.node.path)
    path_there k held = let w = All-contains Leads fs k (Selects-only Leads (range_with_len 0 (length nodes)) fs selected) held in (w, ap (option_map (λ (n : Node). n.path)) w.there)

    pub as_many : length firsts ≡ length fs
    as_many = (filter_map_all path_at fs (λ k held. let w = path_there k held in (w.0.node.path, w.1))).0

    first_at : (i k : ℕ) (p : List ℕ) → slice_get fs i ≡ Some k → path_at k ≡ Some p → slice_get firsts i ≡ Some p
    first_at = (filter_map_all path_at fs (λ k held. let w = path_there k held in (w.0.node.path, w.1))).1

    places_order : AllPairs (λ (i j : ℕ). i < j) fs
    places_order = pairs_selected (λ i j. i < j) Leads (range_with_len 0 (length nodes)) fs selected (range_order (length nodes))

    at_first : (i : ℕ) (p : List ℕ) → slice_get firsts i ≡ Some p → (k : ℕ) × (slice_get fs i ≡ Some k) × (w : Leads k) × (w.node.path ≡ p)
    at_first i p at =
        let k = slice_get-there fs i (subst (λ n. i < n) as_many (slice_get_within firsts i p at)) in
        let w = path_there k.0 (Contains-at fs i k.0 k.1) in
        (k.0, k.1, w.0, one_at firsts i w.0.node.path p (first_at i k.0 w.0.node.path k.1 w.1) at)

    -- leaders of one path are one
    one_leader : (k l : ℕ) (v : Leads k) (w : Leads l) → v.node.path ≡ w.node.path → k ≡ l
    one_leader k l v w same =
        elim (cases_lt k l) [
          | inl below ↦ absurd (irreflexive w.node.path (subst (λ p. IsBefore p w.node.path) same (leads_rise k l v w below)))
          | inr above ↦ elim (cases_lt l k) [
            | inl below ↦ absurd (irreflexive w.node.path (subst (IsBefore w.node.path) same (leads_rise l k w v below)))
            | inr also ↦ omega (arith, above, also)
          ]
        ]

    -- the first so many groups have the nodes whose least number is at most that of the last of them
    pub first_groups : (c last : ℕ) → slice_get fs c ≡ Some last → IsApplied old new moves (take (c + 1) firsts) nodes (applied_up_to least last)
    unfolding leader
    first_groups c last last_at = record {
      long = length-map least (λ k. leb k last) ∙ long;
      are = λ k n at changed. (to k n at changed, from k n at changed);
    }
      where
        least_of : (k : ℕ) (n : Node) → slice_get nodes k ≡ Some n → (changed : IsChanged old new n) → get_or least k 0 ≡ (leader n changed).0
        least_of k n at changed =
            let b = changed_there n changed in
            ap (λ i. get_or least i 0) (members.once k b.0 n at b.1)

        read : (k : ℕ) (n : Node) → slice_get nodes k ≡ Some n → get_or (applied_up_to least last) k false ≡ leb (get_or least k 0) last
        read k n at = get_or-map (λ i. leb i last) least k 0 false (in_least k n at)

        to : (k : ℕ) (n : Node) → slice_get nodes k ≡ Some n → IsChanged old new n → IsMarked (applied_up_to least last) k → IsIn old new moves (take (c + 1) firsts) n
        to k n at changed marked =
            let w = leader n changed in
            let low : w.0 ≤ last = subst (λ i. i ≤ last) (least_of k n at changed) (leb-true (get_or least k 0) last (sym (read k n at) ∙ marked)) in
            let held = Selects-has Leads (range_with_len 0 (length nodes)) fs selected w.0 (Contains-places (length nodes) w.0 (slice_get_within nodes w.0 w.1.node w.1.there)) w.1 in
            let i = at_some_place fs w.0 held in
            let first = first_at i.0 w.0 w.1.node.path i.1 (ap (option_map (λ (m : Node). m.path)) w.1.there) in
            (w.1.node.path, taken_has i.0 w.1.node.path (before i.0 w.0 i.1 low) first, record { node = w.1.node; named = refl; least = leads_least w.0 w.1; joined = w.2 })
          where
            before : (i l : ℕ) → slice_get fs i ≡ Some l → l ≤ last → i < c + 1
            before i l l_at low =
                elim (cases_lt i (c + 1)) [
                  | inl inside ↦ inside
                  | inr past ↦ let over = pairs_at (λ (x y : ℕ). x < y) fs places_order c i last l (omega (arith, past)) last_at l_at in absurd (omega (arith, over, low))
                ]

            taken_has : (i : ℕ) (p : List ℕ) → i < c + 1 → slice_get firsts i ≡ Some p → Contains (take (c + 1) firsts) p
            taken_has i p inside first = Contains-at (take (c + 1) firsts) i p (slice_get-take firsts (c + 1) i p inside first)

        from : (k : ℕ) (n : Node) → slice_get nodes k ≡ Some n → IsChanged old new n → IsIn old new moves (take (c + 1) firsts) n → IsMarked (applied_up_to least last) k
        from k n at changed (p, held, g) =
            let i = at_some_place (take (c + 1) firsts) p held in
            let f = slice_get-from_take firsts (c + 1) i.0 p i.1 in
            let l = at_first i.0 p f.1 in
            let w = leader n changed in
            let path : p ≡ w.1.node.path = one_group old new old_graph new_graph moves p w.1.node.path n g (record { node = w.1.node; named = refl; least = leads_least w.0 w.1; joined = w.2 }) in
            let same : l.0 ≡ w.0 = one_leader l.0 w.0 l.2 w.1 (l.3 ∙ path) in
            let low : l.0 ≤ last = up_to i.0 l.0 f.0 l.1 in
            read k n at ∙ le-leb (get_or least k 0) last (subst (λ j. j ≤ last) (same ∙ sym (least_of k n at changed)) low)
          where
            up_to : (i l : ℕ) → i < c + 1 → slice_get fs i ≡ Some l → l ≤ last
            up_to i l inside l_at =
                elim (cases_lt i c) [
                  | inl below ↦ let over = pairs_at (λ (x y : ℕ). x < y) fs places_order i c l last below l_at last_at in omega (arith, over)
                  | inr here ↦ let same : l ≡ last = one_at fs c l last (subst (λ j. slice_get fs j ≡ Some l) (omega (arith, inside, here)) l_at) last_at in omega (arith, same)
                ]
