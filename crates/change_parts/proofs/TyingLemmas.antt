-- Lemmas on the pairs of tied nodes: a plan, the paths of its nodes and the links of both graphs name them.
use Rattle.std.proofs.Common.{◌≡◌, ◌∙◌, ◌<◌, ℕ, Bool, true, false, List, Option, Some, None, refl, ap, sym, subst, inl, inr, length, get_or, Contains, slice_get, filter_map}
use Rattle.std.specs.List.{range_with_len}
use Rattle.std.specs.Prelude.{if◌then◌else◌}
use Rattle.std.proofs.lemmas.Bool.{cases_Bool, false≢true}
use Rattle.std.proofs.lemmas.List.Elements.{All-contains}
use Rattle.std.proofs.lemmas.Option.{get_or_from_slice_get, none-some, option_and_then_some, same_Some, slice_get-get_or, slice_get_within}
use Rattle.base.proofs.ContainsLaws.{Contains-at, Contains-filter_map, Contains-from_filter_map, at_some_place}
use Rattle.base.proofs.PlaceLaws.{one_at, slice_get-there}
use Rattle.config_graph.specs.Graph.{Graph, IsGraph, IsLinkWithin, index_of, provides_of, requires_of}
use Rattle.config_graph.specs.declared.node.Link.{Link}
use Rattle.config_graph.specs.declared.node.Node.{Node}
use Rattle.config_graph.proofs.NumberingLaws.{within_list}
use Rattle.change_plan.specs.Differences.{IsGone}
use Rattle.change_plan.specs.Plans.{IsPlanOf}
use Rattle.change_plan.specs.declared.plan_data.Move.{Move}
use Rattle.change_plan.specs.declared.plan_data.Plan.{Plan}
use Rattle.change_plan.specs.declared.plan_data.Shift.{Shift}
use Rattle.change_plan.proofs.NodeLaws.{index_found, one_path}
use Rattle.change_plan.proofs.SelectsLaws.{Selects-only}
use Rattle.change_plan.proofs.StepLaws.{gone_listed}
use Rattle.change_parts.specs.Ties.{AreConnected, IsCreated, IsRemoved, Tied}
use Rattle.change_parts.specs.Ties.Tied.{replaced, moved, unlinked, linked}
use Rattle.change_parts.specs.Listed.{link_tie, move_tie, pair_at, path_tie, ties_of}
use Rattle.change_parts.specs.Members.{AreNumbers, IsIndex, MarksNodes}
use Rattle.change_parts.specs.declared.members.Members.{Members}
use Rattle.change_parts.proofs.ChangedLemmas.{four_cases, in_first, in_fourth, in_second, in_third}
use Rattle.change_parts.proofs.MemberLemmas.{index_there, node_numbered, number_there}

-- ---- pairs of numbers

pair_is : (firsts seconds : List ℕ) (i j a b : ℕ) → pair_at firsts seconds i j ≡ Some (a, b) → (slice_get firsts i ≡ Some a) × (slice_get seconds j ≡ Some b)
pair_is firsts seconds i j a b e =
    option_and_then_some _ (slice_get firsts i) (a, b) e (λ x first e1.
    option_and_then_some _ (slice_get seconds j) (a, b) e1 (λ y second e2.
    let same : (x, y) ≡ (a, b) = same_Some (x, y) (a, b) e2 in
    (first ∙ ap (λ (w : ℕ × ℕ). Some w.0) same, second ∙ ap (λ (w : ℕ × ℕ). Some w.1) same)))

is_pair : (firsts seconds : List ℕ) (i j a b : ℕ) → slice_get firsts i ≡ Some a → slice_get seconds j ≡ Some b → pair_at firsts seconds i j ≡ Some (a, b)
is_pair firsts seconds i j a b first second = rw (first, second) refl

record LinkTie (numbers : List ℕ) (marks : List Bool) (l : Link) (a b : ℕ) : Type 0 where
  first : slice_get numbers l.from ≡ Some a
  second : slice_get numbers l.to ≡ Some b
  unmarked : slice_get marks b ≡ Some false

module _ (numbers : List ℕ) (marks : List Bool) (l : Link) (a b : ℕ) where
  link_tie_is : link_tie numbers marks l ≡ Some (a, b) → LinkTie numbers marks l a b
  link_tie_is e =
      option_and_then_some _ (slice_get numbers l.from) (a, b) e (λ x first e1.
      option_and_then_some _ (slice_get numbers l.to) (a, b) e1 (λ y second e2.
      option_and_then_some _ (slice_get marks y) (a, b) e2 (λ marked at e3. by marked x y first second at e3)))
    where
      by : (marked : Bool) (x y : ℕ) → slice_get numbers l.from ≡ Some x → slice_get numbers l.to ≡ Some y → slice_get marks y ≡ Some marked → if◌then◌else◌ {A = Option (ℕ × ℕ)} marked None (Some (x, y)) ≡ Some (a, b) → LinkTie numbers marks l a b
      by true x y first second at e = absurd (none-some (a, b) e)
      by false x y first second at e =
          let same : (x, y) ≡ (a, b) = same_Some (x, y) (a, b) e in
          record {
            first = first ∙ ap (λ (w : ℕ × ℕ). Some w.0) same;
            second = second ∙ ap (λ (w : ℕ × ℕ). Some w.1) same;
            unmarked = subst (λ z. slice_get marks z ≡ Some false) (ap (λ (w : ℕ × ℕ). w.1) same) at;
          }

  is_link_tie : slice_get numbers l.from ≡ Some a → slice_get numbers l.to ≡ Some b → slice_get marks b ≡ Some false → link_tie numbers marks l ≡ Some (a, b)
  is_link_tie first second unmarked = rw (first, second, unmarked) refl

-- ---- links of a graph that end at nodes that another one hasn't

module _ (g h : Graph) (graph : IsGraph g) (all : List Node) (once : (a b : ℕ) (n : Node) → slice_get all a ≡ Some n → slice_get all b ≡ Some n → a ≡ b)
    (numbers : List ℕ) (numbered : AreNumbers g.nodes all numbers) (marks : List Bool) (marked : MarksNodes h all marks) where
  -- the ends of one
  record Ends (m n : Node) : Type 0 where
    require : ℕ
    provide : ℕ
    connected : AreConnected g m require n provide
    lost : IsRemoved g h n

  ends_of : (a b : ℕ) (m n : Node) → slice_get all a ≡ Some m → slice_get all b ≡ Some n → Contains (filter_map (link_tie numbers marks) g.links) (a, b) → Ends m n
  ends_of a b m n at at' held =
      let w = Contains-from_filter_map (link_tie numbers marks) g.links (a, b) held in
      let l = w.0 in
      let t = link_tie_is numbers marks l a b w.2 in
      let inside = All-contains (IsLinkWithin g.nodes) g.links l graph.within w.1 in
      let u = slice_get-there g.nodes l.from (within_list requires_of g.nodes l.from l.require inside.begins) in
      let v = slice_get-there g.nodes l.to (within_list provides_of g.nodes l.to l.provide inside.ends) in
      let u_is : u.0 ≡ m = one_at all a u.0 m (node_numbered g.nodes all once numbers numbered l.from a u.0 u.1 t.first) at in
      let v_is : v.0 ≡ n = one_at all b v.0 n (node_numbered g.nodes all once numbers numbered l.to b v.0 v.1 t.second) at' in
      record {
        require = l.require;
        provide = l.provide;
        connected = (l, w.1, record { from = u.1 ∙ ap Some u_is; require = refl; to = v.1 ∙ ap Some v_is; provide = refl });
        lost = record {
          there = Contains-at g.nodes l.to n (v.1 ∙ ap Some v_is);
          gone = λ has. false≢true (sym (get_or_from_slice_get marks b false false t.unmarked) ∙ (marked.are b n at').1 has);
        };
      }

  is_tied : (a b : ℕ) (m n : Node) → slice_get all a ≡ Some m → slice_get all b ≡ Some n → (r x : ℕ) → AreConnected g m r n x → IsRemoved g h n → Contains (filter_map (link_tie numbers marks) g.links) (a, b)
  is_tied a b m n at at' r x (l, there, made) lost =
      let place = at_some_place g.links l there in
      Contains-filter_map (link_tie numbers marks) g.links place.0 l (a, b) place.1
      (is_link_tie numbers marks l a b (number_there g.nodes all once numbers numbered l.from a m made.from at) (number_there g.nodes all once numbers numbered l.to b n made.to at') unmarked)
    where
      here : slice_get marks b ≡ Some (get_or marks b false)
      here = slice_get-get_or marks b false (subst (λ k. b < k) (sym marked.long) (slice_get_within all b n at'))

      unmarked : slice_get marks b ≡ Some false
      unmarked = elim (cases_Bool (get_or marks b false)) [
        | inl is ↦ absurd (lost.gone ((marked.are b n at').0 is))
        | inr no_ ↦ here ∙ ap Some no_
      ]

-- ---- the pairs

module _ (old new : Graph) (old_graph : IsGraph old) (new_graph : IsGraph new) (moves : List Move) (p : Plan) (plan : IsPlanOf old new moves p) (m : Members) (index : IsIndex old new m) where
  abbrev all : List Node
  all = m.nodes.items

  abbrev by_path : List (ℕ × ℕ)
  by_path = filter_map (path_tie old new m) p.remove

  abbrev by_move : List (ℕ × ℕ)
  by_move = filter_map (move_tie m) p.moves

  abbrev by_old : List (ℕ × ℕ)
  by_old = filter_map (link_tie m.of_old.items m.in_new.items) old.links

  abbrev by_new : List (ℕ × ℕ)
  by_new = filter_map (link_tie m.of_new.items m.in_old.items) new.links

  old_number : (i k : ℕ) (n : Node) → slice_get old.nodes i ≡ Some n → slice_get all k ≡ Some n → slice_get m.of_old.items i ≡ Some k
  old_number = number_there old.nodes all index.members.once m.of_old.items index.of_old

  new_number : (i k : ℕ) (n : Node) → slice_get new.nodes i ≡ Some n → slice_get all k ≡ Some n → slice_get m.of_new.items i ≡ Some k
  new_number = number_there new.nodes all index.members.once m.of_new.items index.of_new

  old_node : (i k : ℕ) (n : Node) → slice_get old.nodes i ≡ Some n → slice_get m.of_old.items i ≡ Some k → slice_get all k ≡ Some n
  old_node = node_numbered old.nodes all index.members.once m.of_old.items index.of_old

  new_node : (i k : ℕ) (n : Node) → slice_get new.nodes i ≡ Some n → slice_get m.of_new.items i ≡ Some k → slice_get all k ≡ Some n
  new_node = node_numbered new.nodes all index.members.once m.of_new.items index.of_new

  module _ (a b : ℕ) (u v : Node) (at : slice_get all a ≡ Some u) (at' : slice_get all b ≡ Some v) where
    path_tied : Contains by_path (a, b) → Tied old new moves u v
    path_tied held =
        let w = Contains-from_filter_map (path_tie old new m) p.remove (a, b) held in
        let gone = All-contains (IsGone old new) p.remove w.0 (Selects-only (IsGone old new) (range_with_len 0 (length old.nodes)) p.remove plan.steps.remove) w.1 in
        option_and_then_some _ (slice_get old.nodes w.0) (a, b) w.2 (λ n n_at e1.
        option_and_then_some _ (index_of new.nodes n.path) (a, b) e1 (λ j found e2.
        let both = pair_is m.of_old.items m.of_new.items w.0 j a b e2 in
        by w.0 j n n_at found both.0 both.1 (subst (λ x. ¬ Contains new.nodes x) (one_at old.nodes w.0 gone.node n gone.here n_at) gone.gone)))
      where
        by : (i j : ℕ) (n : Node) → slice_get old.nodes i ≡ Some n → index_of new.nodes n.path ≡ Some j → slice_get m.of_old.items i ≡ Some a → slice_get m.of_new.items j ≡ Some b → ¬ Contains new.nodes n → Tied old new moves u v
        by i j n n_at found first second gone =
            let n_is : n ≡ u = one_at all a n u (old_node i a n n_at first) at in
            let f = index_found new.nodes n.path j n found in
            let other : slice_get new.nodes j ≡ Some (get_or new.nodes j n) = slice_get-get_or new.nodes j n f.0 in
            let other_is : get_or new.nodes j n ≡ v = one_at all b (get_or new.nodes j n) v (new_node j b (get_or new.nodes j n) other second) at' in
            let path : u.path ≡ v.path = ap (λ (x : Node). x.path) (sym n_is) ∙ f.1 ∙ ap (λ (x : Node). x.path) other_is in
            let here : slice_get old.nodes i ≡ Some u = n_at ∙ ap Some n_is in
            let there : slice_get new.nodes j ≡ Some v = other ∙ ap Some other_is in
            let lost : ¬ Contains new.nodes u = subst (λ x. ¬ Contains new.nodes x) n_is gone in
            replaced (record { there = Contains-at old.nodes i u here; gone = lost })
            (record {
              there = Contains-at new.nodes j v there;
              gone = λ was.
                  let k = at_some_place old.nodes v was in
                  let place : i ≡ k.0 = one_path old.nodes old_graph.paths_rise i k.0 u v here k.1 path in
                  let same : u ≡ v = one_at old.nodes k.0 u v (subst (λ q. slice_get old.nodes q ≡ Some u) place here) k.1 in
                  lost (subst (Contains new.nodes) (sym same) (Contains-at new.nodes j v there));
            }) path

    tied_path : IsRemoved old new u → IsCreated old new v → u.path ≡ v.path → Contains by_path (a, b)
    tied_path lost made same =
        let w = gone_listed old new p.remove plan.steps.remove u lost.there lost.gone in
        let q = at_some_place p.remove w.0 w.1 in
        let k = at_some_place new.nodes v made.there in
        Contains-filter_map (path_tie old new m) p.remove q.0 w.0 (a, b) q.1
        (rw (w.2, index_there new.nodes new_graph.paths_rise u.path k.0 v k.1 (sym same)) (is_pair m.of_old.items m.of_new.items w.0 k.0 a b (old_number w.0 a u w.2 at) (new_number k.0 b v k.1 at')))

    move_tied : Contains by_move (a, b) → Tied old new moves u v
    move_tied held =
        let w = Contains-from_filter_map (move_tie m) p.moves (a, b) held in
        let s = w.0 in
        let is = plan.moves.sound s w.1 in
        let both = pair_is m.of_old.items m.of_new.items s.old s.new a b w.2 in
        let source : is.leads.removed.node ≡ u = one_at all a is.leads.removed.node u (old_node s.old a is.leads.removed.node is.leads.removed.here both.0) at in
        let target : is.leads.created.node ≡ v = one_at all b is.leads.created.node v (new_node s.new b is.leads.created.node is.leads.created.here both.1) at' in
        moved is.move is.there
        (subst (IsRemoved old new) source (record { there = Contains-at old.nodes s.old is.leads.removed.node is.leads.removed.here; gone = is.leads.removed.gone }))
        (ap (λ (x : Node). x.path) (sym source) ∙ is.leads.removed.named)
        (subst (IsCreated old new) target (record { there = Contains-at new.nodes s.new is.leads.created.node is.leads.created.here; gone = is.leads.created.gone }))
        (ap (λ (x : Node). x.path) (sym target) ∙ is.leads.created.named)

    tied_move : (x : Move) → Contains moves x → IsRemoved old new u → u.path ≡ x.from → IsCreated old new v → v.path ≡ x.to → Contains by_move (a, b)
    tied_move x there lost from made to =
        let i = at_some_place old.nodes u lost.there in
        let j = at_some_place new.nodes v made.there in
        let s : Shift = record { old = i.0; new = j.0 } in
        let held = plan.moves.complete s (record {
          move = x;
          there = there;
          leads = record { removed = record { node = u; here = i.1; named = from; gone = lost.gone }; created = record { node = v; here = j.1; named = to; gone = made.gone } };
        }) in
        let q = at_some_place p.moves s held in
        Contains-filter_map (move_tie m) p.moves q.0 s (a, b) q.1 (is_pair m.of_old.items m.of_new.items i.0 j.0 a b (old_number i.0 a u i.1 at) (new_number j.0 b v j.1 at'))

    -- a pair is one of tied nodes
    pub listed_tied : Contains (ties_of old new p m) (a, b) → Tied old new moves u v
    listed_tied held =
        elim (four_cases by_path by_move by_old by_new (a, b) held) [
          | inl one ↦ path_tied one
          | inr (inl two) ↦ move_tied two
          | inr (inr (inl three)) ↦
              let w = ends_of old new old_graph all index.members.once m.of_old.items index.of_old m.in_new.items index.in_new a b u v at at' three in
              unlinked w.require w.provide w.connected w.lost
          | inr (inr (inr four)) ↦
              let w = ends_of new old new_graph all index.members.once m.of_new.items index.of_new m.in_old.items index.in_old a b u v at at' four in
              linked w.require w.provide w.connected w.lost
        ]

    -- and tied nodes are one of the pairs
    pub tied_listed : Tied old new moves u v → Contains (ties_of old new p m) (a, b)
    tied_listed (replaced lost made same) = in_first by_path by_move by_old by_new (a, b) (tied_path lost made same)
    tied_listed (moved x there lost from made to) = in_second by_path by_move by_old by_new (a, b) (tied_move x there lost from made to)
    tied_listed (unlinked r x c lost) = in_third by_path by_move by_old by_new (a, b) (is_tied old new old_graph all index.members.once m.of_old.items index.of_old m.in_new.items index.in_new a b u v at at' r x c lost)
    tied_listed (linked r x c made) = in_fourth by_path by_move by_old by_new (a, b) (is_tied new old new_graph all index.members.once m.of_new.items index.of_new m.in_old.items index.in_old a b u v at at' r x c made)

  -- the numbers of a pair are numbers of nodes
  pub tie_below : (tie : ℕ × ℕ) → Contains (ties_of old new p m) tie → (tie.0 < length all) × (tie.1 < length all)
  tie_below (a, b) held =
      elim (four_cases by_path by_move by_old by_new (a, b) held) [
        | inl one ↦
            let w = Contains-from_filter_map (path_tie old new m) p.remove (a, b) one in
            option_and_then_some _ (slice_get old.nodes w.0) (a, b) w.2 (λ n n_at e1.
            option_and_then_some _ (index_of new.nodes n.path) (a, b) e1 (λ j found e2.
            both_below w.0 j a b (pair_is m.of_old.items m.of_new.items w.0 j a b e2)))
        | inr (inl two) ↦
            let w = Contains-from_filter_map (move_tie m) p.moves (a, b) two in
            both_below w.0.old w.0.new a b (pair_is m.of_old.items m.of_new.items w.0.old w.0.new a b w.2)
        | inr (inr (inl three)) ↦
            let w = Contains-from_filter_map (link_tie m.of_old.items m.in_new.items) old.links (a, b) three in
            let t = link_tie_is m.of_old.items m.in_new.items w.0 a b w.2 in
            (old_below w.0.from a t.first, old_below w.0.to b t.second)
        | inr (inr (inr four)) ↦
            let w = Contains-from_filter_map (link_tie m.of_new.items m.in_old.items) new.links (a, b) four in
            let t = link_tie_is m.of_new.items m.in_old.items w.0 a b w.2 in
            (new_below w.0.from a t.first, new_below w.0.to b t.second)
      ]
    where
      old_below : (i k : ℕ) → slice_get m.of_old.items i ≡ Some k → k < length all
      old_below i k at =
          let n = slice_get-there old.nodes i (subst (λ q. i < q) index.of_old.long (slice_get_within m.of_old.items i k at)) in
          slice_get_within all k n.0 (old_node i k n.0 n.1 at)

      new_below : (i k : ℕ) → slice_get m.of_new.items i ≡ Some k → k < length all
      new_below i k at =
          let n = slice_get-there new.nodes i (subst (λ q. i < q) index.of_new.long (slice_get_within m.of_new.items i k at)) in
          slice_get_within all k n.0 (new_node i k n.0 n.1 at)

      both_below : (i j a b : ℕ) → (slice_get m.of_old.items i ≡ Some a) × (slice_get m.of_new.items j ≡ Some b) → (a < length all) × (b < length all)
      both_below i j a b w = (old_below i a w.0, new_below j b w.1)
