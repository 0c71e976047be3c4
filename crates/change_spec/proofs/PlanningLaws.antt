-- A plan that was computed is the plan, and there is one.
use Rattle.std.proofs.Common.{◌≡◌, ◌∙◌, ℕ, zero, suc, ◌<◌, Bool, true, false, not, ◌&&◌, ◌||◌, List, map, length, Option, Some, None, refl, sym, ap, subst, ⊎_elim, arith, Contains, Decides}
use Rattle.std.specs.Prelude.{◌==◌, Any, bytes_eq, nat_lt, option_map, slice_get, take}
use Rattle.std.specs.List.{list_all, list_any, range_with_len}
use Rattle.std.specs.Option.{option_map_or}
use Rattle.std.proofs.lemmas.Bool.{and_from, and_parts, both_ways, eqb-true, ltb-true, not-true, or_cases, or_left, or_right}
use Rattle.std.proofs.lemmas.Bool.Decides.{Decides-and, Decides-eqb, Decides-like, Decides-not, Decides-or}
use Rattle.std.proofs.lemmas.List.Folds.{list_any_at}
use Rattle.std.proofs.lemmas.List.Kept.{IsStrictlyIncreasing-filter}
use Rattle.std.proofs.lemmas.Option.{none-some, same_Some, slice_get_within}
use Rattle.std.proofs.lemmas.Slice.Eq.{bytes_eq-Decides}
use Rattle.base.proofs.ContainsLaws.{Contains-filter, Contains-flat_map, Contains-from_filter, Contains-map, any_if, any_of}
use Rattle.base.proofs.FindLaws.{find-some}
use Rattle.base.proofs.RangeLaws.{all_in_range, any_in_range, range_has, Contains-places}
use Rattle.config_graph.specs.Cycles.{depends_at, graph_wiring}
use Rattle.config_graph.specs.Graph.{Graph, begins_at, link_at, requires_at, target_of}
use Rattle.config_graph.specs.Wiring.{Reach}
use Rattle.config_graph.specs.Wiring.Reach.{direct, through}
use Rattle.config_graph.specs.declared.node.Link.{Link}
use Rattle.config_graph.specs.declared.node.Node.{Node}
use Rattle.config_graph.specs.declared.node.Port.{Port}
use Rattle.config_graph.specs.declared.node.Target.{Target}
use Rattle.config_graph.proofs.SameLaws.{kind_decides, node_decides}
use Rattle.change_plan.specs.Differences.{GoneLinks, GoneNodes, IsGone, IsKeptLink, IsSameLink, IsTwin}
use Rattle.change_plan.specs.Moves.{IsFit, IsGoneAt, IsShift, IsShifts, MayMove, MayMoveAll, MoveLeads}
use Rattle.change_plan.specs.Plans.{HasStepsBetween, IsPlanOf}
use Rattle.change_plan.specs.Touched.{Frozen, HasNewTarget, IsTouched, SameTarget}
use Rattle.change_plan.specs.declared.plan_data.Move.{Move}
use Rattle.change_plan.specs.declared.plan_data.Shift.{Shift}
use Rattle.change_spec.specs.Planning.{all_shifts, are_one, can_be_planned, gone_links, gone_nodes, have_one_kind, is_fit, is_fit_as, is_frozen, is_gone, is_gone_at, is_kept_link, is_lacking, is_led, is_node, is_relinked, is_relinked_as, is_same_link, is_same_target, is_shift, is_touched, is_twin, leads_elsewhere, leads_no_further, leads_to, leads_within, may_move, may_move_all, may_move_at, planned, rises, shifts, shifts_to}
use Rattle.change_spec.proofs.TestLaws.{range_rises, rise_if, selects_by}
use Rattle.base.proofs.ListLaws.{all_have}

-- nodes and links of both graphs

one_decides : (a b : Option Node) → Decides (are_one a b) ((n : Node) × (a ≡ Some n) × (b ≡ Some n))
one_decides (Some m) (Some n) = (
  λ e. (n, ap Some ((node_decides m n).0 e), refl),
  λ w. (node_decides m n).1 (same_Some m w.0 w.1 ∙ sym (same_Some n w.0 w.2)),
)
one_decides (Some m) None = (λ e. absurd (both_ways false refl e), λ w. absurd (none-some w.0 w.2))
one_decides None b = (λ e. absurd (both_ways false refl e), λ w. absurd (none-some w.0 w.1))

pub twin_decides : (g h : Graph) (i j : ℕ) → Decides (is_twin g h i j) (IsTwin g h i j)
twin_decides g h i j =
    Decides-like (is_twin g h i j) (λ w. record { node = w.0; here = w.1; there = w.2 }) (λ (t : IsTwin g h i j). (t.node, t.here, t.there))
    (one_decides (slice_get g.nodes i) (slice_get h.nodes j))

node_there : (m : Node) (nodes : List Node) → Decides (list_any (is_node m) nodes) (Contains nodes m)
node_there m nodes = (
  λ e. let w = any_of (is_node m) nodes e in subst (Contains nodes) (sym ((node_decides m w.0).0 w.2)) w.1,
  λ there. any_if (is_node m) nodes m there ((node_decides m m).1 refl),
)

lacking_decides : (h : Graph) (o : Option Node) → Decides (is_lacking h o) ((n : Node) × (o ≡ Some n) × (¬ Contains h.nodes n))
lacking_decides h (Some m) =
    let d = Decides-not (list_any (is_node m) h.nodes) (node_there m h.nodes) in
    (λ e. (m, refl, d.0 e), λ w. d.1 (λ there. w.2 (subst (Contains h.nodes) (same_Some m w.0 w.1) there)))
lacking_decides h None = (λ e. absurd (both_ways false refl e), λ w. absurd (none-some w.0 w.1))

pub gone_decides : (g h : Graph) (i : ℕ) → Decides (is_gone g h i) (IsGone g h i)
gone_decides g h i =
    Decides-like (is_gone g h i) (λ w. record { node = w.0; here = w.1; gone = w.2 }) (λ (t : IsGone g h i). (t.node, t.here, t.gone))
    (lacking_decides h (slice_get g.nodes i))

same_link_decides : (g h : Graph) (k l : Link) → Decides (is_same_link g h k l) (IsSameLink g h k l)
same_link_decides g h k l =
    Decides-like (is_same_link g h k l) (λ w. record { from = w.0; require = w.1.0; to = w.1.1.0; provide = w.1.1.1 })
    (λ (s : IsSameLink g h k l). (s.from, (s.require, (s.to, s.provide))))
    (Decides-and _ _ (twin_decides g h k.from l.from)
    (Decides-and _ _ (Decides-eqb k.require l.require) (Decides-and _ _ (twin_decides g h k.to l.to) (Decides-eqb k.provide l.provide))))

kept_link_decides : (g h : Graph) (k : Link) → Decides (is_kept_link g h k) (IsKeptLink g h k)
kept_link_decides g h k = (
  λ e. let w = any_of (is_same_link g h k) h.links e in (w.0, w.1, (same_link_decides g h k w.0).0 w.2),
  λ (w : IsKeptLink g h k). any_if (is_same_link g h k) h.links w.0 w.1 ((same_link_decides g h k w.0).1 w.2),
)

nodes_gone : (g h : Graph) → GoneNodes g h (gone_nodes g h)
nodes_gone g h = selects_by (IsGone g h) (is_gone g h) (gone_decides g h) (range_with_len 0 (length g.nodes))

links_gone : (g h : Graph) → GoneLinks g h (gone_links g h)
links_gone g h = selects_by (λ k. ¬ IsKeptLink g h k) (λ k. not (is_kept_link g h k)) (λ k. Decides-not (is_kept_link g h k) (kept_link_decides g h k)) g.links

-- touched nodes

same_target_decides : (g h : Graph) (a b : Option Target) → Decides (is_same_target g h a b) (SameTarget g h a b)
same_target_decides g h None None = (λ e. tt, λ s. refl)
same_target_decides g h None (Some u) = (λ e. absurd (both_ways false refl e), λ s. absurd s)
same_target_decides g h (Some t) None = (λ e. absurd (both_ways false refl e), λ s. absurd s)
same_target_decides g h (Some t) (Some u) = Decides-and _ _ (twin_decides g h t.node u.node) (Decides-eqb t.provide u.provide)

module _ (g h : Graph) (i : ℕ) where
  elsewhere_decides : (j r : ℕ) → Decides (leads_elsewhere g h i j r) (¬ SameTarget g h (target_of g.links i r) (target_of h.links j r))
  elsewhere_decides j r = Decides-not _ (same_target_decides g h (target_of g.links i r) (target_of h.links j r))

  relinked_decides : Decides (is_relinked g h i) (HasNewTarget g h i)
  relinked_decides = (found, shown)
    where
      found : is_relinked g h i ≡ true → HasNewTarget g h i
      found e =
          let w = any_in_range (is_relinked_as g h i) 0 (length h.nodes) e in
          let j = w.at in
          let both = and_parts (is_twin g h i j) (list_any (leads_elsewhere g h i j) (range_with_len 0 (requires_at g.nodes i))) w.passes in
          let v = any_in_range (leads_elsewhere g h i j) 0 (requires_at g.nodes i) both.1 in
          let low = v.below in
          record { twin = j; require = v.at; stays = (twin_decides g h i j).0 both.0; within = omega (arith, low); differs = (elsewhere_decides j v.at).0 v.passes }

      shown : HasNewTarget g h i → is_relinked g h i ≡ true
      shown w =
          let low = slice_get_within h.nodes w.twin w.stays.node w.stays.there in
          let within = w.within in
          range_has (is_relinked_as g h i) 0 (length h.nodes) w.twin (omega arith) (omega (arith, low))
          (and_from (is_twin g h i w.twin) _ ((twin_decides g h i w.twin).1 w.stays)
          (range_has (leads_elsewhere g h i w.twin) 0 (requires_at g.nodes i) w.require (omega arith) (omega (arith, within)) ((elsewhere_decides w.twin w.require).1 w.differs)))

  pub touched_decides : Decides (is_touched g h i) (IsTouched g h i)
  touched_decides = Decides-or _ _ (gone_decides g h i) relinked_decides

-- where ports lead

find_link : (g : Graph) (i r : ℕ) (t : Target) → target_of g.links i r ≡ Some t → (l : Link) × Contains g.links l × (l.from ≡ i) × (l.require ≡ r)
find_link g i r t e = by (link_at g.links i r) refl e
  where
    by : (o : Option Link) → link_at g.links i r ≡ o → option_map (λ (l : Link). record { node = l.to; provide = l.provide }) o ≡ Some t
        → (l : Link) × Contains g.links l × (l.from ≡ i) × (l.require ≡ r)
    by None h f = absurd (none-some t f)
    by (Some l) h f =
        let w = find-some (begins_at i r) g.links l h in
        let both = and_parts (l.from == i) (l.require == r) w.1 in
        (l, w.0, eqb-true l.from i both.0, eqb-true l.require r both.1)

module _ (g : Graph) (Set : ℕ → Type 0) (set : ℕ → Bool) (decides : (n : ℕ) → Decides (set n) (Set n)) where
  abbrev goes_on : ℕ → Target → Link → Bool
  goes_on k t l = l.from == t.node && (depends_at g.nodes t.node t.provide l.require && leads_within g set k t.node l.require)

  -- a way leads to a node of the set
  abbrev Leads : ℕ → ℕ → Type 0
  Leads i r = (n : ℕ) × Set n × Reach (graph_wiring g) n (record { node = i; require = r })

  leads_if : (k i r : ℕ) → leads_within g set k i r ≡ true → Leads i r
  leads_if zero i r e = absurd (both_ways false refl e)
  leads_if (suc k) i r e = by (λ j q. leads_if k j q) (target_of g.links i r) refl e
    where
      by : ((j q : ℕ) → leads_within g set k j q ≡ true → Leads j q) → (o : Option Target) → target_of g.links i r ≡ o → option_map_or (λ (t : Target). set t.node || list_any (goes_on k t) g.links) o false ≡ true → Leads i r
      by further None h f = absurd (both_ways false refl f)
      by further (Some t) h f = ⊎_elim
          (λ (here : set t.node ≡ true). (t.node, (decides t.node).0 here, direct {x = t.provide} h))
          (λ (later : list_any (goes_on k t) g.links ≡ true).
          let w = any_of (goes_on k t) g.links later in
          let l = w.0 in
          let both = (and_parts (l.from == t.node) (depends_at g.nodes t.node t.provide l.require && leads_within g set k t.node l.require) w.2).1 in
          let parts = and_parts (depends_at g.nodes t.node t.provide l.require) (leads_within g set k t.node l.require) both in
          let rest = further t.node l.require parts.1 in
          (rest.0, rest.1, through {p = record { node = t.node; require = l.require }} {m = t.node} {x = t.provide} rest.2 (refl, parts.0) h))
          (or_cases (set t.node) (list_any (goes_on k t) g.links) f)

  module _ (no_further : (l : Link) → Contains g.links l → leads_no_further g set l ≡ true) where
    abbrev leads : ℕ → ℕ → Bool
    leads i r = leads_to g set i r

    -- one link more leads to no new node
    no_more : (i r : ℕ) (t : Target) → target_of g.links i r ≡ Some t → leads_within g set (suc (length g.nodes)) i r ≡ true → leads i r ≡ true
    no_more i r t h e =
        let w = find_link g i r t h in
        let more_ : leads_within g set (suc (length g.nodes)) w.0.from w.0.require ≡ true =
        ap (λ j. leads_within g set (suc (length g.nodes)) j w.0.require) w.2 ∙ ap (λ q. leads_within g set (suc (length g.nodes)) i q) w.3 ∙ e in
        sym (ap (λ j. leads j w.0.require) w.2 ∙ ap (λ q. leads i q) w.3) ∙ by _ _ (no_further w.0 w.1) more_
      where
        by : (a b : Bool) → (not a || b) ≡ true → a ≡ true → b ≡ true
        by true b h e = h
        by false b h e = absurd (both_ways false refl e)

    starts_at : (k i r : ℕ) → leads_within g set k i r ≡ true → (t : Target) × (target_of g.links i r ≡ Some t)
    starts_at zero i r e = absurd (both_ways false refl e)
    starts_at (suc k) i r e = by (target_of g.links i r) refl e
      where
        by : (o : Option Target) → target_of g.links i r ≡ o → option_map_or (λ (t : Target). set t.node || list_any (goes_on k t) g.links) o false ≡ true
            → (t : Target) × (target_of g.links i r ≡ Some t)
        by None h f = absurd (both_ways false refl f)
        by (Some t) h f = (t, h)

    if_leads : (n : ℕ) → Set n → (p : Port) → Reach (graph_wiring g) n p → leads p.node p.require ≡ true
    if_leads n inside p (direct {x = x} linked) =
        no_more p.node p.require (record { node = n; provide = x }) linked
        (ap (λ o. option_map_or (λ (t : Target). set t.node || list_any (goes_on (length g.nodes) t) g.links) o false) linked ∙ or_left (set n) _ ((decides n).1 inside))
    if_leads n inside p (through {p = q} {m = m} {x = x} reached depends linked) =
        let before : leads q.node q.require ≡ true = if_leads n inside q reached in
        let there = starts_at (length g.nodes) q.node q.require before in
        let w = find_link g q.node q.require there.0 there.1 in
        let l = w.0 in
        let t : Target = record { node = m; provide = x } in
        let depends_so : depends_at g.nodes m x l.require ≡ true = ap (λ r. depends_at g.nodes m x r) w.3 ∙ depends.1 in
        let leads_so : leads m l.require ≡ true = ap (λ r. leads m r) w.3 ∙ subst (λ i. leads i q.require ≡ true) depends.0 before in
        let from : (l.from == m) ≡ true = (Decides-eqb l.from m).1 (w.2 ∙ depends.0) in
        no_more p.node p.require t linked
        (ap (λ o. option_map_or (λ (t : Target). set t.node || list_any (goes_on (length g.nodes) t) g.links) o false) linked
        ∙ or_right (set m) _ (any_if (goes_on (length g.nodes) t) g.links l w.1
        (and_from (l.from == m) _ from (and_from (depends_at g.nodes m x l.require) _ depends_so leads_so))))

    begins : (n : ℕ) (i r : ℕ) → Set n → Reach (graph_wiring g) n (record { node = i; require = r }) → (l : Link) × Contains g.links l × (l.from ≡ i) × (leads i l.require ≡ true)
    begins n i r inside reached =
        let e = if_leads n inside (record { node = i; require = r }) reached in
        let there = starts_at (length g.nodes) i r e in
        let w = find_link g i r there.0 there.1 in
        (w.0, w.1, w.2, ap (λ q. leads i q) w.3 ∙ e)

module _ (old new : Graph) (asked : List Move) (h : can_be_planned old new asked ≡ true) where
  conditions : (list_all (λ (l : Link). nat_lt l.from (length old.nodes)) old.links ≡ true)
      × ((list_all (leads_no_further old (is_touched old new)) old.links && rises (map (λ (s : Shift). s.new) (shifts old new asked))) ≡ true)
  conditions = and_parts _ _ (and_parts (may_move_all old new asked) _ h).1

  further_and_rise : (list_all (leads_no_further old (is_touched old new)) old.links ≡ true) × (rises (map (λ (s : Shift). s.new) (shifts old new asked)) ≡ true)
  further_and_rise = and_parts _ _ conditions.1

  frozen_decides : (i : ℕ) → Decides (is_frozen old new i) (Frozen old new i)
  frozen_decides i =
      Decides-or _ _ (touched_decides old new i) (
        λ e. let w = any_of (λ (l : Link). l.from == i && leads_to old (is_touched old new) i l.require) old.links e in
            let both = and_parts (w.0.from == i) (leads_to old (is_touched old new) i w.0.require) w.2 in
            let led = leads_if old (IsTouched old new) (is_touched old new) (touched_decides old new) (length old.nodes) i w.0.require both.1 in
            (led.0, w.0.require, led.1, led.2),
        λ (w : (n : ℕ) × (q : ℕ) × IsTouched old new n × Reach (graph_wiring old) n (record { node = i; require = q })).
            let b = begins old (IsTouched old new) (is_touched old new) (touched_decides old new)
            (all_have (leads_no_further old (is_touched old new)) old.links further_and_rise.0) w.0 i w.1 w.2 w.3 in
            any_if (λ (l : Link). l.from == i && leads_to old (is_touched old new) i l.require) old.links b.0 b.1
            (and_from (b.0.from == i) _ ((Decides-eqb b.0.from i).1 b.2) b.3),
      )

  frozen_there : (i : ℕ) → Frozen old new i → i < length old.nodes
  frozen_there i f = ⊎_elim
      (λ (t : IsTouched old new i). ⊎_elim
      (λ (g : IsGone old new i). slice_get_within old.nodes i g.node g.here)
      (λ (w : HasNewTarget old new i). slice_get_within old.nodes i w.stays.node w.stays.here) t)
      (λ (w : (n : ℕ) × (q : ℕ) × IsTouched old new n × Reach (graph_wiring old) n (record { node = i; require = q })).
      let b = begins old (IsTouched old new) (is_touched old new) (touched_decides old new)
      (all_have (leads_no_further old (is_touched old new)) old.links further_and_rise.0) w.0 i w.1 w.2 w.3 in
      let low : b.0.from < length old.nodes = ltb-true b.0.from (length old.nodes) (all_have (λ (l : Link). nat_lt l.from (length old.nodes)) old.links conditions.0 b.0 b.1) in
      subst (λ j. j < length old.nodes) b.2 low) f

  pub steps_between : HasStepsBetween old new (planned old new asked)
  steps_between = record {
    unlink = (gone_links old new, links_gone old new, refl);
    remove = nodes_gone old new;
    create = nodes_gone new old;
    link = links_gone new old;
    freeze = λ i. (
      λ there. (frozen_decides i).0 (Contains-from_filter (is_frozen old new) (range_with_len 0 (length old.nodes)) i there).1,
      λ f. Contains-filter (is_frozen old new) (range_with_len 0 (length old.nodes)) i (Contains-places (length old.nodes) i (frozen_there i f)) ((frozen_decides i).1 f),
    );
  }

-- moves

at_path : (o : Option Node) (path : List ℕ) (n : Node) → o ≡ Some n → option_map_or (λ (m : Node). bytes_eq m.path path) o false ≡ true → n.path ≡ path
at_path o path n is e = (bytes_eq-Decides n.path path).0 (sym (ap (λ p. option_map_or (λ (m : Node). bytes_eq m.path path) p false) is) ∙ e)

gone_at_decides : (g h : Graph) (path : List ℕ) (i : ℕ) → Decides (is_gone_at g h path i) (IsGoneAt g h path i)
gone_at_decides g h path i = (found, shown)
  where
    found : is_gone_at g h path i ≡ true → IsGoneAt g h path i
    found e =
        let both = and_parts (is_gone g h i) (option_map_or (λ (m : Node). bytes_eq m.path path) (slice_get g.nodes i) false) e in
        let w = (gone_decides g h i).0 both.0 in
        record { node = w.node; here = w.here; named = at_path (slice_get g.nodes i) path w.node w.here both.1; gone = w.gone }

    shown : IsGoneAt g h path i → is_gone_at g h path i ≡ true
    shown w =
        and_from (is_gone g h i) _ ((gone_decides g h i).1 (record { node = w.node; here = w.here; gone = w.gone }))
        (ap (λ p. option_map_or (λ (m : Node). bytes_eq m.path path) p false) w.here ∙ (bytes_eq-Decides w.node.path path).1 w.named)

pub led_decides : (old new : Graph) (s : Shift) (m : Move) → Decides (is_led old new s m) (MoveLeads old new m s.old s.new)
led_decides old new s m =
    Decides-like (is_led old new s m) (λ w. record { removed = w.0; created = w.1 }) (λ (l : MoveLeads old new m s.old s.new). (l.removed, l.created))
    (Decides-and _ _ (gone_at_decides old new m.from s.old) (gone_at_decides new old m.to s.new))

pub shift_decides : (old new : Graph) (moves : List Move) (s : Shift) → Decides (is_shift old new moves s) (IsShift old new moves s)
shift_decides old new moves s = (
  λ e. let w = any_of (is_led old new s) moves e in record { move = w.0; there = w.1; leads = (led_decides old new s w.0).0 w.2 },
  λ (w : IsShift old new moves s). any_if (is_led old new s) moves w.move w.there ((led_decides old new s w.move).1 w.leads),
)

module _ (old new : Graph) (asked : List Move) (h : rises (map (λ (s : Shift). s.new) (shifts old new asked)) ≡ true) where
  pub shifts_are : IsShifts old new asked (shifts old new asked)
  shifts_are = record {
    sound = λ s there. (shift_decides old new asked s).0 (Contains-from_filter (is_shift old new asked) (all_shifts old new) s there).1;
    complete = λ s is.
        let low = slice_get_within old.nodes s.old is.leads.removed.node is.leads.removed.here in
        let lower = slice_get_within new.nodes s.new is.leads.created.node is.leads.created.here in
        Contains-filter (is_shift old new asked) (all_shifts old new) s
        (Contains-flat_map (shifts_to old) (range_with_len 0 (length new.nodes)) s.new s (Contains-places (length new.nodes) s.new lower)
        (Contains-map (λ i. record { old = i; new = s.new }) (range_with_len 0 (length old.nodes)) s.old (Contains-places (length old.nodes) s.old low)))
        ((shift_decides old new asked s).1 is);
    rise = rise_if (map (λ (s : Shift). s.new) (shifts old new asked)) h;
  }

pub planned_so : (old new : Graph) (asked : List Move) → can_be_planned old new asked ≡ true → IsPlanOf old new asked (planned old new asked)
planned_so old new asked h =
    record {
      steps = steps_between old new asked h;
      moves = shifts_are old new asked (further_and_rise old new asked h).1;
      freeze_rises = IsStrictlyIncreasing-filter (is_frozen old new) (range_with_len 0 (length old.nodes)) (range_rises 0 (length old.nodes));
    }

-- moves that may be made

one_kind : (a b : Option Node) (m n : Node) → a ≡ Some m → b ≡ Some n → have_one_kind a b ≡ true → m.kind ≡ n.kind
one_kind a b m n is_m is_n h = (kind_decides m.kind n.kind).0 (sym (λ i. have_one_kind (is_m i) (is_n i)) ∙ h)

fit_if : (old new : Graph) (m : Move) → is_fit old new m ≡ true → IsFit old new m
fit_if old new m h =
    let w = any_of (is_fit_as old new m) (all_shifts old new) h in
    let both = and_parts (is_led old new w.0 m) (have_one_kind (slice_get old.nodes w.0.old) (slice_get new.nodes w.0.new)) w.2 in
    let leads = (led_decides old new w.0 m).0 both.0 in
    record {
      source = w.0.old;
      target = w.0.new;
      leads = leads;
      same_kind = one_kind (slice_get old.nodes w.0.old) (slice_get new.nodes w.0.new) leads.removed.node leads.created.node leads.removed.here leads.created.here both.1;
    }

other_end : (end : Move → List ℕ) (before : List Move) (path : List ℕ) → not (list_any (λ b. bytes_eq (end b) path) before) ≡ true → ¬ Any (λ b. end b ≡ path) before
other_end end before path h any =
    let test : Move → Bool = λ b. bytes_eq (end b) path in
    both_ways (list_any test before) (not-true (list_any test before) h)
    (list_any_at test before any.0 any.1 any.2 (ap test any.3 ∙ (bytes_eq-Decides (end any.1) path).1 any.4))

may_if : (old new : Graph) (before : List Move) (m : Move) → may_move old new before m ≡ true → MayMove old new before m
may_if old new before m h =
    let first = and_parts (is_fit old new m) _ h in
    let second = and_parts (not (list_any (λ (b : Move). bytes_eq b.from m.from) before)) (not (list_any (λ (b : Move). bytes_eq b.to m.to) before)) first.1 in
    record {
      fit = fit_if old new m first.0;
      other_source = other_end (λ b. b.from) before m.from second.0;
      other_target = other_end (λ b. b.to) before m.to second.1;
    }

pub moves_lead_so : (old new : Graph) (asked : List Move) → can_be_planned old new asked ≡ true → MayMoveAll old new asked (length asked)
moves_lead_so old new asked h k m low at =
    let passes = all_in_range (may_move_at old new asked) 0 (length asked) k (and_parts (may_move_all old new asked) _ h).0 (omega arith) (omega (arith, low)) in
    may_if old new (take k asked) m (sym (ap (λ o. option_map_or (may_move old new (take k asked)) o true) at) ∙ passes)
