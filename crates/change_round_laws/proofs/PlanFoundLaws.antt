-- Each change of a sound script has a plan, which tests find: a way without a cycle has no more links than there are nodes, and no two
-- moves lead to one node.
use Rattle.std.proofs.Common.{◌≡◌, ◌∙◌, ℕ, zero, suc, ◌+◌, ◌<◌, ◌≤◌, Bool, true, false, not, ◌&&◌, ◌||◌, eqb, List, [], ◌∷◌, ◌++◌, filter, length, map, Option, Some, None, refl, sym, ap, subst, inl, inr, ⊎_elim, arith, Contains}
use Rattle.std.specs.Prelude.{◌==◌, ◌⊎◌, All, Any, bytes_eq, flat_map, is_some, nat_le, nat_lt, slice_get, take, if◌then◌else◌}
use Rattle.std.specs.List.{list_all, list_any, range_with_len}
use Rattle.std.specs.Option.{option_map_or}
use Rattle.std.proofs.lemmas.Bool.{and_from, and_parts, both_ways, cases_Bool, cases_eq, cases_lt, eq-eqb, eqb-true, false_from_ne_true, le-leb, leb-true, lt-ltb, or_cases, or_left, or_right}
use Rattle.std.proofs.lemmas.List.{get_or-take, length-take, map-append}
use Rattle.std.proofs.lemmas.List.Elements.{All-contains, filter-append}
use Rattle.std.proofs.lemmas.List.Folds.{Any-from_list_any}
use Rattle.std.proofs.lemmas.Option.{get_or_from_slice_get, slice_get_within}
use Rattle.std.proofs.lemmas.Slice.Eq.{bytes_eq-Decides}
use Rattle.base.proofs.ContainsLaws.{Contains-flat_map, Contains-map, at_some_place, any_if, any_of}
use Rattle.base.proofs.OptionLaws.{Some-from_is_some}
use Rattle.base.proofs.PlaceLaws.{one_at}
use Rattle.base.proofs.RangeLaws.{count_in, count_in-le, count_in_rises, range_all, Contains-places}
use Rattle.base.proofs.ListLaws.{list_all_if}
use Rattle.config_graph.specs.Cycles.{depends_at, graph_wiring}
use Rattle.config_graph.specs.Graph.{Graph, IsGraph, IsLinkWithin, provides_of, requires_of, target_of}
use Rattle.config_graph.specs.Walks.{step}
use Rattle.config_graph.specs.Wiring.{CallPath, HasNoCycle, MayCall}
use Rattle.config_graph.specs.declared.node.Link.{Link}
use Rattle.config_graph.specs.declared.node.Made.{Made}
use Rattle.config_graph.specs.declared.node.Node.{Node}
use Rattle.config_graph.specs.declared.node.Target.{Target}
use Rattle.config_graph.proofs.LinkLaws.{target_within}
use Rattle.config_graph.proofs.NumberingLaws.{within_list}
use Rattle.config_graph.proofs.SameLaws.{kind_decides}
use Rattle.config_graph.proofs.WalkLaws.{walk_then}
use Rattle.change_plan.specs.Moves.{IsFit, IsGoneAt, MayMove, MayMoveAll}
use Rattle.change_plan.specs.declared.plan_data.Move.{Move}
use Rattle.change_plan.specs.declared.plan_data.Shift.{Shift}
use Rattle.change_plan.proofs.MoveLaws.{one_gone, one_name}
use Rattle.change_spec.specs.Planning.{all_shifts, can_be_planned, have_one_kind, is_fit, is_fit_as, is_led, is_shift, is_touched, leads_no_further, leads_to, leads_within, may_move, may_move_all, may_move_at, planned, rises, shifts, shifts_to}
use Rattle.change_spec.specs.Statements.{Statement, start, change, run, finish, show}
use Rattle.change_spec.proofs.PlanningLaws.{led_decides, planned_so, shift_decides}
use Rattle.change_round_laws.specs.Existing.{HavePlans, HavePlansFrom}
use Rattle.change_round_laws.specs.SoundStatements.{AreSound, GoOnSoundly, IsSoundGraph}

module _ (g : Graph) where
  -- a way goes on by this link
  abbrev goes : (ℕ → ℕ → Bool) → Target → Link → Bool
  goes rest t l = l.from == t.node && (depends_at g.nodes t.node t.provide l.require && rest t.node l.require)

  -- a way of so many links more than one
  abbrev long : ℕ → ℕ → ℕ → Bool
  long zero i r = is_some (target_of g.links i r)
  long (suc k) i r = option_map_or (λ (t : Target). list_any (goes (λ j q. long k j q) t) g.links) (target_of g.links i r) false

  record GoesOn (rest : ℕ → ℕ → Bool) (t : Target) : Type 0 where
    link : Link
    there : Contains g.links link
    from : link.from ≡ t.node
    depends : depends_at g.nodes t.node t.provide link.require ≡ true
    further : rest t.node link.require ≡ true

  goes_on : (rest : ℕ → ℕ → Bool) (t : Target) → list_any (goes rest t) g.links ≡ true → GoesOn rest t
  goes_on rest t h =
      let w = any_of (goes rest t) g.links h in
      let first = and_parts (w.0.from == t.node) (depends_at g.nodes t.node t.provide w.0.require && rest t.node w.0.require) w.2 in
      let second = and_parts (depends_at g.nodes t.node t.provide w.0.require) (rest t.node w.0.require) first.1 in
      record { link = w.0; there = w.1; from = eqb-true w.0.from t.node first.0; depends = second.0; further = second.1 }

  goes_by : (rest : ℕ → ℕ → Bool) (t : Target) (w : GoesOn rest t) (other : ℕ → ℕ → Bool) → other t.node w.link.require ≡ true → list_any (goes other t) g.links ≡ true
  goes_by rest t w other h =
      any_if (goes other t) g.links w.link w.there
      (and_from (w.link.from == t.node) _ (eq-eqb w.link.from t.node w.from) (and_from (depends_at g.nodes t.node t.provide w.link.require) _ w.depends h))

  module _ (set : ℕ → Bool) where
    abbrev led : ℕ → Target → Bool
    led k t = set t.node || list_any (goes (λ j q. leads_within g set k j q) t) g.links

    -- what leads to the set by one link more does so by fewer, or its way is long
    shorter_or_long : (k i r : ℕ) → leads_within g set (suc k) i r ≡ true → (leads_within g set k i r ≡ true) ⊎ (long k i r ≡ true)
    shorter_or_long zero i r e = by (target_of g.links i r) refl e
      where
        by : (o : Option Target) → target_of g.links i r ≡ o → option_map_or (led zero) o false ≡ true → (false ≡ true) ⊎ (is_some (target_of g.links i r) ≡ true)
        by None h f = absurd (both_ways false refl f)
        by (Some t) h f = inr (ap is_some h)
    shorter_or_long (suc k) i r e = by (λ j q. shorter_or_long k j q) (target_of g.links i r) refl e
      where
        by : ((j q : ℕ) → leads_within g set (suc k) j q ≡ true → (leads_within g set k j q ≡ true) ⊎ (long k j q ≡ true)) → (o : Option Target) → target_of g.links i r ≡ o → option_map_or (led (suc k)) o false ≡ true
            → (option_map_or (led k) (target_of g.links i r) false ≡ true) ⊎ (option_map_or (λ (t : Target). list_any (goes (λ j q. long k j q) t) g.links) (target_of g.links i r) false ≡ true)
        by further None h f = absurd (both_ways false refl f)
        by further (Some t) h f = ⊎_elim
            (λ (here : set t.node ≡ true). inl (ap (λ o. option_map_or (led k) o false) h ∙ or_left (set t.node) _ here))
            (λ (later : list_any (goes (λ j q. leads_within g set (suc k) j q) t) g.links ≡ true).
            let w = goes_on (λ j q. leads_within g set (suc k) j q) t later in
            ⊎_elim
            (λ (fewer : leads_within g set k t.node w.link.require ≡ true).
            inl (ap (λ o. option_map_or (led k) o false) h ∙ or_right (set t.node) _ (goes_by (λ j q. leads_within g set (suc k) j q) t w (λ j q. leads_within g set k j q) fewer)))
            (λ (more_ : long k t.node w.link.require ≡ true).
            inr (ap (λ o. option_map_or (λ (x : Target). list_any (goes (λ j q. long k j q) x) g.links) o false) h
            ∙ goes_by (λ j q. leads_within g set (suc k) j q) t w (λ j q. long k j q) more_))
            (further t.node w.link.require w.further))
            (or_cases (set t.node) (list_any (goes (λ j q. leads_within g set (suc k) j q) t) g.links) f)

  module _ (within : All (IsLinkWithin g.nodes) g.links) where
    abbrev size : ℕ
    size = length g.nodes

    ends_within : (i r : ℕ) (t : Target) → target_of g.links i r ≡ Some t → t.node < size
    ends_within i r t h = within_list provides_of g.nodes t.node t.provide (target_within g.nodes g.links i r t within h)

    starts_at : (k i r : ℕ) → long k i r ≡ true → (t : Target) × (target_of g.links i r ≡ Some t)
    starts_at zero i r e = Some-from_is_some (target_of g.links i r) e
    starts_at (suc k) i r e = by (target_of g.links i r) refl e
      where
        by : (o : Option Target) → target_of g.links i r ≡ o → option_map_or (λ (t : Target). list_any (goes (λ j q. long k j q) t) g.links) o false ≡ true → (t : Target) × (target_of g.links i r ≡ Some t)
        by None h f = absurd (both_ways false refl f)
        by (Some t) h f = (t, h)

    abbrev and_this : (ℕ → Bool) → ℕ → ℕ → Bool
    and_this passed i v = passed v || eqb v i

    one_more : (passed : ℕ → Bool) (i r : ℕ) (t : Target) → target_of g.links i r ≡ Some t → passed t.node ≡ false → count_in passed 0 size < count_in (and_this passed t.node) 0 size
    one_more passed i r t leads new =
        count_in_rises passed (and_this passed t.node) 0 size t.node (λ v e. or_left (passed v) (eqb v t.node) e) (omega arith) (omega (arith, ends_within i r t leads)) new
        (or_right (passed t.node) (eqb t.node t.node) (eq-eqb t.node t.node refl))

    -- a way of more links than there are nodes comes back to a node that it passed
    comes_back : (passed : ℕ → Bool) (k i r : ℕ) (t : Target) → target_of g.links i r ≡ Some t → ((v : ℕ) → passed v ≡ true → CallPath (graph_wiring g) v t.node) → long k i r ≡ true
        → size ≤ count_in passed 0 size + k → (j : ℕ) × CallPath (graph_wiring g) j j
    comes_back passed zero i r t leads ways h many = ⊎_elim
        (λ (yes_ : passed t.node ≡ true). (t.node, ways t.node yes_))
        (λ (no_ : passed t.node ≡ false). absurd (omega (arith, one_more passed i r t leads no_, many, count_in-le (and_this passed t.node) 0 size)))
        (cases_Bool (passed t.node))
    comes_back passed (suc k) i r t leads ways h many = ⊎_elim
        (λ (yes_ : passed t.node ≡ true). (t.node, ways t.node yes_))
        (λ (no_ : passed t.node ≡ false).
        let w = goes_on (λ j q. long k j q) t (sym (ap (λ o. option_map_or (λ (x : Target). list_any (goes (λ j q. long k j q) x) g.links) o false) leads) ∙ h) in
        let on = starts_at k t.node w.link.require w.further in
        let calls : MayCall (graph_wiring g) t.node on.0.node = record {
          port = record { node = t.node; require = w.link.require };
          serves = t.provide;
          provide = on.0.provide;
          depends = (refl, w.depends);
          linked = on.1;
        } in
        comes_back (and_this passed t.node) k t.node w.link.require on.0 on.1
        (λ v e. ⊎_elim (λ (before : passed v ≡ true). walk_then (MayCall (graph_wiring g)) (ways v before) calls)
        (λ (here : eqb v t.node ≡ true). subst (λ u. CallPath (graph_wiring g) u on.0.node) (sym (eqb-true v t.node here)) (step calls)) (or_cases (passed v) (eqb v t.node) e))
        w.further (omega (arith, one_more passed i r t leads no_, many)))
        (cases_Bool (passed t.node))

    pub no_further : HasNoCycle (graph_wiring g) → (set : ℕ → Bool) (l : Link) → leads_no_further g set l ≡ true
    no_further acyclic set l = by (leads_within g set (suc size) l.from l.require) refl
      where
        by : (b : Bool) → leads_within g set (suc size) l.from l.require ≡ b → (not (leads_within g set (suc size) l.from l.require) || leads_to g set l.from l.require) ≡ true
        by false e = ap (λ b. not b || leads_to g set l.from l.require) e
        by true e = ⊎_elim
            (λ (short : leads_within g set size l.from l.require ≡ true). or_right (not (leads_within g set (suc size) l.from l.require)) _ short)
            (λ (more_ : long size l.from l.require ≡ true).
            let on = starts_at size l.from l.require more_ in
            let w = comes_back (λ _. false) size l.from l.require on.0 on.1 (λ v h. absurd (both_ways false refl h)) more_ (omega arith) in
            absurd (acyclic w.0 w.1))
            (shorter_or_long set size l.from l.require e)

-- moves that may be made pass the tests

has_shift : (old new : Graph) (i j : ℕ) (m n : Node) → slice_get old.nodes i ≡ Some m → slice_get new.nodes j ≡ Some n → Contains (all_shifts old new) (record { old = i; new = j })
has_shift old new i j m n here there =
    Contains-flat_map (shifts_to old) (range_with_len 0 (length new.nodes)) j (record { old = i; new = j }) (Contains-places (length new.nodes) j (slice_get_within new.nodes j n there))
    (Contains-map (λ k. record { old = k; new = j }) (range_with_len 0 (length old.nodes)) i (Contains-places (length old.nodes) i (slice_get_within old.nodes i m here)))

fit_so : (old new : Graph) (m : Move) → IsFit old new m → is_fit old new m ≡ true
fit_so old new m f =
    let gone = f.leads.removed in
    let made = f.leads.created in
    let s : Shift = record { old = f.source; new = f.target } in
    any_if (is_fit_as old new m) (all_shifts old new) s (has_shift old new f.source f.target gone.node made.node gone.here made.here)
    (and_from (is_led old new s m) _ ((led_decides old new s m).1 f.leads) ((λ i. have_one_kind (gone.here i) (made.here i)) ∙ (kind_decides gone.node.kind made.node.kind).1 f.same_kind))

no_end : (end : Move → List ℕ) (before : List Move) (path : List ℕ) → ¬ Any (λ b. end b ≡ path) before → not (list_any (λ b. bytes_eq (end b) path) before) ≡ true
no_end end before path none = by (list_any test before) refl
  where
    test : Move → Bool
    test b = bytes_eq (end b) path

    by : (b : Bool) → list_any test before ≡ b → not b ≡ true
    by false h = refl
    by true h = let w = Any-from_list_any test before h in absurd (none (w.0, w.1, w.2, w.3, (bytes_eq-Decides (end w.1) path).0 w.4))

may_so : (old new : Graph) (before : List Move) (m : Move) → MayMove old new before m → may_move old new before m ≡ true
may_so old new before m w =
    and_from (is_fit old new m) _ (fit_so old new m w.fit)
    (and_from (not (list_any (λ (b : Move). bytes_eq b.from m.from) before)) _ (no_end (λ b. b.from) before m.from w.other_source) (no_end (λ b. b.to) before m.to w.other_target))

all_may : (old new : Graph) (moves : List Move) → MayMoveAll old new moves (length moves) → may_move_all old new moves ≡ true
all_may old new moves may = range_all (may_move_at old new moves) 0 (length moves) (λ k l low. at k (slice_get moves k) refl)
  where
    at : (k : ℕ) (o : Option Move) → slice_get moves k ≡ o → option_map_or (may_move old new (take k moves)) o true ≡ true
    at k None is = refl
    at k (Some m) is = may_so old new (take k moves) m (may k m (slice_get_within moves k m is) is)

-- no two moves lead to one node

not_again : (old new : Graph) (moves : List Move) → MayMoveAll old new moves (length moves) → (k l : ℕ) (m n : Move) → k < l → slice_get moves k ≡ Some m → slice_get moves l ≡ Some n → m.to ≡ n.to → ⊥
not_again old new moves may k l m n low at_m at_n same =
    let inside = slice_get_within moves l n at_n in
    let before = slice_get_within moves k m at_m in
    let there : k < length (take l moves) = omega (arith, low, before, length-take l moves) in
    (may l n inside at_n).other_target (k, m, there, get_or-take l moves k m low ∙ get_or_from_slice_get moves k m m at_m, same)

one_move : (old new : Graph) (moves : List Move) → MayMoveAll old new moves (length moves) → (m n : Move) → Contains moves m → Contains moves n → m.to ≡ n.to → m ≡ n
one_move old new moves may m n m_there n_there same =
    let a = at_some_place moves m m_there in
    let b = at_some_place moves n n_there in
    ⊎_elim
    (λ (e : a.0 ≡ b.0). one_at moves b.0 m n (subst (λ k. slice_get moves k ≡ Some m) e a.1) b.1)
    (λ (apart : a.0 ≡ b.0 → ⊥). ⊎_elim
    (λ (low : a.0 < b.0). absurd (not_again old new moves may a.0 b.0 m n low a.1 b.1 same))
    (λ (high : b.0 ≤ a.0). let below : b.0 < a.0 = omega (arith, high, apart) in absurd (not_again old new moves may b.0 a.0 n m below b.1 a.1 (sym same))) (cases_lt a.0 b.0))
    (cases_eq a.0 b.0)

one_source : (old new : Graph) (moves : List Move) → IsGraph old → MayMoveAll old new moves (length moves) → (j a b : ℕ) → is_shift old new moves (record { old = a; new = j }) ≡ true
    → is_shift old new moves (record { old = b; new = j }) ≡ true → a ≡ b
one_source old new moves graph may j a b first second =
    let s = (shift_decides old new moves (record { old = a; new = j })).0 first in
    let t = (shift_decides old new moves (record { old = b; new = j })).0 second in
    let path = one_name new old j s.move.to t.move.to s.leads.created t.leads.created in
    let move = one_move old new moves may s.move t.move s.there t.there path in
    one_gone old new graph t.move.from a b (subst (λ (m : Move). IsGoneAt old new m.from a) move s.leads.removed) t.leads.removed

-- so the nodes to which they lead rise

module _ (p : Shift → Bool) (j : ℕ) where
  abbrev from : ℕ → Shift
  from i = record { old = i; new = j }

  none_led : (a n : ℕ) → ((i : ℕ) → a ≤ i → p (from i) ≡ false) → filter p (map from (range_with_len a n)) ≡ []
  none_led a zero h = refl
  none_led a (suc n) h = ap (λ b. if b then from a ∷ filter p (map from (range_with_len (a + 1) n)) else filter p (map from (range_with_len (a + 1) n))) (h a (omega arith)) ∙ none_led (a + 1) n (λ i l. h i (omega (arith, l)))

  -- one of them passes at most: nothing, or node j, is led to
  data LedTo (news : List ℕ) : Type 0 where
    nothing : news ≡ [] → LedTo news
    this : news ≡ j ∷ [] → LedTo news

  led_to : ((a b : ℕ) → p (from a) ≡ true → p (from b) ≡ true → a ≡ b) → (a n : ℕ) → LedTo (map (λ (s : Shift). s.new) (filter p (map from (range_with_len a n))))
  led_to one a zero = nothing refl
  led_to one a (suc n) = by (p (from a)) refl (led_to one (a + 1) n)
    where
      rest : List Shift
      rest = filter p (map from (range_with_len (a + 1) n))

      by : (b : Bool) → p (from a) ≡ b → LedTo (map (λ (s : Shift). s.new) rest) → LedTo (map (λ (s : Shift). s.new) (if b then from a ∷ rest else rest))
      by false e later = later
      by true e later =
          this (ap (λ ss. j ∷ map (λ (s : Shift). s.new) ss)
          (none_led (a + 1) n (λ i l. false_from_ne_true (p (from i)) (λ h. let same = one a i e h in omega (arith, same, l)))))

-- numbers that rise from one on
abbrev rises_from : ℕ → List ℕ → Bool
rises_from a [] = true
rises_from a (x ∷ xs) = nat_le a x && rises (x ∷ xs)

from_lower : (a : ℕ) (xs : List ℕ) → rises_from (a + 1) xs ≡ true → rises_from a xs ≡ true
from_lower a [] h = refl
from_lower a (x ∷ xs) h =
    let w = and_parts (nat_le (a + 1) x) (rises (x ∷ xs)) h in
    let low = leb-true (a + 1) x w.0 in
    and_from (nat_le a x) _ (le-leb a x (omega (arith, low))) w.1

from_this : (a : ℕ) (xs : List ℕ) → rises_from (a + 1) xs ≡ true → rises_from a (a ∷ xs) ≡ true
from_this a [] h = and_from (nat_le a a) true (le-leb a a (omega arith)) refl
from_this a (x ∷ xs) h =
    let w = and_parts (nat_le (a + 1) x) (rises (x ∷ xs)) h in
    let low = leb-true (a + 1) x w.0 in
    and_from (nat_le a a) _ (le-leb a a (omega arith)) (and_from (nat_lt a x) _ (lt-ltb a x (omega (arith, low))) w.1)

rises_so : (a : ℕ) (xs : List ℕ) → rises_from a xs ≡ true → rises xs ≡ true
rises_so a [] h = refl
rises_so a (x ∷ xs) h = (and_parts (nat_le a x) (rises (x ∷ xs)) h).1

shifts_rise : (old new : Graph) (moves : List Move) → IsGraph old → MayMoveAll old new moves (length moves) → (a n : ℕ)
    → rises_from a (map (λ (s : Shift). s.new) (filter (is_shift old new moves) (flat_map (shifts_to old) (range_with_len a n)))) ≡ true
shifts_rise old new moves graph may a zero = refl
shifts_rise old new moves graph may a (suc n) =
    let p = is_shift old new moves in
    let news : List Shift → List ℕ = map (λ (s : Shift). s.new) in
    let later = flat_map (shifts_to old) (range_with_len (a + 1) n) in
    let parts : news (filter p (shifts_to old a ++ later)) ≡ news (filter p (shifts_to old a)) ++ news (filter p later) =
    ap news (filter-append p (shifts_to old a) later) ∙ map-append (λ (s : Shift). s.new) (filter p (shifts_to old a)) (filter p later) in
    let rest = shifts_rise old new moves graph may (a + 1) n in
    ap (rises_from a) parts ∙ by (news (filter p (shifts_to old a))) (news (filter p later)) (led_to p a (λ i k. one_source old new moves graph may a i k) 0 (length old.nodes)) rest
  where
    by : (own later : List ℕ) → LedTo (is_shift old new moves) a own → rises_from (a + 1) later ≡ true → rises_from a (own ++ later) ≡ true
    by own later (LedTo.nothing is) h = ap (λ xs. rises_from a (xs ++ later)) is ∙ from_lower a later h
    by own later (LedTo.this is) h = ap (λ xs. rises_from a (xs ++ later)) is ∙ from_this a later h

-- the tests find the plan
pub plans_are_found : (old new : Graph) (moves : List Move) → IsGraph old → HasNoCycle (graph_wiring old) → MayMoveAll old new moves (length moves) → can_be_planned old new moves ≡ true
plans_are_found old new moves graph acyclic may =
    and_from (may_move_all old new moves) _ (all_may old new moves may)
    (and_from (list_all (λ (l : Link). nat_lt l.from (length old.nodes)) old.links) _ (list_all_if (λ (l : Link). nat_lt l.from (length old.nodes)) old.links begins)
    (and_from (list_all (leads_no_further old (is_touched old new)) old.links) _
    (list_all_if (leads_no_further old (is_touched old new)) old.links (λ l there. no_further old graph.within acyclic (is_touched old new) l))
    (rises_so 0 (map (λ (s : Shift). s.new) (shifts old new moves)) (shifts_rise old new moves graph may 0 (length new.nodes)))))
  where
    begins : (l : Link) → Contains old.links l → nat_lt l.from (length old.nodes) ≡ true
    begins l there =
        lt-ltb l.from (length old.nodes) (within_list requires_of old.nodes l.from l.require (All-contains (IsLinkWithin old.nodes) old.links l graph.within there).begins)

-- so each change of a sound script has one

plans_from : (rest : List Statement) (g : Graph) (made : Made) → IsSoundGraph g → GoOnSoundly rest g made → HavePlansFrom g rest
plans_from [] g made sound says = tt
plans_from (start name args new ∷ rest) g made sound says = absurd says
plans_from (change name args new within moves ∷ rest) g made sound says = (
  (planned g new moves, planned_so g new moves (plans_are_found g new moves sound.is_graph sound.sound.no_cycle says.can_plan.may_move)),
  plans_from rest new _ says.graph says.below,
)
plans_from (run k ∷ rest) g made sound says = plans_from rest g made sound says
plans_from (finish n ∷ rest) g made sound says = plans_from rest g made sound says
plans_from (show ∷ rest) g made sound says = plans_from rest g made sound says

pub have_plans : (statements : List Statement) → AreSound statements → HavePlans statements
have_plans (start name args g ∷ rest) says = plans_from rest g _ says.graph says.below
have_plans [] says = absurd says
have_plans (change name args g within moves ∷ rest) says = absurd says
have_plans (run k ∷ rest) says = absurd says
have_plans (finish n ∷ rest) says = absurd says
have_plans (show ∷ rest) says = absurd says
