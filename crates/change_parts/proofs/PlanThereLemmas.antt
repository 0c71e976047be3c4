-- That there is no plan between two stages can't be.
use Rattle.std.proofs.Common.{◌≡◌, ◌∙◌, ◌<◌, inl, inr, ℕ, List, [], ◌∷◌, Some, refl, ap, sym, subst, arith, length, map, Contains, slice_get}
use Rattle.std.specs.List.{range_with_len}
use Rattle.std.specs.List.Sorted.{IsStrictlyIncreasing}
use Rattle.std.proofs.lemmas.Bool.{cases_eq, cases_lt}
use Rattle.std.proofs.lemmas.List.Elements.{All-contains}
use Rattle.std.proofs.lemmas.Option.{slice_get_within}
use Rattle.base.proofs.ContainsLaws.{Contains-cons_cases, Contains-from_map, Contains-here, Contains-nil, Contains-there, at_some_place}
use Rattle.base.proofs.PlaceLaws.{one_at}
use Rattle.base.proofs.RangeLaws.{Contains-places}
use Rattle.config_graph.specs.Cycles.{IsLinked, graph_wiring}
use Rattle.config_graph.specs.Graph.{Graph, PathsRise}
use Rattle.config_graph.specs.Wiring.{Reach, direct, through}
use Rattle.config_graph.specs.declared.node.Port.{Port}
use Rattle.change_plan.specs.Differences.{IsGone, IsKeptLink, link_port}
use Rattle.change_plan.specs.Moves.{IsGoneAt, IsShift, IsShifts, MayMoveAll}
use Rattle.change_plan.specs.Plans.{IsPlanOf}
use Rattle.change_plan.specs.Selects.{Selects}
use Rattle.change_plan.specs.Touched.{Frozen, IsTouched}
use Rattle.change_plan.specs.declared.plan_data.Move.{Move}
use Rattle.change_plan.specs.declared.plan_data.Plan.{Plan}
use Rattle.change_plan.specs.declared.plan_data.Shift.{Shift}
use Rattle.change_plan.proofs.MoveLaws.{one_name}
use Rattle.change_plan.proofs.NodeLaws.{one_path}
use Rattle.change_plan.proofs.SelectsLaws.{Selects-has, Selects-only}
use Rattle.change_parts.proofs.MissingLemmas.{places_rise, some_part}
use Rattle.change_parts.proofs.MovingLemmas.{first_any}

module _ (g h : Graph) (g_rises : PathsRise g.nodes) (own : List Move) (may : MayMoveAll g h own (length own)) where
  -- two moves to one path are one
  not_again : (a b : Move) (j k : ℕ) → j < k → slice_get own j ≡ Some a → slice_get own k ≡ Some b → a.to ≡ b.to → ⊥
  not_again a b j k below at at' same =
      let low = slice_get_within own k b at' in
      (may k b low at').other_target (first_any (λ m. m.to ≡ b.to) own k (omega (arith, low)) j a below at same)

  one_to : (a b : Move) → Contains own a → Contains own b → a.to ≡ b.to → a ≡ b
  one_to a b held held' same =
      let j = at_some_place own a held in
      let k = at_some_place own b held' in
      elim (cases_eq j.0 k.0) [
        | inl here ↦ one_at own j.0 a b j.1 (subst (λ i. slice_get own i ≡ Some b) (sym here) k.1)
        | inr apart ↦ elim (cases_lt j.0 k.0) [
          | inl below ↦ absurd (not_again a b j.0 k.0 below j.1 k.1 same)
          | inr above ↦ absurd (not_again b a k.0 j.0 (omega (arith, apart, above)) k.1 j.1 (sym same))
        ]
      ]

  -- so one state goes to a node
  one_source : (s t : Shift) → IsShift g h own s → IsShift g h own t → s.new ≡ t.new → s ≡ t
  one_source s t a b same =
      let b_created = subst (λ i. IsGoneAt h g b.move.to i) (sym same) b.leads.created in
      let move : a.move ≡ b.move = one_to a.move b.move a.there b.there (one_name h g s.new a.move.to b.move.to a.leads.created b_created) in
      let source : s.old ≡ t.old = one_path g.nodes g_rises s.old t.old a.leads.removed.node b.leads.removed.node a.leads.removed.here b.leads.removed.here
      (a.leads.removed.named ∙ ap (λ (m : Move). m.from) move ∙ sym b.leads.removed.named) in
      λ n. record { old = source n; new = same n }

  abbrev Comes : ℕ → Type 0
  Comes j = (i : ℕ) × IsShift g h own (record { old = i; new = j })

  -- the moves to these nodes
  record Coming (js : List ℕ) : Type 0 where
    shifts : List Shift
    news : map (λ (s : Shift). s.new) shifts ≡ js
    are : (s : Shift) → Contains shifts s → IsShift g h own s

  coming : (js : List ℕ) → ((j : ℕ) → Contains js j → Comes j) → Coming js
  coming [] each = record { shifts = []; news = refl; are = λ s held. absurd (Contains-nil s held) }
  coming (j ∷ js) each =
      let first = each j (Contains-here j js) in
      let s : Shift = record { old = first.0; new = j } in
      let rest = coming js (λ k held. each k (Contains-there j k js held)) in
      record {
        shifts = s ∷ rest.shifts;
        news = ap (λ ks. j ∷ ks) rest.news;
        are = λ t held. elim (Contains-cons_cases s rest.shifts t held) [
          | inl same ↦ subst (IsShift g h own) (sym same) first.1
          | inr later ↦ rest.are t later
        ];
      }

  shifts_of : (js : List ℕ) → Selects Comes (range_with_len 0 (length h.nodes)) js → (ss : List Shift) × IsShifts g h own ss
  shifts_of js chosen = (c.shifts, record { sound = c.are; complete = complete; rise = subst IsStrictlyIncreasing (sym c.news) (places_rise Comes (length h.nodes) js chosen) })
    where
      c : Coming js
      c = coming js (λ j held. All-contains Comes js j (Selects-only Comes (range_with_len 0 (length h.nodes)) js chosen) held)

      complete : (s : Shift) → IsShift g h own s → Contains c.shifts s
      complete s is =
          let inside = slice_get_within h.nodes s.new is.leads.created.node is.leads.created.here in
          let listed : Contains js s.new = Selects-has Comes (range_with_len 0 (length h.nodes)) js chosen s.new (Contains-places (length h.nodes) s.new inside) (s.old, is) in
          let t = Contains-from_map (λ (u : Shift). u.new) c.shifts s.new (subst (λ ks. Contains ks s.new) (sym c.news) listed) in
          subst (Contains c.shifts) (one_source t.0 s (c.are t.0 t.1) is (sym t.2)) t.1

  -- what is frozen stands there
  module _ (begins : (i r j x : ℕ) → IsLinked g i r j x → i < length g.nodes) where
    touched_below : (i : ℕ) → IsTouched g h i → i < length g.nodes
    touched_below i (inl gone) = slice_get_within g.nodes i gone.node gone.here
    touched_below i (inr new_) = slice_get_within g.nodes i new_.stays.node new_.stays.here

    reach_below : (n : ℕ) (p : Port) → Reach (graph_wiring g) n p → p.node < length g.nodes
    reach_below n p (direct {x = x} linked) = begins p.node p.require n x linked
    reach_below n q (through {p = p} {m = m} {x = x} before depends linked) = begins q.node q.require m x linked

    frozen_below : (i : ℕ) → Frozen g h i → i < length g.nodes
    frozen_below i (inl touched) = touched_below i touched
    frozen_below i (inr (n, r, touched, reach)) = reach_below n (record { node = i; require = r }) reach

    pub plan_there : ¬ (¬ ((p : Plan) × IsPlanOf g h own p))
    plan_there never =
        some_part (λ k. ¬ IsKeptLink g h k) g.links (λ unlinked.
        some_part (λ k. ¬ IsKeptLink h g k) h.links (λ linked.
        some_part (IsGone g h) (range_with_len 0 (length g.nodes)) (λ removed.
        some_part (IsGone h g) (range_with_len 0 (length h.nodes)) (λ created.
        some_part Comes (range_with_len 0 (length h.nodes)) (λ news.
        some_part (Frozen g h) (range_with_len 0 (length g.nodes)) (λ frozen.
        let moves = shifts_of news.0 news.1 in
        let all = range_with_len 0 (length g.nodes) in
        never (
          record { freeze = frozen.0; unlink = map link_port unlinked.0; remove = removed.0; create = created.0; link = linked.0; moves = moves.0 },
          record {
            steps = record {
              unlink = (unlinked.0, unlinked.1, refl);
              remove = removed.1;
              create = created.1;
              link = linked.1;
              freeze = λ i. (
                λ held. All-contains (Frozen g h) frozen.0 i (Selects-only (Frozen g h) all frozen.0 frozen.1) held,
                λ is. Selects-has (Frozen g h) all frozen.0 frozen.1 i (Contains-places (length g.nodes) i (frozen_below i is)) is,
              );
            };
            moves = moves.1;
            freeze_rises = places_rise (Frozen g h) (length g.nodes) frozen.0 frozen.1;
          },
        )))))))
