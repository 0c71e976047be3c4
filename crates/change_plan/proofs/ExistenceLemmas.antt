-- There is a plan, or a refusal: each fault of a move can be told, and how much is wanted.
use Rattle.std.proofs.Common.{◌≡◌, ◌⊎◌, ℕ, zero, suc, ◌<◌, ◌≤◌, List, length, take, get_or, Some, None, slice_get, refl, sym, ◌∙◌, ap, subst, inl, inr, arith, Contains, sum_by}
use Rattle.std.specs.List.{range_with_len}
use Rattle.std.proofs.lemmas.Bool.Decides.{eqb_tells}
use Rattle.std.proofs.lemmas.Option.{none-some, slice_get_cases, slice_get-get_or}
use Rattle.std.proofs.lemmas.Slice.Eq.{bytes_eq-Decides}
use Rattle.config_graph.specs.Graph.{Graph, IsGraph, requires_at}
use Rattle.config_graph.specs.declared.node.Made.{Made}
use Rattle.config_graph.specs.declared.node.Node.{Node}
use Rattle.config_graph.proofs.TellLaws.{tell_contained}
use Rattle.change_plan.specs.Differences.{GoneNodes, IsGone}
use Rattle.change_plan.specs.Moves.{IsFit, IsPathGone, MayMove, MayMoveAll, MoveLeads, MovesFrom, MovesTo}
use Rattle.change_plan.specs.Refusals.{CanPlan, FirstMoveFault, IsRefusal, CreatesSoMany, MoveFault}
use Rattle.change_plan.specs.declared.error.PlanError.{PlanError}
use Rattle.change_plan.specs.declared.error.PlanError.TheVariants.{NotRemoved, NotCreated, KindsDiffer, MovedTwice}
use Rattle.change_plan.specs.declared.plan_data.Move.{Move}
use Rattle.change_plan.proofs.DifferenceLemmas.{one_node}
use Rattle.change_plan.proofs.NodeLaws.{one_path}
use Rattle.change_plan.proofs.RoomLaws.{room_or_fault}
use Rattle.change_plan.proofs.SelectsLaws.{those_told}
use Rattle.change_plan.proofs.DifferenceLaws.{tell_gone}
use Rattle.base.proofs.ContainsLaws.{Contains-at}
use Rattle.base.proofs.TellLaws.{any_or_none, told_by}
use Rattle.base.specs.Telling.{CanTell}
use Rattle.config_graph.proofs.SameLaws.{kind_decides}

tell_path_gone : (g h : Graph) → IsGraph g → (path : List ℕ) → CanTell (IsPathGone g h path)
tell_path_gone g h graph path =
    elim (any_or_none (λ (n : Node). n.path ≡ path) g.nodes (λ n there. told_by _ (bytes_eq-Decides n.path path))) [
      | inr none ↦ inr (λ lost. none lost.1.node (Contains-at g.nodes lost.0 lost.1.node lost.1.here) lost.1.named)
      | inl (n, there, named) ↦
          let at : slice_get g.nodes there.0 ≡ Some n = slice_get-get_or g.nodes there.0 n there.1 ∙ ap Some there.2 in
          elim (tell_contained h.nodes n) [
            | inr lost ↦ inl (there.0, record { node = n; here = at; named = named; gone = lost })
            | inl stays ↦ inr (λ lost.
                let place = one_path g.nodes graph.paths_rise there.0 lost.0 n lost.1.node at lost.1.here (named ∙ sym lost.1.named) in
                let node = one_node g.nodes lost.0 n lost.1.node (ap (slice_get g.nodes) (sym place) ∙ at) lost.1.here in
                lost.1.gone (subst (Contains h.nodes) node stays))
          ]
    ]

-- ---- moves

tell_from : (before : List Move) (path : List ℕ) → CanTell (MovesFrom before path)
tell_from before path =
    elim (any_or_none (λ (m : Move). m.from ≡ path) before (λ m there. told_by _ (bytes_eq-Decides m.from path))) [
      | inl (m, there, is) ↦ inl (there.0, m, there.1, there.2, is)
      | inr none ↦ inr (λ moves. none moves.1 (moves.0, moves.2, moves.3) moves.4)
    ]

tell_to : (before : List Move) (path : List ℕ) → CanTell (MovesTo before path)
tell_to before path =
    elim (any_or_none (λ (m : Move). m.to ≡ path) before (λ m there. told_by _ (bytes_eq-Decides m.to path))) [
      | inl (m, there, is) ↦ inl (there.0, m, there.1, there.2, is)
      | inr none ↦ inr (λ moves. none moves.1 (moves.0, moves.2, moves.3) moves.4)
    ]

module _ (old new : Graph) (old_graph : IsGraph old) (new_graph : IsGraph new) where
  move_or_fault : (before : List Move) (m : Move) → MayMove old new before m ⊎ ((e : PlanError) × MoveFault old new before m e)
  move_or_fault before m = by (tell_path_gone old new old_graph m.from) (tell_path_gone new old new_graph m.to)
    where
      by_others : IsFit old new m → CanTell (MovesFrom before m.from) → CanTell (MovesTo before m.to) → MayMove old new before m ⊎ ((e : PlanError) × MoveFault old new before m e)
      by_others fit (inl from) to = inr (MovedTwice m.from, (fit, inl (refl, from)))
      by_others fit (inr other) (inl to) = inr (MovedTwice m.to, (fit, inr (refl, other, to)))
      by_others fit (inr other) (inr also) = inl (record { fit = fit; other_source = other; other_target = also })

      by : CanTell (IsPathGone old new m.from) → CanTell (IsPathGone new old m.to) → MayMove old new before m ⊎ ((e : PlanError) × MoveFault old new before m e)
      by (inr missing) created = inr (NotRemoved m.from, (refl, missing))
      by (inl removed) (inr missing) = inr (NotCreated m.to, (refl, removed, missing))
      by (inl removed) (inl created) =
          let leads : MoveLeads old new m removed.0 created.0 = record { removed = removed.1; created = created.1 } in
          elim (told_by _ (kind_decides removed.1.node.kind created.1.node.kind)) [
            | inl same ↦ by_others (record { source = removed.0; target = created.0; leads = leads; same_kind = same }) (tell_from before m.from) (tell_to before m.to)
            | inr differ ↦ inr (KindsDiffer m.from m.to, (refl, refl, record { source = removed.0; target = created.0; leads = leads; differ = differ }))
          ]

  module _ (moves : List Move) where
    moves_or_fault : (count : ℕ) → MayMoveAll old new moves count ⊎ ((e : PlanError) × FirstMoveFault old new moves e)
    moves_or_fault zero = inl (λ k m low at. absurd (omega (arith, low)))
    moves_or_fault (suc count) = by (moves_or_fault count) (slice_get_cases moves count).1
      where
        one_more : (may : MayMoveAll old new moves count) → ((m : Move) → slice_get moves count ≡ Some m → MayMove old new (take count moves) m) → MayMoveAll old new moves (suc count)
        one_more may last k m low at =
            elim (eqb_tells k count) [
              | inl same ↦ subst (λ n. MayMove old new (take n moves) m) (sym same.1) (last m (ap (slice_get moves) (sym same.1) ∙ at))
              | inr other ↦ may k m (omega (arith, low, other.1)) at
            ]

        by :
            MayMoveAll old new moves count ⊎ ((e : PlanError) × FirstMoveFault old new moves e)
            → ((m : Move) × (count < length moves) × (slice_get moves count ≡ Some m) × (get_or moves count m ≡ m)) ⊎ ((length moves ≤ count) × (slice_get moves count ≡ None))
            → MayMoveAll old new moves (suc count) ⊎ ((e : PlanError) × FirstMoveFault old new moves e)
        by (inr fault) at = inr fault
        by (inl may) (inr (past, none)) = inl (one_more may (λ m at. absurd (none-some m (sym none ∙ at))))
        by (inl may) (inl (m, low, at, read)) =
            elim (move_or_fault (take count moves) m) [
              | inl last ↦ inl (one_more may (λ n at_n. let both : Some m ≡ Some n = sym at ∙ at_n in let same : m ≡ n = cc in subst (MayMove old new (take count moves)) same last))
              | inr (e, fault) ↦ inr (e, record { count = count; move = m; at = at; before = may; fault = fault })
            ]

module _ (old new : Graph) (old_graph : IsGraph old) (new_graph : IsGraph new) (moves : List Move) (made : Made) where
  created : (ys : List ℕ) × GoneNodes new old ys
  created = those_told (IsGone new old) (tell_gone new old) (range_with_len 0 (length new.nodes))

  nodes : ℕ
  nodes = length created.0

  ports : ℕ
  ports = sum_by (requires_at new.nodes) created.0

  wanted : CreatesSoMany old new nodes ports
  unfolding nodes ports
  wanted = record { created = created.0; gone = created.1; nodes_are = refl; ports_are = refl }

  pub plan_or_refusal : CanPlan old new moves made ⊎ ((e : PlanError) × IsRefusal old new moves made e)
  plan_or_refusal =
      elim (moves_or_fault old new old_graph new_graph moves (length moves)) [
        | inr (e, first) ↦ inr (e, inl first)
        | inl may ↦
            elim (room_or_fault made nodes ports) [
              | inl room ↦ inl (record { may_move = may; nodes = nodes; ports = ports; wanted = wanted; room = room })
              | inr (e, fault) ↦ inr (e, inr (may, (nodes, ports, wanted, fault)))
            ]
      ]
