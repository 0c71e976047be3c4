-- Moves that may be made: each leads to one node of its kind, and no node stands in two of them.
use Rattle.std.proofs.Common.{◌≡◌, ℕ, ◌<◌, List, length, take, get_or, Some, slice_get, sym, ◌∙◌, ap, subst, inl, inr, arith, All, Any, Contains}
use Rattle.std.proofs.lemmas.Bool.{cases_eq, cases_lt}
use Rattle.std.proofs.lemmas.List.Elements.{Contains-get_or}
use Rattle.std.proofs.lemmas.List.{get_or-take, length-take}
use Rattle.std.proofs.lemmas.Option.{get_or_from_slice_get, slice_get_within, slice_get-get_or}
use Rattle.config_graph.specs.Graph.{Graph, IsGraph}
use Rattle.config_graph.specs.declared.node.Node.{Node}
use Rattle.change_plan.specs.Moves.{IsGoneAt, IsOfOneKind, IsShift, IsShifts, MayMove, MayMoveAll}
use Rattle.change_plan.specs.declared.plan_data.Move.{Move}
use Rattle.change_plan.specs.declared.plan_data.Shift.{Shift}
use Rattle.change_plan.proofs.DifferenceLemmas.{one_node}
use Rattle.change_plan.proofs.NodeLaws.{one_path}

-- a path has one node
pub one_gone : (g h : Graph) → IsGraph g → (path : List ℕ) (i j : ℕ) → IsGoneAt g h path i → IsGoneAt g h path j → i ≡ j
one_gone g h graph path i j a b =
    one_path g.nodes graph.paths_rise i j a.node b.node a.here b.here (a.named ∙ sym b.named)

-- and a node one path
pub one_name : (g h : Graph) (i : ℕ) (p q : List ℕ) → IsGoneAt g h p i → IsGoneAt g h q i → p ≡ q
one_name g h i p q a b = sym a.named ∙ ap (λ (n : Node). n.path) (one_node g.nodes i a.node b.node a.here b.here) ∙ b.named

module _ (old new : Graph) (old_graph : IsGraph old) (new_graph : IsGraph new) (moves : List Move) (may : MayMoveAll old new moves (length moves)) (shifts : List Shift) (are : IsShifts old new moves shifts) where
  move_there : (m : Move) → Contains moves m → (k : ℕ) × (slice_get moves k ≡ Some m)
  move_there m there = (there.0, slice_get-get_or moves there.0 m there.1 ∙ ap Some there.2)

  may_at : (k : ℕ) (m : Move) → slice_get moves k ≡ Some m → MayMove old new (take k moves) m
  may_at k m at = may k m (slice_get_within moves k m at) at

  module _ (path : Move → List ℕ) (fresh : (k : ℕ) (m : Move) → slice_get moves k ≡ Some m → ¬ Any (λ n. path n ≡ path m) (take k moves)) where
    not_again : (k l : ℕ) (m n : Move) → k < l → slice_get moves k ≡ Some m → slice_get moves l ≡ Some n → path m ≡ path n → ⊥
    not_again k l m n low at_m at_n same =
        let inside = slice_get_within moves k m at_m in
        let long : k < length (take l moves) = omega (arith, low, inside, length-take l moves) in
        fresh l n at_n (k, m, long, get_or-take l moves k m low ∙ get_or_from_slice_get moves k m m at_m, same)

    one_move : (m n : Move) → Contains moves m → Contains moves n → path m ≡ path n → m ≡ n
    one_move m n m_there n_there same =
        let a = move_there m m_there in
        let b = move_there n n_there in
        elim (cases_eq a.0 b.0) [
          | inl e ↦
              let both : Some m ≡ Some n = sym a.1 ∙ ap (slice_get moves) e ∙ b.1 in
              cc
          | inr apart ↦
              elim (cases_lt a.0 b.0) [
                | inl low ↦ absurd (not_again a.0 b.0 m n low a.1 b.1 same)
                | inr high ↦ absurd (not_again b.0 a.0 n m (omega (arith, apart, high)) b.1 a.1 (sym same))
              ]
        ]

  pub one_source : (s t : Shift) → Contains shifts s → Contains shifts t → s.old ≡ t.old → s ≡ t
  one_source s t s_there t_there same =
      let a = are.sound s s_there in
      let b = are.sound t t_there in
      let path = one_name old new t.old a.move.from b.move.from (subst (IsGoneAt old new a.move.from) same a.leads.removed) b.leads.removed in
      let move = one_move (λ m. m.from) (λ k m at. (may_at k m at).other_source) a.move b.move a.there b.there path in
      let target = one_gone new old new_graph b.move.to s.new t.new (subst (λ (m : Move). IsGoneAt new old m.to s.new) move a.leads.created) b.leads.created in
      λ i. record { old = same i; new = target i }

  pub one_target : (s t : Shift) → Contains shifts s → Contains shifts t → s.new ≡ t.new → s ≡ t
  one_target s t s_there t_there same =
      let a = are.sound s s_there in
      let b = are.sound t t_there in
      let path = one_name new old t.new a.move.to b.move.to (subst (IsGoneAt new old a.move.to) same a.leads.created) b.leads.created in
      let move = one_move (λ m. m.to) (λ k m at. (may_at k m at).other_target) a.move b.move a.there b.there path in
      let source = one_gone old new old_graph b.move.from s.old t.old (subst (λ (m : Move). IsGoneAt old new m.from s.old) move a.leads.removed) b.leads.removed in
      λ i. record { old = source i; new = same i }

  kind_at : (s : Shift) → IsShift old new moves s → IsOfOneKind old new s
  kind_at s a =
      let place = move_there a.move a.there in
      let fit = (may_at place.0 a.move place.1).fit in
      let source = one_gone old new old_graph a.move.from fit.source s.old fit.leads.removed a.leads.removed in
      let target = one_gone new old new_graph a.move.to fit.target s.new fit.leads.created a.leads.created in
      record {
        source = fit.leads.removed.node;
        target = fit.leads.created.node;
        there = subst (λ i. slice_get old.nodes i ≡ Some fit.leads.removed.node) source fit.leads.removed.here;
        here = subst (λ i. slice_get new.nodes i ≡ Some fit.leads.created.node) target fit.leads.created.here;
        same_kind = fit.same_kind;
      }

  pub one_kind : All (IsOfOneKind old new) shifts
  one_kind k d low = kind_at (get_or shifts k d) (are.sound (get_or shifts k d) (Contains-get_or shifts k d low))
