-- Where a change keeps or moves the node of a kind, and it makes a new one, the new one takes the old one's state over.
use Rattle.std.proofs.Common.{◌≡◌, ◌∙◌, ℕ, suc, ◌<◌, List, [], ◌∷◌, map, Some, refl, sym, ap, subst, arith, inl, inr}
use Rattle.std.specs.Prelude.{◌⊎◌, ◌==◌, AllPairs, Any, Contains, find}
use Rattle.std.proofs.lemmas.Bool.{eq-eqb, eqb-true}
use Rattle.std.proofs.lemmas.List.Kept.{AllPairs-from_increasing}
use Rattle.base.proofs.ContainsLaws.{Contains-at, Contains-cons_cases, Contains-map, Contains-nil}
use Rattle.std.proofs.lemmas.Option.{same_Some}
use Rattle.base.proofs.FindLaws.{find-only}
use Rattle.config_graph.specs.Graph.{Graph}
use Rattle.config_graph.specs.declared.kind.Kind.{Kind}
use Rattle.change_plan.specs.Differences.{IsGone}
use Rattle.change_plan.specs.Moves.{IsShift, IsShifts, MoveLeads}
use Rattle.change_plan.specs.declared.plan_data.Move.{Move}
use Rattle.change_plan.specs.declared.plan_data.Shift.{Shift}
use Rattle.result_laws.specs.Keeping.{IsKeptOrMoved, KeepsOrMoves}
use Rattle.result_laws.specs.Describing.{kind_at}

abbrev new_of : Shift → ℕ
new_of s = s.new

-- numbers that rise stand once
one_shift : (xs : List Shift) → AllPairs (λ x y. x < y) (map (λ (s : Shift). s.new) xs) → (a b : Shift) → Contains xs a → Contains xs b → a.new ≡ b.new → a ≡ b
one_shift [] rise a b c d same = absurd (Contains-nil a c)
one_shift (x ∷ xs) rise a b c d same = by (Contains-cons_cases x xs a c) (Contains-cons_cases x xs b d) (λ p q. one_shift xs (λ i j d h h'. rise (suc i) (suc j) d (omega (arith, h)) (omega (arith, h'))) a b p q same)
  where
    lower : (y : Shift) → Contains xs y → x.new < y.new
    lower y c = let m = Contains-map (λ (s : Shift). s.new) xs y c in let low = m.1 in subst (λ n. x.new < n) m.2 (rise 0 (suc m.0) y.new (omega arith) (omega (arith, low)))

    by : (a ≡ x) ⊎ Contains xs a → (b ≡ x) ⊎ Contains xs b → (Contains xs a → Contains xs b → a ≡ b) → a ≡ b
    by (inl p) (inl q) later = p ∙ sym q
    by (inl p) (inr q) later = let low = lower b q in absurd (omega (arith, low, same, ap new_of p))
    by (inr p) (inl q) later = let low = lower a p in absurd (omega (arith, low, same, ap new_of q))
    by (inr p) (inr q) later = later p q

pub taken_over : (old new : Graph) (moves : List Move) (shifts : List Shift) (k : Kind) (i j : ℕ) → IsShifts old new moves shifts → KeepsOrMoves k old new moves → kind_at old i ≡ Some k → kind_at new j ≡ Some k → IsGone new old j
    → find (λ (s : Shift). s.new == j) shifts ≡ Some (record { old = i; new = j })
taken_over old new moves shifts k i j are keeps here there made = by (keeps i j here there)
  where
    by : IsKeptOrMoved old new moves i j → find (λ (s : Shift). s.new == j) shifts ≡ Some (record { old = i; new = j })
    by (inl twin) = absurd (made.gone (subst (Contains old.nodes) (same_Some twin.node made.node (sym twin.there ∙ made.here)) (Contains-at old.nodes i twin.node twin.here)))
    by (inr moved) =
        let s : Shift = record { old = i; new = j } in
        let listed : Contains shifts s = are.complete s (moves_shift moved) in
        find-only (λ (s : Shift). s.new == j) shifts s listed (eq-eqb j j refl) (λ y c passes. one_shift shifts (AllPairs-from_increasing (map (λ (s : Shift). s.new) shifts) are.rise) y s c listed (eqb-true y.new j passes))
      where
        moves_shift : Any (λ m. MoveLeads old new m i j) moves → IsShift old new moves (record { old = i; new = j })
        moves_shift any = record { move = any.1; there = (any.0, any.2, any.3); leads = any.4 }
