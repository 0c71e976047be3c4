-- There is one list of parts.
use Rattle.std.proofs.Common.{◌≡◌, ◌<◌, ◌++◌, ℕ, List, [], ◌∷◌, length, refl, ap, sym, subst, inl, inr, arith, Contains}
use Rattle.std.proofs.lemmas.Bool.{cases_lt}
use Rattle.base.proofs.OrderedLaws.{one_order}
use Rattle.base.proofs.PlaceLaws.{front_of_parts, parts_are}
use Rattle.config_graph.specs.Cycles.{HasCycle}
use Rattle.config_graph.specs.Graph.{Graph, IsGraph}
use Rattle.config_graph.proofs.GraphByLaws.{one_graph}
use Rattle.config_graph.proofs.PathLaws.{irreflexive}
use Rattle.std.specs.Cmp.Lexicographic.{nat_list_cmp_total}
use Rattle.change_plan.specs.Plans.{IsPlanOf}
use Rattle.change_plan.specs.declared.plan_data.Move.{Move}
use Rattle.change_plan.proofs.SelectsLaws.{Selects-one}
use Rattle.change_plan.proofs.PlanLaws.{one_plan}
use Rattle.change_parts.specs.Groups.{AreGroups, IsBefore}
use Rattle.change_parts.specs.Parts.{AreParts, ArePartsFrom, HasEndsIn, IsPart}
use Rattle.change_parts.specs.Parts.ArePartsFrom.{none_left, then_}
use Rattle.change_parts.specs.Stages.{AreLinkedAfter, IsAfter, IsNodeAfter}
use Rattle.change_parts.specs.Ties.Joined.{itself}
use Rattle.change_parts.specs.declared.part.Part.{Part}
use Rattle.change_parts.proofs.TieLaws.{one_group}

module _ (old new : Graph) (old_graph : IsGraph old) (new_graph : IsGraph new) (moves : List Move) where
  groups_within : (fs gs : List (List ℕ)) → AreGroups old new moves fs → AreGroups old new moves gs → (p : List ℕ) → Contains fs p → Contains gs p
  groups_within fs gs f g p held =
      let n = f.are p held in
      let w = g.all n.0 n.2.changed in
      let same : p ≡ w.0 = one_group old new old_graph new_graph moves p w.0 n.0 (record { node = n.0; named = n.1; least = n.2; joined = itself }) w.2 in
      subst (Contains gs) (sym same) w.1

  one_groups : (fs gs : List (List ℕ)) → AreGroups old new moves fs → AreGroups old new moves gs → fs ≡ gs
  one_groups fs gs f g = one_order IsBefore (λ p q a b. irreflexive p (nat_list_cmp_total.trans p q p a b)) fs gs f.rise g.rise (groups_within fs gs f g) (groups_within gs fs g f)

  -- where one part takes fewer groups than another, there is a cycle after it and there is none
  not_fewer : (stage : Graph) (xs xs' ys ys' : List (List ℕ)) (p q : Part) → IsPart old new moves xs stage p → IsPart old new moves ys stage q → xs ++ xs' ≡ ys ++ ys' → length xs < length ys → ⊥
  not_fewer stage xs xs' ys ys' p q a b same fewer =
      let first = front_of_parts xs xs' ys ys' same (omega (arith, fewer)) in
      let c : HasCycle p.next = b.fewest (length xs) a.takes_some fewer p.next (subst (λ zs. IsAfter old new moves zs stage p.next) (sym first) a.leads_to) in
      a.no_cycle c.0 c.1

  one_part : (stage : Graph) (taken : List (List ℕ)) (p q : Part) → IsPart old new moves taken stage p → IsPart old new moves taken stage q → p ≡ q
  one_part stage taken p q a b = λ n. record { next = next_ n; plan = plan_ n; moves = moves_ n }
    where
      next_ : p.next ≡ q.next
      next_ = one_graph (IsNodeAfter old new moves taken stage) (AreLinkedAfter old new moves taken stage) p.next q.next a.leads_to b.leads_to

      moves_ : p.moves ≡ q.moves
      moves_ = Selects-one (HasEndsIn old new moves taken) moves p.moves q.moves a.moves_are b.moves_are

      plan_ : p.plan ≡ q.plan
      plan_ = one_plan stage p.next p.moves p.plan q.plan a.plan_is (subst (λ (r : Graph × List Move). IsPlanOf stage r.0 r.1 q.plan) (λ n. (sym next_ n, sym moves_ n)) b.plan_is)

  -- a list of groups and of the parts of it, in step
  none_of_some : (xs ys : List (List ℕ)) → 0 < length xs → ¬ ([] ≡ xs ++ ys)
  none_of_some [] ys some_ same = omega (arith, some_)
  none_of_some (x ∷ xs) ys some_ same = cc

  one_list : (stage : Graph) (gs hs : List (List ℕ)) (ps qs : List Part) → ArePartsFrom old new moves stage gs ps → ArePartsFrom old new moves stage hs qs → gs ≡ hs → ps ≡ qs
  one_list stage _ _ _ _ none_left none_left same = refl
  one_list stage _ _ _ _ none_left (then_ {taken = ys} {left = ys'} b rest') same = absurd (none_of_some ys ys' b.takes_some same)
  one_list stage _ _ _ _ (then_ {taken = xs} {left = xs'} a rest) none_left same = absurd (none_of_some xs xs' a.takes_some (sym same))
  one_list stage _ _ _ _ (then_ {taken = xs} {left = xs'} {p = p} {ps = ps} a rest) (then_ {taken = ys} {left = ys'} {p = q} {ps = qs} b rest') same =
      elim (cases_lt (length xs) (length ys)) [
        | inl fewer ↦ absurd (not_fewer stage xs xs' ys ys' p q a b same fewer)
        | inr not_fewer_ ↦ elim (cases_lt (length ys) (length xs)) [
          | inl more_ ↦ absurd (not_fewer stage ys ys' xs xs' q p b a (sym same) more_)
          | inr not_more ↦ alike (λ rest'' same'. one_list p.next xs' ys' ps qs rest rest'' same') (omega (arith, not_fewer_, not_more))
        ]
      ]
    where
      alike : (ArePartsFrom old new moves p.next ys' qs → xs' ≡ ys' → ps ≡ qs) → length xs ≡ length ys → p ∷ ps ≡ q ∷ qs
      alike later_ long =
          let w = parts_are xs xs' ys ys' same long in
          let one_ : p ≡ q = one_part stage xs p q a (subst (λ zs. IsPart old new moves zs stage q) (sym w.0) b) in
          let later : ps ≡ qs = later_ (subst (λ g. ArePartsFrom old new moves g ys' qs) (sym (ap (λ (r : Part). r.next) one_)) rest') w.1 in
          λ n. one_ n ∷ later n

  pub one_parts : (ps qs : List Part) → AreParts old new moves ps → AreParts old new moves qs → ps ≡ qs
  one_parts ps qs a b = one_list old a.groups b.groups ps qs a.parts b.parts (one_groups a.groups b.groups a.are_groups b.are_groups)
