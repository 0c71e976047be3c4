-- That there is no list of parts can't be.
use Rattle.std.proofs.Common.{◌≡◌, ◌∙◌, ◌++◌, ◌+◌, ◌≤◌, ◌<◌, ℕ, zero, suc, List, [], ◌∷◌, refl, ap, sym, subst, inl, inr, arith, length, take, drop, append_assoc}
use Rattle.std.specs.Prelude.{AllPairs}
use Rattle.std.proofs.lemmas.Bool.{cases_lt}
use Rattle.std.proofs.lemmas.List.{length-drop, length-take-le, take-append-drop, take-take, take_all}
use Rattle.std.proofs.lemmas.Option.{slice_get_within}
use Rattle.config_graph.specs.Cycles.{HasCycle, IsLinked, graph_wiring}
use Rattle.config_graph.specs.Graph.{Graph, IsGraph}
use Rattle.config_graph.specs.Wiring.{HasNoCycle}
use Rattle.config_graph.specs.declared.node.Node.{Node}
use Rattle.config_graph.proofs.GraphByLaws.{one_graph}
use Rattle.change_plan.specs.Moves.{MayMoveAll}
use Rattle.change_plan.specs.declared.plan_data.Move.{Move}
use Rattle.change_parts.specs.Groups.{AreGroups, IsBefore, IsIn}
use Rattle.change_parts.specs.Parts.{AreParts, ArePartsFrom, HasEndsIn, IsPart}
use Rattle.change_parts.specs.Parts.ArePartsFrom.{none_left, then_}
use Rattle.change_parts.specs.Stages.{AreLinkedAfter, IsAfter, IsNodeAfter}
use Rattle.change_parts.specs.declared.part.Part.{Part}
use Rattle.change_parts.proofs.MissingLemmas.{not_not, some_part}
use Rattle.change_parts.proofs.MovingLemmas.{part_may_move}
use Rattle.change_parts.proofs.PartLaws.{apart_groups, front_rises, next_stage}
use Rattle.change_parts.proofs.PlanThereLemmas.{plan_there}
use Rattle.change_parts.proofs.StageLaws.{first_stage, last_stage, stage_split}
use Rattle.change_parts.proofs.StageThereLemmas.{groups_there, stage_there}

module _ (old new : Graph) (old_graph : IsGraph old) (new_graph : IsGraph new) (moves : List Move) (may : MayMoveAll old new moves (length moves)) (acyclic : HasNoCycle (graph_wiring new)) where
  abbrev After : List (List ℕ) → Graph → Graph → Type 0
  After firsts g h = IsAfter old new moves firsts g h

  module _ (done left : List (List ℕ)) (groups : AreGroups old new moves (done ++ left)) (stage : Graph) (stage_is : After done old stage) where
    abbrev front : ℕ → List (List ℕ)
    front k = take k left

    front_rises_to : (k : ℕ) → AllPairs IsBefore (done ++ front k)
    front_rises_to k =
        front_rises (done ++ front k) (drop k left)
        (subst (AllPairs IsBefore) (sym (append_assoc done (front k) (drop k left) ∙ ap (λ xs. done ++ xs) (take-append-drop k left))) groups.rise)

    apart : (k : ℕ) (n : Node) → IsIn old new moves done n → IsIn old new moves (front k) n → ⊥
    apart k n = apart_groups old new old_graph new_graph moves done (front k) (front_rises_to k) n

    leads_to : (k : ℕ) (h : Graph) → After (done ++ front k) old h → After (front k) stage h
    leads_to k h all = stage_split old new old_graph new_graph moves done (front k) (apart k) stage stage_is h all

    pub after_there : (k : ℕ) → ¬ ((g : Graph) → ¬ After (front k) stage g)
    after_there k none = stage_there old new old_graph new_graph moves (done ++ front k) (λ h. none h.0 (leads_to k h.0 h.1))

    one_after : (k : ℕ) (g h : Graph) → After (front k) stage g → After (front k) stage h → g ≡ h
    one_after k g h a b = one_graph (IsNodeAfter old new moves (front k) stage) (AreLinkedAfter old new moves (front k) stage) g h a b

    -- after so many groups there is a cycle
    abbrev Cyclic : ℕ → Type 0
    Cyclic k = (g : Graph) → After (front k) stage g → HasCycle g

    -- the part that takes the first k of these groups
    part_of : (k : ℕ) → 0 < k → k ≤ length left → ((j : ℕ) → 0 < j → j < k → Cyclic j) → (h : Graph) → After (done ++ front k) old h → ¬ HasCycle h
        → ¬ (¬ ((p : Part) × IsPart old new moves (front k) stage p))
    part_of k some_ few fewer h all none never =
        some_part (HasEndsIn old new moves (front k)) moves (λ own.
        plan_there stage h stage_is.paths_rise own.0
        (part_may_move old new old_graph new_graph moves may done (front k) stage h own.0 (apart k) stage_is leads own.1)
        begins
        (λ plan. never (
          record { next = h; plan = plan.0; moves = own.0 },
          record {
            takes_some = omega (arith, some_, long);
            leads_to = leads;
            no_cycle = λ i on. none (i, on);
            fewest = λ count some_' less g is. fewer count some_' (omega (arith, less, long)) g
                (subst (λ gs. After gs stage g) (take-take count k left (omega (arith, less, long))) is);
            moves_are = own.1;
            plan_is = plan.1;
          },
        )))
      where
        leads : After (front k) stage h
        leads = leads_to k h all

        long : length (front k) ≡ k
        long = length-take-le k left few

        begins : (i r j x : ℕ) → IsLinked stage i r j x → i < length stage.nodes
        begins i r j x linked = let w = (stage_is.links_are i r j x).0 linked in slice_get_within stage.nodes i w.from w.from_there

    record Next : Type 0 where
      k : ℕ
      some_ : 0 < k
      few : k ≤ length left
      part : Part
      is : IsPart old new moves (front k) stage part

    -- a cycle after the first k of these groups too
    cyclic_to : (k : ℕ) → ((j : ℕ) → 0 < j → j < k → Cyclic j) → (h : Graph) → After (done ++ front k) old h → HasCycle h → (j : ℕ) → 0 < j → j < k + 1 → Cyclic j
    cyclic_to k fewer h all cycle j some_ low =
        elim (cases_lt j k) [
          | inl below ↦ fewer j some_ below
          | inr last ↦
              let same : k ≡ j = omega (arith, low, last) in
              subst Cyclic same (λ g is. subst HasCycle (one_after k h g (leads_to k h all) is) cycle)
        ]

    -- where there is one after all of them there would be one in the new graph
    not_last : (k : ℕ) → k ≡ length left → (h : Graph) → After (done ++ front k) old h → HasCycle h → ⊥
    not_last k count h all cycle =
        let whole : done ++ front k ≡ done ++ left = ap (λ xs. done ++ xs) (take_all k left (omega (arith, count))) in
        let same : h ≡ new = last_stage old new old_graph new_graph moves (done ++ left) groups h (subst (λ gs. After gs old h) whole all) in
        let on = subst HasCycle same cycle in
        acyclic on.0 on.1

    found : (k : ℕ) → 0 < k → k ≤ length left → ((j : ℕ) → 0 < j → j < k → Cyclic j) → (h : Graph) → After (done ++ front k) old h → ¬ HasCycle h → ¬ (¬ Next)
    found k some_ few fewer h all none never = part_of k some_ few fewer h all none (λ p. never (record { k = k; some_ = some_; few = few; part = p.0; is = p.1 }))

    search_next : (more_ k : ℕ) → k + more_ ≡ length left → 0 < k → ((j : ℕ) → 0 < j → j < k → Cyclic j) → ¬ (¬ Next)
    search_next zero k count some_ fewer never = stage_there old new old_graph new_graph moves (done ++ front k) (λ h.
        found k some_ (omega (arith, count)) fewer h.0 h.1 (λ cycle. not_last k (omega (arith, count)) h.0 h.1 cycle) never)
    search_next (suc more_) k count some_ fewer never = stage_there old new old_graph new_graph moves (done ++ front k) (λ h. not_not (HasCycle h.0) (λ which. elim which [
      | inr none ↦ found k some_ (omega (arith, count)) fewer h.0 h.1 none never
      | inl cycle ↦ search_next more_ (k + 1) (omega (arith, count)) (omega arith) (cyclic_to k fewer h.0 h.1 cycle) never
    ]))

    next_there : 0 < length left → ¬ (¬ Next)
    next_there some_ = go (length left) refl
      where
        go : (n : ℕ) → n ≡ length left → ¬ (¬ Next)
        go zero is = absurd (omega (arith, is, some_))
        go (suc rest) is = search_next rest 1 (omega (arith, is)) (omega arith) (λ j j_some low. absurd (omega (arith, j_some, low)))

  parts_from : (count : ℕ) (done left : List (List ℕ)) → length left ≤ count → AreGroups old new moves (done ++ left) → (stage : Graph) → After done old stage
      → ¬ (¬ ((ps : List Part) × ArePartsFrom old new moves stage left ps))
  parts_from count done [] few groups stage stage_is never = never ([], none_left)
  parts_from zero done (first ∷ later) few groups stage stage_is never = omega (arith, few)
  parts_from (suc count) done (first ∷ later) few groups stage stage_is never = next_there done left groups stage stage_is (omega arith)
      (λ w. onward w (λ done' left' few' groups' stage' is. parts_from count done' left' few' groups' stage' is))
    where
      left : List (List ℕ)
      left = first ∷ later

      onward :
          Next done left groups stage stage_is
          → ((done' left' : List (List ℕ)) → length left' ≤ count → AreGroups old new moves (done' ++ left') → (stage' : Graph) → After done' old stage' → ¬ (¬ ((ps : List Part) × ArePartsFrom old new moves stage' left' ps)))
          → ⊥
      onward w further =
          let taken = take w.k left in
          let rest = drop w.k left in
          let whole : taken ++ rest ≡ left = take-append-drop w.k left in
          let both : (done ++ taken) ++ rest ≡ done ++ left = append_assoc done taken rest ∙ ap (λ xs. done ++ xs) whole in
          further (done ++ taken) rest (omega (arith, length-drop w.k left, w.some_, few)) (subst (AreGroups old new moves) (sym both) groups) w.part.next
          (next_stage old new old_graph new_graph moves done taken rest stage w.part (subst (λ xs. AllPairs IsBefore (done ++ xs)) (sym whole) groups.rise) stage_is w.is)
          (λ ps. never (w.part ∷ ps.0, subst (λ gs. ArePartsFrom old new moves stage gs (w.part ∷ ps.0)) whole (then_ w.is ps.1)))

  pub parts_there : ¬ (¬ ((ps : List Part) × AreParts old new moves ps))
  parts_there never =
      groups_there old new old_graph new_graph moves (λ g.
      parts_from (length g.0) [] g.0 (omega arith) g.1 old (first_stage old new old_graph new_graph moves)
      (λ ps. never (ps.0, record { groups = g.0; are_groups = g.1; parts = ps.1 })))
