-- Lemmas on parts that are made one after the other.
use Rattle.std.proofs.Common.{zero, suc, ◌≡◌, ◌∙◌, ◌≤◌, ◌<◌, ◌+◌, ◌++◌, ℕ, Bool, true, false, not, List, [], ◌∷◌, Some, length, take, drop, get_or, refl, ap, sym, subst, inl, inr, arith, Contains, slice_get, length-append}
use Rattle.std.specs.Option.{option_map_or}
use Rattle.std.specs.Prelude.{All, AllPairs, ◌&&◌, replicate}
use Rattle.std.proofs.lemmas.Bool.{and_from, and_parts, cases_Bool, cases_lt, false≢true}
use Rattle.std.proofs.lemmas.List.Elements.{All-append, All-cons, All-nil}
use Rattle.std.proofs.lemmas.List.{drop-take, length-take-le, take-append-drop, take-take, take_all}
use Rattle.std.proofs.lemmas.Option.{none-some, same_Some, slice_get_within}
use Rattle.base.proofs.ContainsLaws.{Contains-at, Contains-nil, at_some_place}
use Rattle.config_graph.specs.Cycles.{HasCycle}
use Rattle.config_graph.specs.Graph.{Graph, IsGraph}
use Rattle.config_graph.specs.Marks.{IsMarked}
use Rattle.config_graph.specs.Sound.{Sound}
use Rattle.config_graph.specs.declared.node.Made.{Made}
use Rattle.config_graph.specs.declared.node.Node.{Node}
use Rattle.config_graph.proofs.GraphByLaws.{one_graph}
use Rattle.config_graph.proofs.MarkLaws.{none_marked}
use Rattle.change_plan.specs.PlanWithin.{IsPlanWithin}
use Rattle.change_plan.specs.Plans.{IsPlanOf}
use Rattle.change_plan.specs.Refusals.{CanPlan}
use Rattle.change_plan.specs.Selects.{Selects}
use Rattle.change_plan.specs.declared.plan_data.Move.{Move}
use Rattle.change_parts.specs.Groups.{AreGroups, IsBefore, IsIn}
use Rattle.change_parts.specs.Parts.{AreParts, ArePartsFrom, ArePlansWithin, HasEndsIn, IsPart, stage_after}
use Rattle.change_parts.specs.Parts.ArePartsFrom.{none_left}
use Rattle.change_parts.specs.Stages.{AreLinkedAfter, IsAfter, IsNodeAfter}
use Rattle.change_parts.specs.Ties.{IsChanged, IsCreated, IsRemoved}
use Rattle.change_parts.specs.Ties.Tied.{moved}
use Rattle.change_parts.specs.declared.part.Part.{Part}
use Rattle.change_parts.proofs.LinkedLaws.{removed_touched}
use Rattle.change_parts.proofs.PartLaws.{apart_groups, front_rises, last_pushed, none_pushed, parts_more, plans_within_more}
use Rattle.change_parts.proofs.RoomLaws.{part_can_plan}
use Rattle.change_parts.proofs.StageLaws.{first_stage, in_both, in_left, in_right, new_stage, stage_next, stage_split}
use Rattle.change_parts.proofs.TieLaws.{in_along}
use Rattle.change_parts.specs.Groupings.{IsGrouping}
use Rattle.change_parts.specs.Members.{AreNumbers}
use Rattle.change_parts.specs.Owning.{IsOwn, number_of}
use Rattle.change_parts.specs.Staging.{IsApplied}
use Rattle.change_parts.specs.declared.groups.Grouping.{Grouping}
use Rattle.change_parts.proofs.MemberLemmas.{index_there}
use Rattle.change_parts.proofs.PairLemmas.{Selects-alike}

-- of the first c groups, some are taken by these parts, and after each more there is a cycle
pub record Progress (old new : Graph) (moves : List Move) (groups : List (List ℕ)) (all : List Node) (c : ℕ) (parts : List Part) (before : List Bool) : Type 0 where
  pub count : ℕ
  pub few : count ≤ c
  pub are_parts : ArePartsFrom old new moves old (take count groups) parts
  pub within : ArePlansWithin old parts
  pub graphs : All (λ (p : Part). IsGraph p.next) parts
  pub as_few : length parts ≤ count
  pub stage_is : IsAfter old new moves (take count groups) old (stage_after old parts (length parts))
  pub cyclic : (k : ℕ) → count < k → k ≤ c → (g : Graph) → IsAfter old new moves (take k groups) old g → HasCycle g
  pub applied : IsApplied old new moves (take count groups) all before

-- the last stage by the last part
pub stage_last : (stage : Graph) (ps : List Part) (k : ℕ) (p : Part) → slice_get ps k ≡ Some p → length ps ≡ k + 1 → stage_after stage ps (length ps) ≡ p.next
unfolding stage_after
stage_last stage [] k p at long = absurd (none-some p at)
stage_last stage (q ∷ []) zero p at long = ap (λ (x : Part). x.next) (same_Some q p at)
stage_last stage (q ∷ r ∷ ps) zero p at long = absurd (omega (arith, long))
stage_last stage (q ∷ ps) (suc k) p at long = stage_last q.next ps k p at (omega (arith, long))

pub stage_none : (stage : Graph) (ps : List Part) → length ps ≡ 0 → stage_after stage ps (length ps) ≡ stage
unfolding stage_after
stage_none stage [] none = refl
stage_none stage (q ∷ ps) none = absurd (omega (arith, none))

module _ (old new : Graph) (old_graph : IsGraph old) (new_graph : IsGraph new) (moves : List Move) where
  abbrev In : List (List ℕ) → Node → Type 0
  In firsts = IsIn old new moves firsts

  abbrev After : List (List ℕ) → Graph → Graph → Type 0
  After firsts g h = IsAfter old new moves firsts g h

  removed_changed : (n : Node) → IsRemoved old new n → IsChanged old new n
  removed_changed n lost = inl (removed_touched old new old_graph new_graph n lost)

  -- ---- the moves of a part

  module _ (made : Made) (can : CanPlan old new moves made) (all : List Node) (once : (a b : ℕ) (n : Node) → slice_get all a ≡ Some n → slice_get all b ≡ Some n → a ≡ b) (numbers : List ℕ) (numbered : AreNumbers old.nodes all numbers)
      (done taken whole : List (List ℕ)) (whole_is : done ++ taken ≡ whole) (apart : (n : Node) → In done n → In taken n → ⊥) (before applied : List Bool)
      (is_before : IsApplied old new moves done all before) (is_applied : IsApplied old new moves whole all applied) where
    -- the number of a removed node
    removed_number : (n : Node) (path : List ℕ) → IsRemoved old new n → n.path ≡ path → (k : ℕ) × (slice_get all k ≡ Some n) × (number_of old numbers path ≡ Some k)
    removed_number n path lost named =
        let i = at_some_place old.nodes n lost.there in
        let w = numbered.are i.0 n i.1 in
        (w.0, w.2, rw (index_there old.nodes old_graph.paths_rise path i.0 n i.1 named) w.1)

    -- whose flags say whether it is in the groups of the part
    own_in : (k : ℕ) (n : Node) → slice_get all k ≡ Some n → IsChanged old new n → (get_or applied k false && not (get_or before k false)) ≡ true → In taken n
    own_in k n at changed own =
        let both = and_parts (get_or applied k false) (not (get_or before k false)) own in
        elim (in_both old new old_graph new_graph moves done taken n (subst (λ gs. In gs n) (sym whole_is) ((is_applied.are k n at changed).0 both.0))) [
          | inr here ↦ here
          | inl early ↦ absurd (false≢true (sym (ap not ((is_before.are k n at changed).1 early)) ∙ both.1))
        ]

    in_own : (k : ℕ) (n : Node) → slice_get all k ≡ Some n → IsChanged old new n → In taken n → (get_or applied k false && not (get_or before k false)) ≡ true
    in_own k n at changed here =
        and_from (get_or applied k false) (not (get_or before k false))
        ((is_applied.are k n at changed).1 (subst (λ gs. In gs n) whole_is (in_right old new old_graph new_graph moves done taken n here)))
        (elim (cases_Bool (get_or before k false)) [
          | inl early ↦ absurd (apart n ((is_before.are k n at changed).0 early) here)
          | inr no_ ↦ ap not no_
        ])

    own_ends : (m : Move) → Contains moves m → IsOwn old numbers before applied m → HasEndsIn old new moves taken m
    own_ends m held own =
        let place = at_some_place moves m held in
        let f = (can.may_move place.0 m (slice_get_within moves place.0 m place.1) place.1).fit in
        let r = f.leads.removed in
        let c = f.leads.created in
        let lost : IsRemoved old new r.node = record { there = Contains-at old.nodes f.source r.node r.here; gone = r.gone } in
        let is_made : IsCreated old new c.node = record { there = Contains-at new.nodes f.target c.node c.here; gone = c.gone } in
        let k = removed_number r.node m.from lost r.named in
        let here = own_in k.0 r.node k.1 (removed_changed r.node lost) (sym (ap (λ o. option_map_or (λ j. get_or applied j false && not (get_or before j false)) o false) k.2) ∙ own) in
        record {
          source = r.node;
          target = c.node;
          from = r.named;
          to = c.named;
          removed = lost;
          created = is_made;
          source_in = here;
          target_in = in_along old new old_graph new_graph moves taken r.node c.node (moved m held lost r.named is_made c.named) here;
        }

    ends_own : (m : Move) → Contains moves m → HasEndsIn old new moves taken m → IsOwn old numbers before applied m
    ends_own m held e =
        let k = removed_number e.source m.from e.removed e.from in
        ap (λ o. option_map_or (λ j. get_or applied j false && not (get_or before j false)) o false) k.2 ∙ in_own k.0 e.source k.1 (removed_changed e.source e.removed) e.source_in

    pub moves_selected : (own : List Move) → Selects (IsOwn old numbers before applied) moves own → Selects (HasEndsIn old new moves taken) moves own
    moves_selected own s = Selects-alike (IsOwn old numbers before applied) (HasEndsIn old new moves taken) moves own_ends ends_own own s

  -- ---- the parts so far

  module _ (groups : List (List ℕ)) (are_groups : AreGroups old new moves groups) (all : List Node) where
    abbrev SoFar : ℕ → List Part → List Bool → Type 0
    SoFar = Progress old new moves groups all

    pub none_applied : (marks : List Bool) → marks ≡ replicate (length marks) false → length marks ≡ length all → IsApplied old new moves [] all marks
    none_applied marks are long = record {
      long = long;
      are = λ k n at changed. (λ marked. absurd (none_marked (length marks) k (subst (λ ms. IsMarked ms k) are marked)), λ w. absurd (Contains-nil w.0 w.1));
    }

    pub at_start : (before : List Bool) → before ≡ replicate (length before) false → length before ≡ length all → SoFar 0 [] before
    at_start before are long = record {
      count = 0;
      few = omega arith;
      are_parts = none_left;
      within = tt;
      graphs = All-nil (λ (p : Part). IsGraph p.next);
      as_few = omega arith;
      stage_is = subst (After [] old) (sym (none_pushed old)) (first_stage old new old_graph new_graph moves);
      cyclic = λ k some_ low. absurd (omega (arith, some_, low));
      applied = none_applied before are long;
    }

    pub one_more : (c : ℕ) (parts : List Part) (before : List Bool) (next : Graph) → SoFar c parts before → After (take (c + 1) groups) old next → HasCycle next → SoFar (c + 1) parts before
    one_more c parts before next w next_is cycle = record {
      count = w.count;
      few = omega (arith, w.few);
      are_parts = w.are_parts;
      within = w.within;
      graphs = w.graphs;
      as_few = w.as_few;
      stage_is = w.stage_is;
      cyclic = λ k past low g is. elim (cases_lt k (c + 1)) [
        | inl below ↦ w.cyclic k past (omega (arith, below)) g is
        | inr last ↦
            let same : next ≡ g = one_graph (IsNodeAfter old new moves (take (c + 1) groups) old) (AreLinkedAfter old new moves (take (c + 1) groups) old) next g next_is (subst (λ j. After (take j groups) old g) (omega (arith, low, last)) is) in
            subst HasCycle same cycle
      ];
      applied = w.applied;
    }

    module _ (c : ℕ) (parts : List Part) (before applied : List Bool) (next : Graph) (w : SoFar c parts before) (inside : c < length groups) (next_is : After (take (c + 1) groups) old next) where
      abbrev whole : List (List ℕ)
      whole = take (c + 1) groups

      abbrev done : List (List ℕ)
      done = take w.count groups

      abbrev pub taken : List (List ℕ)
      taken = drop w.count whole

      abbrev stage : Graph
      stage = stage_after old parts (length parts)

      done_is : done ≡ take w.count whole
      done_is = sym (take-take w.count (c + 1) groups (omega (arith, w.few)))

      pub whole_is : done ++ taken ≡ whole
      whole_is = ap (λ xs. xs ++ taken) done_is ∙ take-append-drop w.count whole

      whole_rises : AllPairs IsBefore whole
      whole_rises = front_rises whole (drop (c + 1) groups) (subst (AllPairs IsBefore) (sym (take-append-drop (c + 1) groups)) are_groups.rise)

      pub apart : (n : Node) → In done n → In taken n → ⊥
      apart n = apart_groups old new old_graph new_graph moves done taken (subst (AllPairs IsBefore) (sym whole_is) whole_rises) n

      pub leads_to : After taken stage next
      leads_to = stage_split old new old_graph new_graph moves done taken apart stage w.stage_is next (subst (λ gs. After gs old next) (sym whole_is) next_is)

      long : w.count + length taken ≡ c + 1
      long =
          let whole_long = length-take-le (c + 1) groups (omega (arith, inside)) in
          let done_long = length-take-le w.count groups (omega (arith, inside, w.few)) in
          let both = sym (length-append done taken) ∙ ap length whole_is in
          omega (arith, whole_long, done_long, both)

      fewest : (k : ℕ) → 0 < k → k < length taken → (g : Graph) → After (take k taken) stage g → HasCycle g
      fewest k some_ few g is =
          let front : take k taken ≡ drop w.count (take (w.count + k) whole) = sym (drop-take w.count k whole) in
          let shorter : take (w.count + k) whole ≡ take (w.count + k) groups = take-take (w.count + k) (c + 1) groups (omega (arith, few, long)) in
          let first : done ≡ take w.count (take (w.count + k) groups) = sym (take-take w.count (w.count + k) groups (omega arith)) in
          let both : done ++ take k taken ≡ take (w.count + k) groups =
          (λ q. first q ++ (front ∙ ap (drop w.count) shorter) q) ∙ take-append-drop w.count (take (w.count + k) groups) in
          let over = stage_next old new old_graph new_graph moves done (take k taken) (λ n early here. apart n early (in_taken k n here)) stage w.stage_is g is in
          w.cyclic (w.count + k) (omega (arith, some_)) (omega (arith, few, long)) g (subst (λ gs. After gs old g) both over)
        where
          in_taken : (k : ℕ) (n : Node) → In (take k taken) n → In taken n
          in_taken k n here = subst (λ gs. In gs n) (take-append-drop k taken) (in_left old new old_graph new_graph moves (take k taken) (drop k taken) n here)

      -- one part more
      pub one_part_more : (p : Part) → p.next ≡ next → ¬ HasCycle next → Selects (HasEndsIn old new moves taken) moves p.moves → IsPlanOf stage next p.moves p.plan → IsPlanWithin stage next p.plan → IsGraph next
          → IsApplied old new moves whole all applied → SoFar (c + 1) (parts ++ p ∷ []) applied
      one_part_more p next_same acyclic own plan within next_graph is_applied = record {
        count = c + 1;
        few = omega arith;
        are_parts = subst (λ gs. ArePartsFrom old new moves old gs (parts ++ p ∷ [])) whole_is (parts_more old new old_graph new_graph moves old done taken parts p w.are_parts part);
        within = plans_within_more old parts p w.within (subst (λ g. IsPlanWithin stage g p.plan) (sym next_same) within);
        graphs = All-append (λ (q : Part). IsGraph q.next) parts (p ∷ []) w.graphs (All-cons (λ (q : Part). IsGraph q.next) p [] (subst IsGraph (sym next_same) next_graph) (All-nil (λ (q : Part). IsGraph q.next)));
        as_few = omega (arith, w.as_few, w.few, length-append parts (p ∷ []));
        stage_is = subst (After whole old) (sym (last_pushed old parts p ∙ next_same)) next_is;
        cyclic = λ k past low. absurd (omega (arith, past, low));
        applied = is_applied;
      }
        where
          part : IsPart old new moves taken stage p
          part = record {
            takes_some = omega (arith, long, w.few);
            leads_to = subst (After taken stage) (sym next_same) leads_to;
            no_cycle = λ i on. acyclic (subst HasCycle next_same (i, on));
            fewest = fewest;
            moves_are = own;
            plan_is = subst (λ g. IsPlanOf stage g p.moves p.plan) (sym next_same) plan;
          }

      pub can_plan : (made : Made) → Sound old → Sound new → CanPlan old new moves made → (own : List Move) → Selects (HasEndsIn old new moves taken) moves own → CanPlan stage next own made
      can_plan made old_sound new_sound can own s = part_can_plan old new old_graph new_graph old_sound new_sound moves made can done taken stage next own apart w.stage_is leads_to s

    -- at the end all groups are taken
    pub at_end : (c : ℕ) (parts : List Part) (before : List Bool) → SoFar c parts before → length groups ≡ c → Sound new → AreParts old new moves parts
    at_end c parts before w all_ new_sound = record { groups = groups; are_groups = are_groups; parts = subst (λ gs. ArePartsFrom old new moves old gs parts) (take_all w.count groups (omega (arith, taken_all))) w.are_parts }
      where
        taken_all : length groups ≤ w.count
        taken_all =
            elim (cases_lt w.count c) [
              | inr past ↦ omega (arith, past, all_)
              | inl left ↦
                  let whole : take c groups ≡ groups = take_all c groups (omega (arith, all_)) in
                  let cycle = w.cyclic c left (omega arith) new (subst (λ gs. After gs old new) (sym whole) (new_stage old new old_graph new_graph moves groups are_groups)) in
                  absurd (new_sound.no_cycle cycle.0 cycle.1)
            ]

-- ---- a grouping, step by step

module _ (old new : Graph) (moves : List Move) (g : Grouping) (w : IsGrouping old new moves g) where
  abbrev nodes : List Node
  nodes = g.members.nodes.items

  abbrev GroupProgress : ℕ → List Part → List Bool → Type 0
  GroupProgress = Progress old new moves w.groups nodes

  pub grouping_start : (before : List Bool) → before ≡ replicate (length before) false → length before ≡ length g.least.items → GroupProgress 0 [] before
  grouping_start before are long = at_start old new w.index.old_graph w.index.new_graph moves w.groups w.are_groups nodes before are (long ∙ w.long)

  pub grouping_more : (c : ℕ) (parts : List Part) (before : List Bool) (next : Graph) → GroupProgress c parts before → IsAfter old new moves (take (c + 1) w.groups) old next → HasCycle next → GroupProgress (c + 1) parts before
  grouping_more c parts before next so_far next_is cycle = one_more old new w.index.old_graph w.index.new_graph moves w.groups w.are_groups nodes c parts before next so_far next_is cycle

  module _ (c : ℕ) (parts : List Part) (before applied : List Bool) (next : Graph) (so_far : GroupProgress c parts before) (inside : c < length g.firsts.items) (next_is : IsAfter old new moves (take (c + 1) w.groups) old next)
      (is_applied : IsApplied old new moves (take (c + 1) w.groups) nodes applied) (made : Made) (can : CanPlan old new moves made) (own : List Move) (chosen : Selects (IsOwn old g.members.of_old.items before applied) moves own) where
    low : c < length w.groups
    low = subst (λ n. c < n) (sym w.as_many) inside

    chosen_ends : Selects (HasEndsIn old new moves (drop so_far.count (take (c + 1) w.groups))) moves own
    chosen_ends =
        moves_selected old new w.index.old_graph w.index.new_graph moves made can nodes w.index.members.once g.members.of_old.items w.index.of_old
        (take so_far.count w.groups) (drop so_far.count (take (c + 1) w.groups)) (take (c + 1) w.groups)
        (whole_is old new w.index.old_graph w.index.new_graph moves w.groups w.are_groups nodes c parts before applied next so_far low next_is)
        (apart old new w.index.old_graph w.index.new_graph moves w.groups w.are_groups nodes c parts before applied next so_far low next_is)
        before applied so_far.applied is_applied own chosen

    pub part_can : Sound old → Sound new → CanPlan (stage_after old parts (length parts)) next own made
    part_can old_sound new_sound = can_plan old new w.index.old_graph w.index.new_graph moves w.groups w.are_groups nodes c parts before applied next so_far low next_is made old_sound new_sound can own chosen_ends

    pub grouping_part : (p : Part) → p.next ≡ next → p.moves ≡ own → ¬ HasCycle next → IsPlanOf (stage_after old parts (length parts)) next own p.plan → IsPlanWithin (stage_after old parts (length parts)) next p.plan → IsGraph next → GroupProgress (c + 1) (parts ++ p ∷ []) applied
    grouping_part p next_same own_same acyclic plan within next_graph =
        one_part_more old new w.index.old_graph w.index.new_graph moves w.groups w.are_groups nodes c parts before applied next so_far low next_is p next_same acyclic
        (subst (Selects (HasEndsIn old new moves (drop so_far.count (take (c + 1) w.groups))) moves) (sym own_same) chosen_ends)
        (subst (λ ms. IsPlanOf (stage_after old parts (length parts)) next ms p.plan) (sym own_same) plan) within next_graph is_applied

  pub grouping_end : (c : ℕ) (parts : List Part) (before : List Bool) → GroupProgress c parts before → c ≡ length g.firsts.items → Sound new → AreParts old new moves parts
  grouping_end c parts before so_far last new_sound = at_end old new w.index.old_graph w.index.new_graph moves w.groups w.are_groups nodes c parts before so_far (w.as_many ∙ sym last) new_sound
