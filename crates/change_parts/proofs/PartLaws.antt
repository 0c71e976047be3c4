-- Laws of the parts of a change: each begins at a stage and ends at the next, and what each takes and makes.
use Rattle.std.proofs.Common.{◌≡◌, ◌⊎◌, ◌∙◌, ◌++◌, ◌+◌, ◌<◌, ℕ, zero, suc, [], ◌∷◌, List, length, Some, refl, sym, ap, subst, inl, inr, arith, All, Contains, ◌≤◌, ◌-◌, slice_get, append_assoc, append-nil, length-append}
use Rattle.std.specs.Prelude.{AllPairs}
use Rattle.std.proofs.lemmas.Bool.{cases_eq, cases_lt}
use Rattle.std.proofs.lemmas.List.Elements.{All-contains, Contains-append_cases, Contains-append_right}
use Rattle.std.proofs.lemmas.List.{get_or_append_left}
use Rattle.std.proofs.lemmas.Option.{none-some, same_Some, slice_get_within}
use Rattle.base.proofs.ContainsLaws.{Contains-at, Contains-cons_cases, Contains-nil}
use Rattle.base.proofs.OrderedLaws.{before_all, rest_rises}
use Rattle.base.proofs.PlaceLaws.{slice_get-there}
use Rattle.config_graph.specs.Graph.{Graph, IsGraph}
use Rattle.config_graph.specs.Sound.{Sound}
use Rattle.config_graph.specs.declared.node.Node.{Node}
use Rattle.config_graph.proofs.PathLaws.{irreflexive}
use Rattle.change_plan.specs.Applying.{IsAtOneOf}
use Rattle.change_plan.specs.PlanWithin.{IsPlanWithin}
use Rattle.change_plan.specs.declared.plan_data.Move.{Move}
use Rattle.change_plan.proofs.StepLaws.{gone_listed, listed_gone}
use Rattle.change_parts.specs.Freezing.{IsFrozenAt}
use Rattle.change_parts.specs.Groups.{IsBefore, IsIn}
use Rattle.change_parts.specs.Parts.{AreParts, ArePartsFrom, CreatedBy, IsPart, ArePlansWithin, RemovedBy, StandsInOne, stage_after}
use Rattle.change_parts.specs.Parts.ArePartsFrom.{none_left, then_}
use Rattle.change_parts.specs.Stages.{AreLinkedAfter, HasLinksOf, IsAfter, IsNodeAfter}
use Rattle.change_parts.specs.Ties.{IsCreated, IsRemoved}
use Rattle.change_parts.specs.declared.part.Part.{Part}
use Rattle.change_parts.proofs.FreezeLemmas.{frozen_by_whole}
use Rattle.change_parts.proofs.LinkedLaws.{removed_touched}
use Rattle.change_parts.proofs.StageLaws.{connection_linked, end_of_stage, first_stage, last_stage, linked_connection, stage_next, stage_sound}
use Rattle.change_parts.proofs.TieLaws.{one_group}

-- what stands in the front of a list that rises doesn't stand behind
apart_rising : (xs ys : List (List ℕ)) → AllPairs IsBefore (xs ++ ys) → (p : List ℕ) → Contains xs p → Contains ys p → ⊥
apart_rising [] ys rise p in_front behind = Contains-nil p in_front
apart_rising (x ∷ xs) ys rise p in_front behind =
    elim (Contains-cons_cases x xs p in_front) [
      | inl first ↦ irreflexive p (subst (λ q. IsBefore q p) (sym first) (before_all IsBefore x (xs ++ ys) rise p (Contains-append_right xs ys p behind)))
      | inr later ↦ apart_rising xs ys (rest_rises IsBefore x (xs ++ ys) rise) p later behind
    ]

pub front_rises : (xs ys : List (List ℕ)) → AllPairs IsBefore (xs ++ ys) → AllPairs IsBefore xs
front_rises xs ys rise i j d below within =
    subst (λ (p : List ℕ × List ℕ). IsBefore p.0 p.1) (λ n. (get_or_append_left xs ys d i (omega (arith, below, within)) n, get_or_append_left xs ys d j within n))
    (rise i j d below (rw length-append (omega (arith, within))))

-- the last stage is the graph of the last part, or the first one where there is none
pub last_pushed : (stage : Graph) (ps : List Part) (p : Part) → stage_after stage (ps ++ p ∷ []) (length (ps ++ p ∷ [])) ≡ p.next
unfolding stage_after
last_pushed stage [] p = refl
last_pushed stage (q ∷ ps) p = last_pushed q.next ps p

pub none_pushed : (stage : Graph) → stage_after stage [] 0 ≡ stage
unfolding stage_after
none_pushed stage = refl

pub plans_within_more : (stage : Graph) (ps : List Part) (p : Part) → ArePlansWithin stage ps → IsPlanWithin (stage_after stage ps (length ps)) p.next p.plan → ArePlansWithin stage (ps ++ p ∷ [])
unfolding stage_after
plans_within_more stage [] p all within = (within, tt)
plans_within_more stage (q ∷ ps) p (first, rest) within = (first, plans_within_more q.next ps p rest within)

module _ (old new : Graph) (old_graph : IsGraph old) (new_graph : IsGraph new) (moves : List Move) where
  abbrev In : List (List ℕ) → Node → Type 0
  In firsts = IsIn old new moves firsts

  -- groups that rise have no node in common
  pub apart_groups : (xs ys : List (List ℕ)) → AllPairs IsBefore (xs ++ ys) → (n : Node) → In xs n → In ys n → ⊥
  apart_groups xs ys rise n (p, held, g) (q, held', h) =
      apart_rising xs ys rise p held (subst (Contains ys) (sym (one_group old new old_graph new_graph moves p q n g h)) held')

  -- part k takes these groups, after those before it
  record At (groups : List (List ℕ)) (stage : Graph) (ps : List Part) (k : ℕ) (p : Part) : Type 0 where
    before : List (List ℕ)
    taken : List (List ℕ)
    after : List (List ℕ)
    there : slice_get ps k ≡ Some p
    whole : groups ≡ before ++ (taken ++ after)
    stage_is : IsAfter old new moves before old (stage_after stage ps k)
    part_is : IsPart old new moves taken (stage_after stage ps k) p

  record Takes (groups : List (List ℕ)) (stage : Graph) (ps : List Part) (k : ℕ) (q : List ℕ) : Type 0 where
    p : Part
    at : At groups stage ps k p
    has : Contains at.taken q

  -- where it is told of a list with one part more before
  at_later : (groups : List (List ℕ)) (stage : Graph) (ps : List Part) (p0 : Part) (k : ℕ) (p : Part) → At groups p0.next ps k p → At groups stage (p0 ∷ ps) (suc k) p
  unfolding stage_after
  at_later groups stage ps p0 k p w = record { before = w.before; taken = w.taken; after = w.after; there = w.there; whole = w.whole; stage_is = w.stage_is; part_is = w.part_is }

  at_first : (done taken left : List (List ℕ)) (stage : Graph) (p : Part) (ps : List Part) → IsAfter old new moves done old stage → IsPart old new moves taken stage p
      → At (done ++ (taken ++ left)) stage (p ∷ ps) 0 p
  unfolding stage_after
  at_first done taken left stage p ps stage_is part = record { before = done; taken = taken; after = left; there = refl; whole = refl; stage_is = stage_is; part_is = part }

  -- the stage after a part that takes these groups
  pub next_stage : (done taken left : List (List ℕ)) (stage : Graph) (p : Part) → AllPairs IsBefore (done ++ (taken ++ left)) → IsAfter old new moves done old stage → IsPart old new moves taken stage p
      → IsAfter old new moves (done ++ taken) old p.next
  next_stage done taken left stage p rise stage_is part =
      stage_next old new old_graph new_graph moves done taken
      (apart_groups done taken (front_rises (done ++ taken) left (subst (AllPairs IsBefore) (sym (append_assoc done taken left)) rise))) stage stage_is p.next part.leads_to

  record Found (groups : List (List ℕ)) (done : List (List ℕ)) (stage : Graph) (ps : List Part) (k : ℕ) (p : Part) : Type 0 where
    at : At groups stage ps k p
    earlier : (q : List ℕ) → Contains at.before q → Contains done q ⊎ ((j : ℕ) × (j < k) × Takes groups stage ps j q)

  found : (groups done left : List (List ℕ)) (stage : Graph) (ps : List Part) → ArePartsFrom old new moves stage left ps → groups ≡ done ++ left → AllPairs IsBefore groups → IsAfter old new moves done old stage
      → (k : ℕ) (p : Part) → slice_get ps k ≡ Some p → Found groups done stage ps k p
  unfolding at_first at_later
  found groups done _ stage _ none_left whole rise stage_is k p there = absurd (none-some p there)
  found groups done _ stage _ (then_ {taken = taken} {left = left} {p = p0} {ps = ps} part rest) whole rise stage_is zero p there =
      subst (λ q. Found groups done stage (p0 ∷ ps) 0 q) (same_Some p0 p there) (subst (λ gs. Found gs done stage (p0 ∷ ps) 0 p0) (sym whole) (record { at = at_first done taken left stage p0 ps stage_is part; earlier = λ q held. inl held }))
  found groups done _ stage _ (then_ {taken = taken} {left = left} {p = p0} {ps = ps} part rest) whole rise stage_is (suc k) p there =
      let later = found groups (done ++ taken) left p0.next ps rest (whole ∙ sym (append_assoc done taken left)) rise (next_stage done taken left stage p0 (subst (AllPairs IsBefore) whole rise) stage_is part) k p there in
      record {
        at = at_later groups stage ps p0 k p later.at;
        earlier = λ q held. elim (later.earlier q held) [
          | inl was ↦ elim (Contains-append_cases done taken q was) [
            | inl first ↦ inl first
            | inr then ↦ inr (0, omega arith, subst (λ gs. Takes gs stage (p0 ∷ ps) 0 q) (sym whole) (record { p = p0; at = at_first done taken left stage p0 ps stage_is part; has = then }))
          ]
          | inr w ↦ inr (suc w.0, omega (arith, w.1), record { p = w.2.p; at = at_later groups stage ps p0 w.0 w.2.p w.2.at; has = w.2.has })
        ];
      }

  found_for : (groups done left : List (List ℕ)) (stage : Graph) (ps : List Part) → ArePartsFrom old new moves stage left ps → groups ≡ done ++ left → AllPairs IsBefore groups → IsAfter old new moves done old stage
      → (q : List ℕ) → Contains left q → (k : ℕ) × Takes groups stage ps k q
  unfolding at_first at_later
  found_for groups done _ stage _ none_left whole rise stage_is q held = absurd (Contains-nil q held)
  found_for groups done _ stage _ (then_ {taken = taken} {left = left} {p = p0} {ps = ps} part rest) whole rise stage_is q held =
      elim (Contains-append_cases taken left q held) [
        | inl here ↦ (0, subst (λ gs. Takes gs stage (p0 ∷ ps) 0 q) (sym whole) (record { p = p0; at = at_first done taken left stage p0 ps stage_is part; has = here }))
        | inr later ↦
            let w = found_for groups (done ++ taken) left p0.next ps rest (whole ∙ sym (append_assoc done taken left)) rise (next_stage done taken left stage p0 (subst (AllPairs IsBefore) whole rise) stage_is part) q later in
            (suc w.0, record { p = w.1.p; at = at_later groups stage ps p0 w.0 w.1.p w.1.at; has = w.1.has })
      ]

  -- the last stage has all groups
  all_applied : (done left : List (List ℕ)) (stage : Graph) (ps : List Part) → ArePartsFrom old new moves stage left ps → AllPairs IsBefore (done ++ left) → IsAfter old new moves done old stage
      → IsAfter old new moves (done ++ left) old (stage_after stage ps (length ps))
  unfolding stage_after
  all_applied done _ stage _ none_left rise stage_is = subst (λ gs. IsAfter old new moves gs old stage) (sym (append-nil done)) stage_is
  all_applied done _ stage _ (then_ {taken = taken} {left = left} {p = p0} {ps = ps} part rest) rise stage_is =
      let same = append_assoc done taken left in
      subst (λ gs. IsAfter old new moves gs old (stage_after p0.next ps (length ps))) same
      (all_applied (done ++ taken) left p0.next ps rest (subst (AllPairs IsBefore) (sym same) rise) (next_stage done taken left stage p0 rise stage_is part))

  -- one part more
  pub parts_more : (stage : Graph) (taken more_ : List (List ℕ)) (ps : List Part) (p : Part) → ArePartsFrom old new moves stage taken ps → IsPart old new moves more_ (stage_after stage ps (length ps)) p
      → ArePartsFrom old new moves stage (taken ++ more_) (ps ++ p ∷ [])
  unfolding stage_after
  parts_more stage _ more_ _ p none_left part = subst (λ gs. ArePartsFrom old new moves stage gs (p ∷ [])) (append-nil more_) (then_ part none_left)
  parts_more stage _ more_ _ p (then_ {taken = taken} {left = left} {p = p0} {ps = ps} first rest) part =
      subst (λ gs. ArePartsFrom old new moves stage gs (p0 ∷ (ps ++ p ∷ []))) (sym (append_assoc taken left more_)) (then_ first (parts_more p0.next left more_ ps p rest part))

  start_is : (stage : Graph) (ps : List Part) → stage ≡ stage_after stage ps 0
  unfolding stage_after
  start_is stage ps = refl

  -- the stage after a part is its graph
  stage_after_part : (stage : Graph) (ps : List Part) (k : ℕ) (p : Part) → slice_get ps k ≡ Some p → stage_after stage ps (suc k) ≡ p.next
  unfolding stage_after
  stage_after_part stage [] k p there = absurd (none-some p there)
  stage_after_part stage (p0 ∷ ps) zero p there = ap (λ (q : Part). q.next) (same_Some p0 p there)
  stage_after_part stage (p0 ∷ ps) (suc k) p there = stage_after_part p0.next ps k p there

  module _ (ps : List Part) (parts : AreParts old new moves ps) where
    groups : List (List ℕ)
    groups = parts.groups

    first : IsAfter old new moves [] old old
    first = first_stage old new old_graph new_graph moves

    at_part : (k : ℕ) (p : Part) → slice_get ps k ≡ Some p → Found parts.groups [] old ps k p
    at_part k p there = found parts.groups [] parts.groups old ps parts.parts refl parts.are_groups.rise first k p there

    rises_so_far : (k : ℕ) (p : Part) (w : At parts.groups old ps k p) → AllPairs IsBefore (w.before ++ w.taken)
    rises_so_far k p w = front_rises (w.before ++ w.taken) w.after (subst (AllPairs IsBefore) (w.whole ∙ sym (append_assoc w.before w.taken w.after)) parts.are_groups.rise)

    apart : (k : ℕ) (p : Part) (w : At parts.groups old ps k p) (n : Node) → In w.before n → In w.taken n → ⊥
    apart k p w n = apart_groups w.before w.taken (rises_so_far k p w) n

    next_is : (k : ℕ) (p : Part) (w : At parts.groups old ps k p) → IsAfter old new moves (w.before ++ w.taken) old p.next
    next_is k p w = stage_next old new old_graph new_graph moves w.before w.taken (apart k p w) (stage_after old ps k) w.stage_is p.next w.part_is.leads_to

    -- each stage is sound
    pub stages_sound : Sound old → Sound new → (k : ℕ) (p : Part) → slice_get ps k ≡ Some p → Sound p.next
    stages_sound old_sound new_sound k p there =
        let w = (at_part k p there).at in
        stage_sound old new old_graph new_graph moves (w.before ++ w.taken) p.next (next_is k p w) old_sound new_sound w.part_is.no_cycle

    -- and no link of it is lost
    pub has_links : (k : ℕ) (p : Part) → slice_get ps k ≡ Some p → HasLinksOf old new moves p.next
    has_links k p there =
        let w = (at_part k p there).at in
        let both = w.before ++ w.taken in
        let is = next_is k p w in
        record {
          applied = both;
          stage_is = is;
          links = λ from r to x stands. (
            connection_linked (IsNodeAfter old new moves both old) (AreLinkedAfter old new moves both old) p.next is from r to x,
            λ linked. linked_connection (IsNodeAfter old new moves both old) (AreLinkedAfter old new moves both old) p.next is from r to x stands
                (end_of_stage old new old_graph new_graph moves both p.next is from r to x stands linked) linked,
          );
        }

    -- the last is the new graph
    pub last_is_new : stage_after old ps (length ps) ≡ new
    last_is_new = last_stage old new old_graph new_graph moves parts.groups parts.are_groups (stage_after old ps (length ps)) (all_applied [] parts.groups old ps parts.parts parts.are_groups.rise first)

    -- a part creates what its groups create, and removes what they remove
    creates : (k : ℕ) (p : Part) (w : At parts.groups old ps k p) (n : Node) → In w.taken n → IsCreated old new n → IsAtOneOf p.next p.plan.create n
    creates k p w n is_in made =
        gone_listed p.next (stage_after old ps k) p.plan.create w.part_is.plan_is.steps.create n ((w.part_is.leads_to.nodes_are n).1 (inr (is_in, made)))
        (λ there. elim ((w.stage_is.nodes_are n).0 there) [ inl v ↦ made.gone v.0 | inr v ↦ apart k p w n v.0 is_in ])

    removes : (k : ℕ) (p : Part) (w : At parts.groups old ps k p) (n : Node) → In w.taken n → IsRemoved old new n → IsAtOneOf (stage_after old ps k) p.plan.remove n
    removes k p w n is_in lost =
        gone_listed (stage_after old ps k) p.next p.plan.remove w.part_is.plan_is.steps.remove n ((w.stage_is.nodes_are n).1 (inl (lost.there, λ v. apart k p w n v.0 is_in)))
        (λ there. elim ((w.part_is.leads_to.nodes_are n).0 there) [ inl v ↦ v.1 (is_in, lost) | inr v ↦ v.1.gone lost.there ])

    -- what goes on from stage to stage
    goes_on : (Q : Graph → Type 0) → ((m : ℕ) (p : Part) → slice_get ps m ≡ Some p → Q (stage_after old ps m) → Q p.next) → (j d : ℕ) → j + d ≤ length ps → Q (stage_after old ps j) → Q (stage_after old ps (j + d))
    goes_on Q step j zero within has = subst (λ m. Q (stage_after old ps m)) (omega arith) has
    goes_on Q step j (suc d) within has =
        let there = slice_get-there ps (j + d) (omega (arith, within)) in
        subst (λ m. Q (stage_after old ps m)) (omega arith)
        (subst Q (sym (stage_after_part old ps (j + d) there.0 there.1)) (step (j + d) there.0 there.1 (goes_on Q step j d (omega (arith, within)) has)))

    goes_on_past : (Q : Graph → Type 0) → ((m : ℕ) (p : Part) → slice_get ps m ≡ Some p → Q (stage_after old ps m) → Q p.next) → (j k : ℕ) (p q : Part) → slice_get ps j ≡ Some p → slice_get ps k ≡ Some q → j < k → Q p.next → Q (stage_after old ps k)
    goes_on_past Q step j k p q there there' below has =
        let low = slice_get_within ps k q there' in
        subst (λ m. Q (stage_after old ps m)) (omega (arith, below)) (goes_on Q step (suc j) (k - suc j) (omega (arith, below, low)) (subst Q (sym (stage_after_part old ps j p there)) has))

    -- so no two parts create a node, or remove it
    not_created_twice : (n : Node) → IsCreated old new n → (j k : ℕ) → j < k → CreatedBy old ps j n → CreatedBy old ps k n → ⊥
    not_created_twice n made j k below (p, there, at) (q, there', at') =
        let w = (at_part k q there').at in
        listed_gone q.next (stage_after old ps k) q.plan.create w.part_is.plan_is.steps.create n at'
        (goes_on_past (λ g. Contains g.nodes n)
        (λ m r r_there has. ((at_part m r r_there).at.part_is.leads_to.nodes_are n).1 (inl (has, λ v. made.gone v.1.there)))
        j k p q there there' below (Contains-at p.next.nodes at.0 n at.2))

    not_removed_twice : (n : Node) → IsRemoved old new n → (j k : ℕ) → j < k → RemovedBy old ps j n → RemovedBy old ps k n → ⊥
    not_removed_twice n lost j k below (p, there, at) (q, there', at') =
        let v = (at_part j p there).at in
        goes_on_past (λ g. ¬ Contains g.nodes n)
        (λ m r r_there missing has. elim (((at_part m r r_there).at.part_is.leads_to.nodes_are n).0 has) [ inl x ↦ missing x.0 | inr x ↦ x.1.gone lost.there ])
        j k p q there there' below
        (listed_gone (stage_after old ps j) p.next p.plan.remove v.part_is.plan_is.steps.remove n at)
        (Contains-at (stage_after old ps k).nodes at'.0 n at'.2)

    one_of : (P : ℕ → Type 0) → ((j k : ℕ) → j < k → P j → P k → ⊥) → (k : ℕ) → P k → StandsInOne P
    one_of P never k is = record {
      part = k;
      stands = is;
      only = λ j also. elim (cases_eq j k) [
        | inl same ↦ same
        | inr other ↦ elim (cases_lt j k) [ inl below ↦ absurd (never j k below also is) | inr above ↦ absurd (never k j (omega (arith, above, other)) is also) ]
      ];
    }

    taken_by : (n : Node) → In parts.groups n → (k : ℕ) × (p : Part) × (w : At parts.groups old ps k p) × In w.taken n
    taken_by n (q, held, g) =
        let w = found_for parts.groups [] parts.groups old ps parts.parts refl parts.are_groups.rise first q held in
        (w.0, w.1.p, w.1.at, (q, w.1.has, g))

    -- what a part freezes
    pub frozen_before : (All (λ (p : Part). IsGraph p.next) ps) → (k : ℕ) (p : Part) (i : ℕ) (n : Node) → slice_get ps k ≡ Some p → Contains p.plan.freeze i → slice_get (stage_after old ps k).nodes i ≡ Some n
        → IsFrozenAt old new n ⊎ ((j : ℕ) × (j < k) × CreatedBy old ps j n)
    frozen_before graphs k p i n there frozen at =
        let f = at_part k p there in
        let w = f.at in
        elim (frozen_by_whole old new old_graph new_graph moves w.before w.taken (stage_after old ps k) p.next w.stage_is (next_is k p w) (stage_graph graphs k p there) (All-contains (λ (p : Part). IsGraph p.next) ps p graphs (Contains-at ps k p there)) i n at ((w.part_is.plan_is.steps.freeze i).0 frozen)) [
          | inl whole ↦ inl whole
          | inr made ↦ inr (by f made.0 made.1)
        ]
      where
        stage_graph : All (λ (p : Part). IsGraph p.next) ps → (k : ℕ) (p : Part) → slice_get ps k ≡ Some p → IsGraph (stage_after old ps k)
        stage_graph graphs zero p there = subst IsGraph (start_is old ps) old_graph
        stage_graph graphs (suc k) p there =
            let before = slice_get-there ps k (omega (arith, slice_get_within ps (suc k) p there)) in
            subst IsGraph (sym (stage_after_part old ps k before.0 before.1)) (All-contains (λ (p : Part). IsGraph p.next) ps before.0 graphs (Contains-at ps k before.0 before.1))

        by : (f : Found parts.groups [] old ps k p) → In f.at.before n → IsCreated old new n → (j : ℕ) × (j < k) × CreatedBy old ps j n
        by f (q, held, g) made =
            elim (f.earlier q held) [
              | inl none ↦ absurd (Contains-nil q none)
              | inr w ↦ (w.0, w.1, (w.2.p, w.2.at.there, creates w.0 w.2.p w.2.at n (q, w.2.has, g) made))
            ]

    -- each node that is created, and each that is removed, stands in exactly one part
    pub created_once : (n : Node) → IsCreated old new n → StandsInOne (λ k. CreatedBy old ps k n)
    created_once n made =
        let w = taken_by n (parts.are_groups.all n (inr made)) in
        one_of (λ k. CreatedBy old ps k n) (not_created_twice n made) w.0 (w.1, w.2.there, creates w.0 w.1 w.2 n w.3 made)

    pub removed_once : (n : Node) → IsRemoved old new n → StandsInOne (λ k. RemovedBy old ps k n)
    removed_once n lost =
        let w = taken_by n (parts.are_groups.all n (inl (removed_touched old new old_graph new_graph n lost))) in
        one_of (λ k. RemovedBy old ps k n) (not_removed_twice n lost) w.0 (w.1, w.2.there, removes w.0 w.1 w.2 n w.3 lost)
