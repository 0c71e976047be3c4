-- Lemmas on the room that parts need: together they create no more than the whole change.
use Rattle.std.proofs.Common.{◌≡◌, ◌∙◌, ◌⊎◌, ◌≤◌, ◌<◌, ◌+◌, ℕ, zero, suc, List, [], ◌∷◌, ◌++◌, Option, Some, None, length, refl, ap, sym, subst, inl, inr, arith, Contains, slice_get, filter_map, get_or, append_assoc, length-append}
use Rattle.std.specs.List.{cons_option, range_with_len, sum_by}
use Rattle.std.proofs.lemmas.List.FromFn.{get_or-range_with_len, length-range_with_len}
use Rattle.std.specs.Option.{option_map_or}
use Rattle.std.specs.Prelude.{AllPairs}
use Rattle.std.proofs.lemmas.List.Elements.{All-contains, Contains-append_cases}
use Rattle.std.proofs.lemmas.List.Sums.{sum_by-append, sum_by-cons}
use Rattle.std.proofs.lemmas.Option.{none-some, slice_get_within}
use Rattle.base.proofs.ContainsLaws.{Contains-at, Contains-filter_map, Contains-from_filter_map, Contains-here, Contains-nil, Contains-there, at_some_place}
use Rattle.base.proofs.PlaceLaws.{slice_get-there}
use Rattle.base.proofs.SumLaws.{one_each}
use Rattle.config_graph.specs.Graph.{Graph, IsGraph, PathsRise, requires_at, requires_of}
use Rattle.config_graph.specs.Sound.{Sound}
use Rattle.config_graph.specs.declared.node.Made.{Made}
use Rattle.config_graph.specs.declared.node.Node.{Node}
use Rattle.config_graph.specs.declared.TheConstants.{MAX_NODES, MAX_PORTS}
use Rattle.config_graph.proofs.PathLaws.{one_place}
use Rattle.change_plan.specs.Differences.{GoneNodes, IsGone}
use Rattle.change_plan.specs.Refusals.{CanPlan}
use Rattle.change_plan.specs.Selects.{Selects}
use Rattle.change_plan.specs.Selects.Selects.{ends, takes, skips}
use Rattle.change_plan.specs.declared.plan_data.Move.{Move}
use Rattle.change_plan.proofs.SelectsLaws.{Selects-only, Selects-part, those_told}
use Rattle.change_plan.proofs.StepLaws.{gone_listed, listed_gone}
use Rattle.change_plan.proofs.DifferenceLaws.{tell_gone}
use Rattle.change_parts.specs.Groups.{IsBefore, IsIn}
use Rattle.change_parts.specs.Parts.{AreParts, ArePartsFrom, HasEndsIn, IsPart}
use Rattle.change_parts.specs.Parts.ArePartsFrom.{none_left, then_}
use Rattle.change_parts.specs.Stages.{IsAfter}
use Rattle.change_parts.specs.Ties.{IsCreated}
use Rattle.change_parts.specs.declared.part.Part.{Part}
use Rattle.change_parts.proofs.PartLaws.{apart_groups, front_rises, next_stage}
use Rattle.change_parts.proofs.StageLaws.{first_stage, stage_sound}
use Rattle.change_parts.specs.Carrying.{CanCarryOutAll, made_with}
use Rattle.change_parts.proofs.MovingLemmas.{part_may_move}
use Rattle.change_parts.proofs.CountLaws.{Distinct, distinct_both, sum_within}
use Rattle.change_parts.proofs.CountLaws.Distinct.{nil, cons}

-- the nodes at these places
abbrev pub nodes_at : List Node → List ℕ → List Node
nodes_at nodes places = filter_map (slice_get nodes) places

-- parts of what has no repeats have none
distinct_part : {A : Type 0} (P : A → Type 0) (xs ys : List A) → Selects P xs ys → Distinct xs → Distinct ys
distinct_part P all part ends d = nil
distinct_part P all part (takes {x = x} {xs = xs} {ys = ys} has s) (cons other rest) = cons (λ held. other (Selects-part P xs ys s x held)) (distinct_part P xs ys s rest)
distinct_part P all part (skips {xs = xs} {ys = ys} lacks s) (cons other rest) = distinct_part P xs ys s rest

range_distinct : (n a : ℕ) → Distinct (range_with_len a n)
range_distinct zero a = nil
range_distinct (suc n) a = cons first (range_distinct n (a + 1))
  where
    first : ¬ Contains (range_with_len (a + 1) n) a
    first (k, low, is) =
        let at : get_or (range_with_len (a + 1) n) k a ≡ a + 1 + k = get_or-range_with_len (a + 1) n k a (subst (λ m. k < m) (length-range_with_len (a + 1) n) low) in
        omega (arith, sym at ∙ is)

module _ (nodes : List Node) where
  nodes_sum : (f : Node → ℕ) (places : List ℕ) → ((i : ℕ) → Contains places i → i < length nodes) → sum_by f (nodes_at nodes places) ≡ sum_by (λ i. option_map_or f (slice_get nodes i) 0) places
  nodes_sum f [] inside = refl
  nodes_sum f (i ∷ places) inside = by (slice_get nodes i) refl (nodes_sum f places (λ j held. inside j (Contains-there i j places held)))
    where
      by : (o : Option Node) → slice_get nodes i ≡ o → sum_by f (nodes_at nodes places) ≡ sum_by (λ j. option_map_or f (slice_get nodes j) 0) places
          → sum_by f (cons_option o (nodes_at nodes places)) ≡ sum_by (λ j. option_map_or f (slice_get nodes j) 0) (i ∷ places)
      by None at rest = let there = slice_get-there nodes i (inside i (Contains-here i places)) in absurd (none-some there.0 (sym at ∙ there.1))
      by (Some n) at rest =
          omega (arith, sum_by-cons f n (nodes_at nodes places), rest, sum_by-cons (λ j. option_map_or f (slice_get nodes j) 0) i places, ap (λ o. option_map_or f o 0) at)

  nodes_distinct : PathsRise nodes → (places : List ℕ) → Distinct places → Distinct (nodes_at nodes places)
  nodes_distinct rise [] nil = nil
  nodes_distinct rise (i ∷ places) (cons other rest) = by (slice_get nodes i) refl (nodes_distinct rise places rest)
    where
      by : (o : Option Node) → slice_get nodes i ≡ o → Distinct (nodes_at nodes places) → Distinct (cons_option o (nodes_at nodes places))
      by None at d = d
      by (Some n) at d = cons (λ held. let w = Contains-from_filter_map (slice_get nodes) places n held in other (subst (Contains places) (one_place nodes rise w.0 i n w.2 at) w.1)) d

module _ (g h : Graph) (rise : PathsRise g.nodes) (places : List ℕ) (gone : GoneNodes g h places) where
  abbrev pub ns : List Node
  ns = nodes_at g.nodes places

  within_all : (i : ℕ) → Contains places i → i < length g.nodes
  within_all i held =
      let w = All-contains (IsGone g h) places i (Selects-only (IsGone g h) (range_with_len 0 (length g.nodes)) places gone) held in
      slice_get_within g.nodes i w.node w.here

  pub gone_sum : (f : Node → ℕ) → sum_by f ns ≡ sum_by (λ i. option_map_or f (slice_get g.nodes i) 0) places
  gone_sum f = nodes_sum g.nodes f places within_all

  pub gone_length : length ns ≡ length places
  gone_length = sym (one_each ns) ∙ gone_sum (λ _. 1) ∙ ones places within_all
    where
      ones : (is : List ℕ) → ((i : ℕ) → Contains is i → i < length g.nodes) → sum_by (λ i. option_map_or (λ (n : Node). 1) (slice_get g.nodes i) 0) is ≡ length is
      ones [] inside = refl
      ones (i ∷ is) inside =
          let there = slice_get-there g.nodes i (inside i (Contains-here i is)) in
          let one : Option Node → ℕ = λ o. option_map_or (λ (n : Node). 1) o 0 in
          omega (arith, sum_by-cons (λ j. option_map_or (λ (n : Node). 1) (slice_get g.nodes j) 0) i is, ap one there.1, ones is (λ j held. inside j (Contains-there i j is held)))

  pub gone_distinct : Distinct ns
  gone_distinct = nodes_distinct g.nodes rise places (distinct_part (IsGone g h) (range_with_len 0 (length g.nodes)) places gone (range_distinct (length g.nodes) 0))

  -- which they are
  pub gone_is : (n : Node) → Contains ns n → Contains g.nodes n × (¬ Contains h.nodes n)
  gone_is n held =
      let w = Contains-from_filter_map (slice_get g.nodes) places n held in
      (Contains-at g.nodes w.0 n w.2, listed_gone g h places gone n w)

  pub is_gone : (n : Node) → Contains g.nodes n → ¬ Contains h.nodes n → Contains ns n
  is_gone n there missing =
      let w = gone_listed g h places gone n there missing in
      let p = at_some_place places w.0 w.1 in
      Contains-filter_map (slice_get g.nodes) places p.0 w.0 n p.1 w.2

module _ (old new : Graph) (old_graph : IsGraph old) (new_graph : IsGraph new) (old_sound : Sound old) (new_sound : Sound new) (moves : List Move) (made : Made) (can : CanPlan old new moves made) where
  -- all that is created
  whole : List Node
  whole = ns new old new_graph.paths_rise can.wanted.created can.wanted.gone

  few_nodes : (acc : List Node) → Distinct acc → ((n : Node) → Contains acc n → IsCreated old new n) → made.nodes + length acc ≤ MAX_NODES
  unfolding whole
  few_nodes acc distinct created =
      let below = sum_within (λ _. 1) acc whole distinct (λ n held. let w = created n held in is_gone new old new_graph.paths_rise can.wanted.created can.wanted.gone n w.there w.gone) in
      omega (arith, below, one_each acc, one_each whole, gone_length new old new_graph.paths_rise can.wanted.created can.wanted.gone, can.wanted.nodes_are, can.room.nodes_fit)

  few_ports : (acc : List Node) → Distinct acc → ((n : Node) → Contains acc n → IsCreated old new n) → made.ports + sum_by requires_of acc ≤ MAX_PORTS
  unfolding whole
  few_ports acc distinct created =
      let below = sum_within requires_of acc whole distinct (λ n held. let w = created n held in is_gone new old new_graph.paths_rise can.wanted.created can.wanted.gone n w.there w.gone) in
      omega (arith, below, gone_sum new old new_graph.paths_rise can.wanted.created can.wanted.gone requires_of, can.wanted.ports_are, can.room.ports_fit)

  -- what a part creates is created by the whole, and isn't in the stage before it
  module _ (done taken : List (List ℕ)) (stage : Graph) (p : Part) (stage_is : IsAfter old new moves done old stage) (part : IsPart old new moves taken stage p) where
    abbrev made_here : List Node
    made_here = ns p.next stage part.leads_to.paths_rise p.plan.create part.plan_is.steps.create

    here_created : (n : Node) → Contains made_here n → IsCreated old new n × Contains p.next.nodes n × (¬ Contains stage.nodes n)
    here_created n held =
        let w = gone_is p.next stage part.leads_to.paths_rise p.plan.create part.plan_is.steps.create n held in
        elim ((part.leads_to.nodes_are n).0 w.0) [ inl v ↦ absurd (w.1 v.0) | inr v ↦ (v.1, w.0, w.1) ]

    stays : (n : Node) → IsCreated old new n → Contains stage.nodes n → Contains p.next.nodes n
    stays n made_ there = (part.leads_to.nodes_are n).1 (inl (there, λ v. made_.gone v.1.there))

  pub can_carry_out : (done left : List (List ℕ)) (stage : Graph) (ps : List Part) → ArePartsFrom old new moves stage left ps → AllPairs IsBefore (done ++ left) → IsAfter old new moves done old stage
      → ((p : Part) → Contains ps p → IsGraph p.next)
      → (acc : List Node) → Distinct acc → ((n : Node) → Contains acc n → IsCreated old new n × Contains stage.nodes n) → (m : Made) → m.nodes ≡ made.nodes + length acc → m.ports ≡ made.ports + sum_by requires_of acc
      → CanCarryOutAll stage m ps
  can_carry_out done _ stage _ none_left rise stage_is graphs acc distinct here m nodes_are ports_are = tt
  can_carry_out done _ stage _ (then_ {taken = taken} {left = left} {p = p} {ps = ps} part rest) rise stage_is graphs acc distinct here m nodes_are ports_are =
      let next_is = next_stage old new old_graph new_graph moves done taken left stage p rise stage_is part in
      let mine = made_here done taken stage p stage_is part in
      let all = acc ++ mine in
      let all_distinct : Distinct all = distinct_both acc mine distinct (gone_distinct p.next stage part.leads_to.paths_rise p.plan.create part.plan_is.steps.create) (λ n a b. (here_created done taken stage p stage_is part n b).2 (here n a).1) in
      let all_here = λ (n : Node) (held : Contains all n). in_all n (Contains-append_cases acc mine n held) in
      let nodes_made : length mine ≡ length p.plan.create = gone_length p.next stage part.leads_to.paths_rise p.plan.create part.plan_is.steps.create in
      let ports_made : sum_by requires_of mine ≡ sum_by (requires_at p.next.nodes) p.plan.create = gone_sum p.next stage part.leads_to.paths_rise p.plan.create part.plan_is.steps.create requires_of in
      let fit_nodes = few_nodes all all_distinct (λ n held. (all_here n held).0) in
      let fit_ports = few_ports all all_distinct (λ n held. (all_here n held).0) in
      let sums = sum_by-append requires_of acc mine in (
        record {
          is_graph = graphs p (Contains-here p ps);
          sound = stage_sound old new old_graph new_graph moves (done ++ taken) p.next next_is old_sound new_sound part.no_cycle;
          is_plan = part.plan_is;
          can_plan = record {
            may_move = part_may_move old new old_graph new_graph moves can.may_move done taken stage p.next p.moves (apart_groups old new old_graph new_graph moves done taken (front_rises (done ++ taken) left (subst (AllPairs IsBefore) (sym (append_assoc done taken left)) rise))) stage_is part.leads_to part.moves_are;
            nodes = length p.plan.create;
            ports = sum_by (requires_at p.next.nodes) p.plan.create;
            wanted = record { created = p.plan.create; gone = part.plan_is.steps.create; nodes_are = refl; ports_are = refl };
            room = record {
              nodes_fit = omega (arith, fit_nodes, nodes_made, nodes_are, length-append acc mine);
              ports_fit = omega (arith, fit_ports, ports_made, ports_are, sums);
            };
          };
        },
        can_carry_out (done ++ taken) left p.next ps rest (subst (AllPairs IsBefore) (sym (append_assoc done taken left)) rise) next_is (λ q held. graphs q (Contains-there p q ps held)) all all_distinct all_here (made_with m p)
            (omega (arith, nodes_made, nodes_are, length-append acc mine)) (omega (arith, ports_made, ports_are, sums)),
      )
    where
      in_all : (n : Node) → Contains acc n ⊎ Contains (made_here done taken stage p stage_is part) n → IsCreated old new n × Contains p.next.nodes n
      in_all n (inl a) = let w = here n a in (w.0, stays done taken stage p stage_is part n w.0 w.1)
      in_all n (inr b) = let w = here_created done taken stage p stage_is part n b in (w.0, w.1)

  -- the parts of a change that may be planned may be carried out one after the other
  pub parts_can_carry_out : (ps : List Part) → AreParts old new moves ps → ((p : Part) → Contains ps p → IsGraph p.next) → CanCarryOutAll old made ps
  parts_can_carry_out ps parts graphs = can_carry_out [] parts.groups old ps parts.parts parts.are_groups.rise (first_stage old new old_graph new_graph moves) graphs [] nil (λ n held. absurd (Contains-nil n held)) made (omega arith) (omega arith)

-- what a part makes may be planned where the whole change may
module _ (old new : Graph) (old_graph : IsGraph old) (new_graph : IsGraph new) (old_sound : Sound old) (new_sound : Sound new) (moves : List Move) (made : Made) (can : CanPlan old new moves made)
    (done taken : List (List ℕ)) (stage next : Graph) (own : List Move) (apart : (n : Node) → IsIn old new moves done n → IsIn old new moves taken n → ⊥) (stage_is : IsAfter old new moves done old stage)
    (leads_to : IsAfter old new moves taken stage next) (moves_are : Selects (HasEndsIn old new moves taken) moves own) where
  pub part_can_plan : CanPlan stage next own made
  part_can_plan = record {
    may_move = part_may_move old new old_graph new_graph moves can.may_move done taken stage next own apart stage_is leads_to moves_are;
    nodes = length created;
    ports = sum_by (requires_at next.nodes) created;
    wanted = record { created = created; gone = gone; nodes_are = refl; ports_are = refl };
    room = record {
      nodes_fit = omega (arith, few_nodes old new old_graph new_graph old_sound new_sound moves made can made_here distinct are_created, gone_length next stage leads_to.paths_rise created gone);
      ports_fit = omega (arith, few_ports old new old_graph new_graph old_sound new_sound moves made can made_here distinct are_created, gone_sum next stage leads_to.paths_rise created gone requires_of);
    };
  }
    where
      all : (places : List ℕ) × GoneNodes next stage places
      all = those_told (IsGone next stage) (tell_gone next stage) (range_with_len 0 (length next.nodes))

      created : List ℕ
      created = all.0

      gone : GoneNodes next stage created
      gone = all.1

      made_here : List Node
      made_here = ns next stage leads_to.paths_rise created gone

      distinct : Distinct made_here
      distinct = gone_distinct next stage leads_to.paths_rise created gone

      are_created : (n : Node) → Contains made_here n → IsCreated old new n
      are_created n held =
          let w = gone_is next stage leads_to.paths_rise created gone n held in
          elim ((leads_to.nodes_are n).0 w.0) [ inl v ↦ absurd (w.1 v.0) | inr v ↦ v.1 ]
