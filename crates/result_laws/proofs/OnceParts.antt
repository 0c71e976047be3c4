-- The parts of a change, one after the other, in the rounds in which the whole change would be made at once: what a part
-- freezes the whole freezes, or an earlier part made it; so it is drained by the round at which the whole is.
use Rattle.std.proofs.Common.{◌≡◌, ◌∙◌, ℕ, ℤ, ◌+◌, ◌-◌, ◌<◌, ◌≤◌, inl, inr, true, false, List, [], ◌∷◌, ◌++◌, append_assoc, length, map, Some, refl, sym, ap, subst, ⊎_elim, arith, zero, suc, ◌⊎◌}
use Rattle.std.specs.Prelude.{◌||◌, AllPairs, Contains, is_some, slice_get, All}
use Rattle.std.specs.List.{list_any}
use Rattle.std.proofs.lemmas.Bool.{and_from, and_parts, cases_Bool, or_left}
use Rattle.std.proofs.lemmas.Option.{same_Some, none-some}
use Rattle.config_graph.specs.declared.node.Node.{Node}
use Rattle.change_parts.specs.Freezing.{IsFrozenAt}
use Rattle.change_parts.specs.Ties.{IsCreated}
use Rattle.base.proofs.ContainsLaws.{any_if, any_of, Contains-at}
use Rattle.base.proofs.PlaceLaws.{heads_are, tails_are}
use Rattle.config_graph.specs.Cycles.{IsLinked, graph_wiring}
use Rattle.config_graph.specs.Graph.{Graph, IsGraph}
use Rattle.config_graph.specs.Wiring.{Reach, direct, through}
use Rattle.config_graph.specs.declared.node.Made.{Made}
use Rattle.config_graph.specs.declared.node.Port.{Port}
use Rattle.config_graph.proofs.GraphByLaws.{one_graph}
use Rattle.change_plan.specs.Plans.{IsPlanOf}
use Rattle.change_plan.specs.Touched.{Frozen}
use Rattle.change_plan.specs.declared.plan_data.Move.{Move}
use Rattle.change_plan_laws.specs.Commit.{is_one_of, ports_to_close, stands_in}
use Rattle.change_plan_laws.proofs.StandingLaws.{in_if_stands, stands_if_in}
use Rattle.change_parts.specs.Groups.{IsBefore}
use Rattle.change_parts.specs.Parts.{ArePartsFrom, then_, AreParts, IsPart, stage_after}
use Rattle.change_parts.specs.Stages.{IsAfter}
use Rattle.change_parts.specs.declared.part.Part.{Part}
use Rattle.change_parts.proofs.PartLaws.{frozen_before, next_stage}
use Rattle.change_parts.proofs.StageLaws.{first_stage, in_left}
use Rattle.change_plan.specs.Applying.{IsAtOneOf}
use Rattle.change_plan.proofs.StepLaws.{listed_gone}
use Rattle.quiesce_laws.specs.Drained.{is_drained}
use Rattle.quiesce_laws.specs.Lists.{In}
use Rattle.quiesce_laws.proofs.MemberLaws.{selected}
use Rattle.quiesce_laws.proofs.TurningLaws.{SameLinks}
use Rattle.quiesce_word.specs.Phases.{is_idle}
use Rattle.quiesce_core.specs.Live.{AreLinked, IsGraphOf, IsLiveNode, StandsAt}
use Rattle.quiesce_core.specs.Reach.{IsPortOf}
use Rattle.quiesce_core.specs.State.{Configuration, exchange, gate, owner, slot}
use Rattle.quiesce_core.specs.declared.event.Event.TheVariants as event
use Rattle.quiesce_core.specs.declared.state.Exchange.{Exchange}
use Rattle.quiesce_core.specs.declared.state.Slot.{Slot}
use Rattle.quiesce_core.proofs.ReachLaws.{owner_of}
use Rattle.report_types.specs.declared.report.HistoryLine.{HistoryLine}
use Rattle.change_spec.specs.Members.{Member, is_pending}
use Rattle.change_spec.specs.Serial.{ChangesTo, Played, Plays, after_changes, is_none_left, lines_played}
use Rattle.change_spec.specs.Statements.{Statement, change}
use Rattle.node_turn_laws.specs.Reached.{IsReached}
use Rattle.node_turn_laws.specs.Round.{after_rounds}
use Rattle.node_turn_laws.specs.World.{World}
use Rattle.node_turn_laws.proofs.HintLaws.{well_where_reached}
use Rattle.change_round_laws.specs.Courses.{Course}
use Rattle.change_round_laws.specs.SoundStatements.{GoOnSoundly}
use Rattle.change_round_laws.proofs.ClosedPortLaws.{frozen_listed}
use Rattle.change_round_laws.proofs.CommitGraphLaws.{CommitsByConfiguration, CommitsLeaveGraphs, EachMayCommit, Fits, onward}
use Rattle.change_round_laws.proofs.CourseLaws.{course_config}
use Rattle.change_round_laws.proofs.PlayLaws.{CommitsRun, plays_by}
use Rattle.change_round_laws.proofs.RoundLaws.{PlayedAfter, course_changes}
use Rattle.change_round_laws.proofs.TogetherLaws.{no_pending_both}
use Rattle.result_laws.specs.Rolling.{WaitedFor, WaitedInAll}
use Rattle.result_laws.proofs.MirrorChanges.{Mirrored}
use Rattle.result_laws.proofs.OnceChanges.{committed, drained_if, no_more, none_at_last, none_left_if, none_left_then, rounds_config, rounds_mirrored, rounds_reached, shut_then, soon, waits_mirrored, waits_same, world_mirrored}

-- ---- what a plan freezes stands in its graph

module _ (c : Configuration) (g : Graph) (is_graph : IsGraphOf c g) (h : Graph) where
  -- what begins a link, and what is frozen, is there
  linked_node : (i r j x : ℕ) → IsLinked g i r j x → (n : Node) × (slice_get g.nodes i ≡ Some n)
  linked_node i r j x l = let w = (is_graph.links_are i r j x).0 l in (w.from, w.from_there)

  reaching_node : (n : ℕ) (p : Port) → Reach (graph_wiring g) n p → (m : Node) × (slice_get g.nodes p.node ≡ Some m)
  reaching_node n p (direct {x = x} linked) = linked_node p.node p.require n x linked
  reaching_node n q (through {p = p} {m = m} {x = x} before depends linked) = linked_node q.node q.require m x linked

  frozen_node : (i : ℕ) → Frozen g h i → (n : Node) × (slice_get g.nodes i ≡ Some n)
  frozen_node i (inl (inl gone)) = (gone.node, gone.here)
  frozen_node i (inl (inr new_)) = (new_.stays.node, new_.stays.here)
  frozen_node i (inr (n, r, touched, reach)) = reaching_node n (record { node = i; require = r }) reach

  -- a live node at one of the places that are frozen
  pub record StandsFrozen (n : ℕ) : Type 0 where
    pub place : ℕ
    pub frozen : Frozen g h place
    pub stands : StandsAt c g.nodes n place

  pub stands_frozen : (places : List ℕ) → ((i : ℕ) → Contains places i → Frozen g h i) → (n : ℕ) → is_one_of g places c n ≡ true → StandsFrozen n
  stands_frozen places frozen n is =
      let w = any_of (λ i. stands_in g i c n) places is in
      let f = frozen w.0 w.1 in
      let node = frozen_node w.0 f in
      record { place = w.0; frozen = f; stands = stands_if_in c g is_graph.paths_rise is_graph.nodes_are n w.0 node.0 node.1 w.2 }

-- ---- what a part freezes and creates, by the whole change

-- what leads from a graph to the next freezes is frozen by the whole change, or is new
abbrev pub IsFrozenByWhole : Graph → Graph → Graph → Graph → Type 0
IsFrozenByWhole old new stage next_ = (i : ℕ) (n : Node) → slice_get stage.nodes i ≡ Some n → Frozen stage next_ i → IsFrozenAt old new n ⊎ IsCreated old new n

module _ (old new : Graph) (old_graph : IsGraph old) (new_graph : IsGraph new) (moves : List Move) where
  -- what a part creates is new
  created_new : (done taken : List (List ℕ)) (stage : Graph) (p : Part) → IsAfter old new moves done old stage → IsAfter old new moves (done ++ taken) old p.next → IsPart old new moves taken stage p → (n : Node)
      → IsAtOneOf p.next p.plan.create n → IsCreated old new n
  created_new done taken stage p stage_is next_is part n at =
      elim ((next_is.nodes_are n).0 (Contains-at p.next.nodes at.0 n at.2)) [
        | inl was ↦ absurd (listed_gone p.next stage p.plan.create part.plan_is.steps.create n at
            ((stage_is.nodes_are n).1 (inl (was.0, λ gone. was.1 (in_left old new old_graph new_graph moves done taken n gone.0, gone.1)))))
        | inr made ↦ made.1
      ]

  pub parts_create_new : (done groups : List (List ℕ)) (stage : Graph) (ps : List Part) → ArePartsFrom old new moves stage groups ps → AllPairs IsBefore (done ++ groups) → IsAfter old new moves done old stage
      → (j : ℕ) (p : Part) (n : Node) → slice_get ps j ≡ Some p → IsAtOneOf p.next p.plan.create n → IsCreated old new n
  parts_create_new done groups stage [] parts rise stage_is j p n there at = absurd (none-some p there)
  parts_create_new done _ stage _ (then_ {taken = taken} {left = left} {p = q} {ps = qs} part rest) rise stage_is zero p n there at =
      let next_is = next_stage old new old_graph new_graph moves done taken left stage q rise stage_is part in
      created_new done taken stage q stage_is next_is part n (subst (λ (x : Part). IsAtOneOf x.next x.plan.create n) (sym (same_Some q p there)) at)
  parts_create_new done _ stage _ (then_ {taken = taken} {left = left} {p = q} {ps = qs} part rest) rise stage_is (suc j) p n there at =
      parts_create_new (done ++ taken) left q.next qs rest (subst (AllPairs IsBefore) (sym (append_assoc done taken left)) rise) (next_stage old new old_graph new_graph moves done taken left stage q rise stage_is part) j p n there at

  -- each part's place among all of them
  pub record IsAlong (whole : List Part) (k : ℕ) (stage : Graph) (ps : List Part) : Type 0 where
    pub parts : (d : ℕ) → slice_get whole (k + d) ≡ slice_get ps d
    pub stages : (d : ℕ) → stage_after old whole (k + d) ≡ stage_after stage ps d

  pub along_all : (whole : List Part) → IsAlong whole 0 old whole
  along_all whole = record {
    parts = λ d. ap (slice_get whole) (from_0 d);
    stages = λ d. ap (stage_after old whole) (from_0 d);
  }
    where
      from_0 : (d : ℕ) → 0 + d ≡ d
      from_0 d = omega arith

  pub along_next : (whole : List Part) (k : ℕ) (stage : Graph) (p : Part) (ps : List Part) → IsAlong whole k stage (p ∷ ps) → IsAlong whole (suc k) p.next ps
  unfolding stage_after
  along_next whole k stage p ps h = record {
    parts = λ d. ap (slice_get whole) (later d) ∙ h.parts (suc d);
    stages = λ d. ap (stage_after old whole) (later d) ∙ h.stages (suc d);
  }
    where
      later : (d : ℕ) → suc k + d ≡ k + suc d
      later d = omega arith

  stage_now : (whole : List Part) (k : ℕ) (stage : Graph) (ps : List Part) → IsAlong whole k stage ps → stage_after old whole k ≡ stage
  unfolding stage_after
  stage_now whole k stage ps h = let sum : k ≡ k + 0 = omega arith in ap (stage_after old whole) sum ∙ h.stages 0

  pub part_by_whole : (whole : List Part) (parts : AreParts old new moves whole) → All (λ (x : Part). IsGraph x.next) whole → (k : ℕ) (stage : Graph) (p : Part) (ps : List Part) → IsAlong whole k stage (p ∷ ps)
      → IsPlanOf stage p.next p.moves p.plan → IsFrozenByWhole old new stage p.next
  part_by_whole whole parts graphs k stage p ps h plan i n at frozen =
      let sum : k ≡ k + 0 = omega arith in
      let there : slice_get whole k ≡ Some p = ap (slice_get whole) sum ∙ h.parts 0 in
      elim (frozen_before old new old_graph new_graph moves whole parts graphs k p i n there ((plan.steps.freeze i).1 frozen) (ap (λ (g : Graph). slice_get g.nodes i) (stage_now whole k stage (p ∷ ps) h) ∙ at)) [
        | inl here ↦ inl here
        | inr made ↦ inr (parts_create_new [] parts.groups old whole parts.parts parts.are_groups.rise (first_stage old new old_graph new_graph moves) made.0 made.2.0 n made.2.1 made.2.2)
      ]

-- what comes of changes that were tried from a world on, where the first begins behind so many rounds
pub record AllGo (most t : ℕ) (w : World) (qs : List Played) : Type 0 where
  pub calm : list_any is_pending (lines_played qs) ≡ false
  pub rounds : ℕ
  pub few : t + rounds ≤ most
  pub waited : WaitedInAll w qs rounds

-- ---- one part, beside the change at once

module _ (old new : Graph) (old_graph : IsGraph old) (new_graph : IsGraph new) (moves : List Move) (name : List ℕ) (args : List ℤ) (within : ℕ) (h0 : List HistoryLine) (w0 : World) (m0 : List Member)
    (course0 : Course h0 w0 m0) (graph0 : IsGraphOf w0.machine.config old) (lines0 : List HistoryLine) (v0 : World) (once : ChangesTo w0 name args new within moves lines0 v0) (calm : list_any is_pending lines0 ≡ false) where
  -- the world in which the whole change waits, and its rounds
  abbrev a : World
  a = after_changes w0 (map event.Close once.closed)

  abbrev all : ℕ
  all = once.rounds

  same_old : once.old ≡ old
  same_old = one_graph (IsLiveNode w0.machine.config) (AreLinked w0.machine.config) once.old old once.is_old graph0

  few : once.rounds ≤ within
  few = no_more h0 w0 m0 course0 name args new within moves lines0 v0 once

  once_drained : (p : ℕ) → In once.closed p → is_drained (after_rounds false (after_changes w0 (map event.Close once.closed)) once.rounds).machine p ≡ true
  once_drained = drained_if h0 w0 m0 course0 name args new within moves lines0 v0 once once.rounds (none_left_then h0 w0 m0 course0 name args new within moves lines0 v0 once calm)

  reached_a : (j : ℕ) → IsReached (after_rounds false (after_changes w0 (map event.Close once.closed)) j)
  reached_a = rounds_reached h0 w0 m0 course0 name args new within moves lines0 v0 once

  -- a live node that the whole freezes has its ports drained by then
  whole_drains : (n i p : ℕ) (k : Slot) → slot w0.machine.config n ≡ Some k → k.live ≡ true → slice_get old.nodes i ≡ Some k.node → Frozen old new i → IsPortOf w0.machine.config n p
      → is_drained (after_rounds false (after_changes w0 (map event.Close once.closed)) once.rounds).machine p ≡ true
  whole_drains n i p k there live at frozen port =
      let c = w0.machine.config in
      let sound = (well_where_reached w0 course0.reached).sound in
      let row_ = sound.rows n port.node port.made in
      let within_ = row_.within in
      let below = port.below in
      let plan : IsPlanOf old new moves once.plan = subst (λ g. IsPlanOf g new moves once.plan) same_old once.is_plan in
      let stands = in_if_stands c old n i (record { made = k; there = there; live = live; stands = at }) in
      let one : is_one_of old once.plan.freeze c n ≡ true = any_if (λ j. stands_in old j c n) once.plan.freeze i ((plan.steps.freeze i).1 frozen) stands in
      let own : is_one_of old once.plan.freeze c (owner c p) ≡ true = ap (is_one_of old once.plan.freeze c) (owner_of c sound n p port) ∙ one in
      let listed : In (ports_to_close old once.plan c) p = frozen_listed old once.plan c p (omega (arith, within_, below)) own in
      once_drained p (subst (λ ps. In ps p) (sym (once.closed_are ∙ ap (λ g. ports_to_close g once.plan c) same_old)) listed)

  module _ (stage : Graph) (q : Part) (by_whole : IsFrozenByWhole old new stage q.next)
      (h : List HistoryLine) (w : World) (m : List Member) (course : Course h w m) (graph : IsGraphOf w.machine.config stage) (lines : List HistoryLine) (v : World)
      (c : ChangesTo w name args q.next within q.moves lines v) (t : ℕ) (low : t ≤ once.rounds) (mirrored : Mirrored (after_rounds false (after_changes w0 (map event.Close once.closed)) t) w) where
    -- the world in which it waits, and the rounds until the whole is drained
    abbrev b : World
    b = after_changes w (map event.Close c.closed)

    abbrev left : ℕ
    left = once.rounds - t

    b_reached : (j : ℕ) → IsReached (after_rounds false (after_changes w (map event.Close c.closed)) j)
    b_reached = rounds_reached h w m course name args q.next within q.moves lines v c

    waiting : (j : ℕ) → Mirrored (after_rounds false (after_changes w0 (map event.Close once.closed)) (t + j)) (after_rounds false (after_changes w (map event.Close c.closed)) j)
    waiting j =
        rounds_mirrored (after_changes w0 (map event.Close once.closed)) (after_changes w (map event.Close c.closed)) t j
        (waits_mirrored h w m course name args q.next within q.moves lines v c (after_rounds false (after_changes w0 (map event.Close once.closed)) t) mirrored)

    at_last : Mirrored (after_rounds false (after_changes w0 (map event.Close once.closed)) once.rounds) (after_rounds false (after_changes w (map event.Close c.closed)) (once.rounds - t))
    at_last =
        let sum : t + (once.rounds - t) ≡ once.rounds = omega (arith, low) in
        subst (λ k. Mirrored (after_rounds false (after_changes w0 (map event.Close once.closed)) k) (after_rounds false (after_changes w (map event.Close c.closed)) (once.rounds - t))) sum (waiting (once.rounds - t))

    same_stage : c.old ≡ stage
    same_stage = one_graph (IsLiveNode w.machine.config) (AreLinked w.machine.config) c.old stage c.is_old graph

    drained : (p : ℕ) → In c.closed p → is_drained (after_rounds false (after_changes w (map event.Close c.closed)) (once.rounds - t)).machine p ≡ true
    drained p i =
        let x = after_rounds false (after_changes w0 (map event.Close once.closed)) once.rounds in
        let y = after_rounds false (after_changes w (map event.Close c.closed)) (once.rounds - t) in
        let cw = w.machine.config in
        let cy = y.machine.config in
        let cx = x.machine.config in
        let c0 = w0.machine.config in
        let well_y = well_where_reached y (b_reached (once.rounds - t)) in
        let well_x = well_where_reached x (reached_a once.rounds) in
        let same : SameLinks cw cy = subst (SameLinks cw) (sym (rounds_config h w m course name args q.next within q.moves lines v c (once.rounds - t))) (waits_same h w m course name args q.next within q.moves lines v c) in
        let same0 : SameLinks c0 cx = subst (SameLinks c0) (sym (rounds_config h0 w0 m0 course0 name args new within moves lines0 v0 once once.rounds)) (waits_same h0 w0 m0 course0 name args new within moves lines0 v0 once) in
        let s = selected (λ r. is_one_of c.old c.plan.freeze cw (owner cw r)) 0 (length cw.gates) p (subst (λ ps. In ps p) c.closed_are i) in
        let n = owner cw p in
        let long = same.long in
        let below = s.below in
        let port_y : IsPortOf cy n p = subst (λ k. IsPortOf cy k p) (same.owners p) (well_y.sound.ports p (omega (arith, long, below))) in
        let closed = shut_then h w m course name args q.next within q.moves lines v c (once.rounds - t) p i in
        and_from (gate cy p).closed (is_idle (exchange y.machine p).phase || is_some (exchange y.machine p).within) closed
        (⊎_elim
        (λ (yes_ : at_last.away n ≡ true). or_left (is_idle (exchange y.machine p).phase) (is_some (exchange y.machine p).within) (at_last.mirrors.there.own n p yes_ port_y))
        (λ (no_ : at_last.away n ≡ false).
        let alike = at_last.mirrors.alike in
        let plan : IsPlanOf c.old q.next q.moves c.plan = c.is_plan in
        let f = stands_frozen cw c.old c.is_old q.next c.plan.freeze (λ j there. (plan.steps.freeze j).0 there) n s.passes in
        let k = f.stands.made in
        let slots_x : slot cx n ≡ Some k = alike.slots n no_ ∙ ap (λ xs. slice_get xs n) same.slots ∙ f.stands.there in
        let slots_0 : slot c0 n ≡ Some k = sym (ap (λ xs. slice_get xs n) same0.slots) ∙ slots_x in
        let port_0 : IsPortOf c0 n p = record { node = k; made = slots_0; from = own_from k n p port_y (alike.slots n no_) slots_x; below = own_below k n p port_y (alike.slots n no_) slots_x } in
        let in_old : Contains old.nodes k.node = (graph0.nodes_are k.node).1 (n, record { made = k; there = slots_0; live = f.stands.live; is_node = refl }) in
        let at_stage : slice_get stage.nodes f.place ≡ Some k.node = ap (λ (g : Graph). slice_get g.nodes f.place) (sym same_stage) ∙ f.stands.stands in
        let frozen_stage : Frozen stage q.next f.place = subst (λ g. Frozen g q.next f.place) same_stage f.frozen in
        let whole : is_drained x.machine p ≡ true = elim (by_whole f.place k.node at_stage frozen_stage) [
          | inl here ↦ whole_drains n here.0 p k slots_0 f.stands.live here.1 here.2 port_0
          | inr made ↦ absurd (made.gone in_old)
        ] in
        subst (λ (z : Exchange). (is_idle z.phase || is_some z.within) ≡ true) (alike.exchanges p)
        (and_parts (gate cx p).closed (is_idle (exchange x.machine p).phase || is_some (exchange x.machine p).within) whole).1)
        (cases_Bool (at_last.away n)))
      where
        own_node : (k : Slot) (n p : ℕ) (o : IsPortOf (after_rounds false (after_changes w (map event.Close c.closed)) (once.rounds - t)).machine.config n p)
            → slot (after_rounds false (after_changes w0 (map event.Close once.closed)) once.rounds).machine.config n ≡ slot (after_rounds false (after_changes w (map event.Close c.closed)) (once.rounds - t)).machine.config n
            → slot (after_rounds false (after_changes w0 (map event.Close once.closed)) once.rounds).machine.config n ≡ Some k → o.node ≡ k
        own_node k n p o same is = same_Some o.node k (sym o.made ∙ sym same ∙ is)

        own_from : (k : Slot) (n p : ℕ) (o : IsPortOf (after_rounds false (after_changes w (map event.Close c.closed)) (once.rounds - t)).machine.config n p)
            → slot (after_rounds false (after_changes w0 (map event.Close once.closed)) once.rounds).machine.config n ≡ slot (after_rounds false (after_changes w (map event.Close c.closed)) (once.rounds - t)).machine.config n
            → slot (after_rounds false (after_changes w0 (map event.Close once.closed)) once.rounds).machine.config n ≡ Some k → k.first_port ≤ p
        own_from k n p o same is = subst (λ (z : Slot). z.first_port ≤ p) (own_node k n p o same is) o.from

        own_below : (k : Slot) (n p : ℕ) (o : IsPortOf (after_rounds false (after_changes w (map event.Close c.closed)) (once.rounds - t)).machine.config n p)
            → slot (after_rounds false (after_changes w0 (map event.Close once.closed)) once.rounds).machine.config n ≡ slot (after_rounds false (after_changes w (map event.Close c.closed)) (once.rounds - t)).machine.config n
            → slot (after_rounds false (after_changes w0 (map event.Close once.closed)) once.rounds).machine.config n ≡ Some k → p < k.first_port + length (Rattle.config_graph.specs.Kinds.row k.node.kind).requires_
        own_below k n p o same is = subst (λ (z : Slot). p < z.first_port + length (Rattle.config_graph.specs.Kinds.row z.node.kind).requires_) (own_node k n p o same is) o.below

    none_left_by : is_none_left (after_changes w (map event.Close c.closed)) c.closed (once.rounds - t) ≡ true
    none_left_by = none_left_if h w m course name args q.next within q.moves lines v c (once.rounds - t) drained

    left_few : once.rounds - t ≤ within
    left_few = let high = few in omega (arith, high)

    pub part_committed : list_any is_pending lines ≡ false
    part_committed = committed h w m course name args q.next within q.moves lines v c (once.rounds - t) left_few none_left_by

    pub part_soon : t + c.rounds ≤ once.rounds
    part_soon = let early = soon h w m course name args q.next within q.moves lines v c (once.rounds - t) left_few none_left_by in omega (arith, early, low)

    pub part_mirrored : IsReached v → Mirrored (after_rounds false (after_changes w0 (map event.Close once.closed)) (t + c.rounds)) v
    part_mirrored reached =
        world_mirrored h w m course name args q.next within q.moves lines v c (after_rounds false (after_changes w0 (map event.Close once.closed)) (t + c.rounds)) reached
        (none_at_last h w m course name args q.next within q.moves lines v c (once.rounds - t) left_few none_left_by) (waiting c.rounds)

  -- ---- all parts

  abbrev part_change : Part → Statement
  part_change p = change name args p.next within p.moves

  abbrev said : List Played → List Statement
  said qs = map (λ (x : Played). x.statement) qs

  module _ (each_may : EachMayCommit) (by_config : CommitsByConfiguration) (leaves : CommitsLeaveGraphs) (commits_run : CommitsRun) (statements : List Statement) where
    pub all_committed : (whole : List Part) (parts : AreParts old new moves whole) → All (λ (x : Part). IsGraph x.next) whole → (groups : List (List ℕ)) (stage : Graph) (ps : List Part) (k : ℕ)
        → IsAlong old new old_graph new_graph moves whole k stage ps → ArePartsFrom old new moves stage groups ps → (before : List Statement) (h : List HistoryLine) (w : World) (m : List Member) (made : Made) → statements ≡ before ++ map part_change ps → Course h w m → Fits before h stage made → GoOnSoundly (map part_change ps) stage made
        → list_any is_pending h ≡ false → (qs : List Played) → said qs ≡ map part_change ps → PlayedAfter h w qs → (t : ℕ) → t ≤ once.rounds
        → Mirrored (after_rounds false (after_changes w0 (map event.Close once.closed)) t) w → AllGo once.rounds t w qs
    all_committed whole whole_parts graphs groups stage [] k along parts before h w m made are course fits says none_ [] same played t low mirrored =
        record { calm = refl; rounds = 0; few = omega (arith, low); waited = refl }
    all_committed whole whole_parts graphs groups stage [] k along parts before h w m made are course fits says none_ (x ∷ qs) same played t low mirrored = absurd (cc same)
    all_committed whole whole_parts graphs groups stage (p ∷ ps) k along parts before h w m made are course fits says none_ [] same played t low mirrored = absurd (cc same)
    all_committed whole whole_parts graphs _ stage _ k along (then_ {taken = taken} {left = left} {p = p} {ps = ps} part rest) before h w m made are course fits says none_ (x ∷ qs) same played t low mirrored =
        let is : x.statement ≡ part_change p = heads_are x.statement (part_change p) (said qs) (map part_change ps) same in
        let plays : Plays h w (part_change p) x.lines x.world = subst (λ s. Plays h w s x.lines x.world) is played.0 in
        let c = plays.1 none_ in
        let by_whole = part_by_whole old new old_graph new_graph moves whole whole_parts graphs k stage p ps along part.plan_is in
        let here = plays_by commits_run by_config before (part_change p) h x.lines (map part_change ps) w x.world m stage made course fits says plays in
        let next = onward each_may by_config leaves statements before (part_change p) h x.lines (map part_change ps) stage made are here.right (course_changes h w m course) fits says in
        let graph = (fits.stands none_).graph in
        let graph_w : IsGraphOf w.machine.config stage = subst (λ d. IsGraphOf d stage) (sym (course_config h w m course)) graph in
        let one = part_committed stage p by_whole h w m course graph_w x.lines x.world c t low mirrored in
        let fits_next : Fits (before ++ part_change p ∷ []) (h ++ x.lines) p.next next.made = subst (λ g. Fits (before ++ part_change p ∷ []) (h ++ x.lines) g next.made) next.named next.fits in
        let below : GoOnSoundly (map part_change ps) p.next next.made = subst (λ g. GoOnSoundly (map part_change ps) g next.made) next.named next.below in
        let later =
        all_committed whole whole_parts graphs left p.next ps (suc k) (along_next old new old_graph new_graph moves whole k stage p ps along) rest (before ++ part_change p ∷ []) (h ++ x.lines) x.world here.members next.made
        (are ∙ sym (append_assoc before (part_change p ∷ []) (map part_change ps))) here.course fits_next below (no_pending_both h x.lines none_ one)
        qs (tails_are x.statement (part_change p) (said qs) (map part_change ps) same) played.1 (t + c.rounds)
        (part_soon stage p by_whole h w m course graph_w x.lines x.world c t low mirrored)
        (part_mirrored stage p by_whole h w m course graph_w x.lines x.world c t low mirrored here.course.reached) in
        let sum = later.few in
        record {
          calm = no_pending_both x.lines (lines_played qs) one later.calm;
          rounds = c.rounds + later.rounds;
          few = omega (arith, sum);
          waited = (c.rounds, later.rounds, refl, subst (λ s. WaitedFor w s x.lines x.world c.rounds) (sym is) (c, refl), later.waited);
        }
