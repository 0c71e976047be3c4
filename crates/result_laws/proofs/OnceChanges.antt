-- A change that is tried, from a course of lines: its ports are found drained where their roots have ended; and what it
-- does keeps its world alike another one.
use Rattle.std.proofs.Common.{◌≡◌, ◌∙◌, ℕ, ℤ, zero, suc, ◌+◌, ◌<◌, ◌≤◌, inl, Bool, true, false, cond, List, [], ◌∷◌, ◌++◌, append_assoc, length, map, not, None, refl, sym, ap, subst, ⊎_elim, arith}
use Rattle.std.specs.Prelude.{◌==◌, ◌||◌}
use Rattle.std.specs.List.{list_any}
use Rattle.std.proofs.lemmas.Bool.{both_ways, cases_lt, eq-eqb, eqb-true, not-false, or_cases, or_left, or_right}
use Rattle.std.proofs.lemmas.List.{append-nil, nil_from_length}
use Rattle.std.proofs.lemmas.List.Folds.{list_any-append}
use Rattle.base.specs.Each.{EachAfter}
use Rattle.base.proofs.ListLaws.{any_of_none, none_both}
use Rattle.config_graph.specs.Graph.{Graph}
use Rattle.change_plan.specs.declared.plan_data.Move.{Move}
use Rattle.change_plan.specs.declared.plan_data.Plan.{Plan}
use Rattle.change_plan_laws.specs.Commit.{commit_events, new_links, ports_to_close, reopened_ports, work}
use Rattle.quiesce_laws.specs.Drained.{is_drained}
use Rattle.quiesce_laws.specs.Lists.{In}
use Rattle.quiesce_laws.specs.Steps.{change_all}
use Rattle.quiesce_laws.specs.Work.{link_new, make_new, work_of}
use Rattle.quiesce_laws.proofs.TurningLaws.{IsLivePort, SameLinks}
use Rattle.quiesce_core.specs.Doers.{is_of_change}
use Rattle.quiesce_core.specs.Rules.{denial}
use Rattle.quiesce_core.specs.Runs.{IsRun, state_after}
use Rattle.quiesce_core.specs.State.{Configuration, gate}
use Rattle.quiesce_core.specs.declared.event.Event.{Event}
use Rattle.quiesce_core.specs.declared.event.Event.TheVariants as event
use Rattle.quiesce_core.proofs.RunLaws.{StepAt, run_parts}
use Rattle.report_types.specs.declared.report.HistoryLine.{HistoryLine}
use Rattle.report_types.specs.declared.report.HistoryLine.TheVariants as to
use Rattle.change_spec.specs.Changes.{commit_lines, drained_lines, opening_lines, pending_lines, seen_in_all}
use Rattle.change_spec.specs.Members.{Member, is_pending, lines_of_events, of_history}
use Rattle.change_spec.specs.Scene.{drained_line}
use Rattle.change_spec.specs.Serial.{ChangesTo, after_changes, end_events, end_lines, is_none_left, looks_after, seen_at, wait_ends}
use Rattle.change_spec.proofs.SerialLaws.{changed_lines, changed_world}
use Rattle.node_turn_laws.specs.Reached.{IsReached}
use Rattle.node_turn_laws.specs.Round.{FirstAt, after_rounds, round}
use Rattle.node_turn_laws.specs.World.{World, with_event}
use Rattle.node_turn_laws.proofs.ReachedLaws.{holds_where_reached}
use Rattle.change_round_laws.specs.Courses.{Course}
use Rattle.change_round_laws.proofs.ClosedPortLaws.{frozen_live}
use Rattle.change_round_laws.proofs.ClosingLaws.{shut, shut_at, shut_same}
use Rattle.change_round_laws.proofs.LookLaws.{Looked, looked}
use Rattle.change_round_laws.proofs.TogetherLaws.{no_pending_both, no_pending_events, no_pending_map}
use Rattle.result_laws.proofs.MirrorChanges.{Mirrored, change_mirrored}
use Rattle.result_laws.proofs.MirrorRounds.{rounds_mirror}

-- ---- events of the change, in the second of two worlds

event_on : (w : World) (e : Event) (before : List Event) → before ≡ w.events → before ++ e ∷ [] ≡ (with_event w e).events
event_on w (event.Make n node from) before are = ap (λ xs. xs ++ event.Make n node from ∷ []) are
event_on w e before are = ap (λ xs. xs ++ e ∷ []) are ∙ by w e
  where
    by : (w : World) (e : Event) → w.events ++ e ∷ [] ≡ (with_event w e).events
    by w (event.Make n node from) = refl
    by w _ = refl

pub changes_on : (w : World) (es before : List Event) → before ≡ w.events → before ++ es ≡ (after_changes w es).events
changes_on w [] before are = append-nil before ∙ are
changes_on w (e ∷ es) before are = sym (append_assoc before (e ∷ []) es) ∙ changes_on (with_event w e) es (before ++ e ∷ []) (event_on w e before are)

abbrev is_other : Event → Bool
is_other e = not (is_of_change e)

mirrored_along : (a b : World) (before es : List Event) → IsReached b → before ≡ b.events → EachAfter StepAt before es → list_any is_other es ≡ false → Mirrored a b → Mirrored a (after_changes b es)
mirrored_along a b before [] reached are steps change m = m
mirrored_along a b before (e ∷ es) reached are steps change m =
    let own = either (is_other e) (list_any is_other es) change in
    let kind = not-false (is_of_change e) own.0 in
    let may : denial b.machine e ≡ None =
    ap (λ s. denial s e) ((holds_where_reached b reached).0 ∙ ap state_after (sym are)) ∙ steps.0.allowed in
    let v = with_event b e in
    mirrored_along a v (before ++ e ∷ []) es (IsReached.by_change b e reached kind may) (event_on b e before are) steps.1 own.1 (change_mirrored a b e kind may m)
  where
    either : (x y : Bool) → (x || y) ≡ false → (x ≡ false) × (y ≡ false)
    either true y h = absurd (both_ways true h refl)
    either false y h = (refl, h)

pub changes_mirrored : (a b : World) (es : List Event) → IsReached b → IsRun (b.events ++ es) → list_any is_other es ≡ false → Mirrored a b → Mirrored a (after_changes b es)
changes_mirrored a b es reached run change m = mirrored_along a b b.events es reached refl (run_parts b.events es run).1 change m

-- closes, and the events of a commit, are the change's
pub closes_of_change : (ports : List ℕ) → list_any is_other (map event.Close ports) ≡ false
closes_of_change ports = any_of_none is_other event.Close (λ p. refl) ports

pub commit_of_change : (old new : Graph) (plan : Plan) (c : Configuration) → list_any is_other (commit_events old new plan c) ≡ false
commit_of_change old new plan c =
    let w = work old new plan c in
    let unlinks = map event.Unlink w.unlinks in
    let removes = map event.Remove w.removes in
    let makes = map make_new w.makes in
    let links = map link_new (new_links new plan (change_all c (work_of w))) in
    let opens = map event.Reopen (reopened_ports old new plan c) in
    none_both is_other ((unlinks ++ (removes ++ makes)) ++ links) opens
    (none_both is_other (unlinks ++ (removes ++ makes)) links
    (none_both is_other unlinks (removes ++ makes) (any_of_none is_other event.Unlink (λ a. refl) w.unlinks)
    (none_both is_other removes makes (any_of_none is_other event.Remove (λ a. refl) w.removes) (any_of_none is_other make_new (λ a. refl) w.makes)))
    (any_of_none is_other link_new (λ a. refl) (new_links new plan (change_all c (work_of w)))))
    (any_of_none is_other event.Reopen (λ a. refl) (reopened_ports old new plan c))

-- ---- rounds, one after the other

pub rounds_add : (w : World) (i j : ℕ) → after_rounds false (after_rounds false w i) j ≡ after_rounds false w (i + j)
rounds_add w i zero = let sum : i ≡ i + 0 = omega arith in ap (after_rounds false w) sum
rounds_add w i (suc j) =
    let next : suc (i + j) ≡ i + suc j = omega arith in
    ap (λ (v : World). (round false v).world) (rounds_add w i j) ∙ ap (after_rounds false w) next

pub rounds_mirrored : (a b : World) (i j : ℕ) → Mirrored (after_rounds false a i) b → Mirrored (after_rounds false a (i + j)) (after_rounds false b j)
rounds_mirrored a b i j m =
    subst (λ (u : World). Mirrored u (after_rounds false b j)) (rounds_add a i j)
    (record { away = m.away; mirrors = rounds_mirror m.away (after_rounds false a i) b j m.mirrors })

-- ---- a change

module _ (h : List HistoryLine) (w : World) (m : List Member) (course : Course h w m) (name : List ℕ) (args : List ℤ) (g : Graph) (within : ℕ) (moves : List Move) (lines : List HistoryLine) (v : World)
    (c : ChangesTo w name args g within moves lines v) where
  live : (p : ℕ) → In c.closed p → IsLivePort w.machine.config p
  live p i = frozen_live c.old c.plan w.machine.config p (subst (λ ps. In ps p) c.closed_are i)

  -- the world in which it waits
  abbrev pub waits : World
  waits = after_changes w (map event.Close c.closed)

  shut_course : Course (h ++ map to.Close c.closed) (after_changes w (map event.Close c.closed)) (m ++ map of_history (map to.Close c.closed))
  shut_course = shut h w m course c.closed live

  pub waits_reached : IsReached (after_changes w (map event.Close c.closed))
  waits_reached = shut_course.reached

  pub waits_run : IsRun (w.events ++ map event.Close c.closed)
  waits_run = subst IsRun (sym (changes_on w (map event.Close c.closed) w.events refl)) (holds_where_reached (after_changes w (map event.Close c.closed)) waits_reached).1.run

  pub waits_same : SameLinks w.machine.config (after_changes w (map event.Close c.closed)).machine.config
  waits_same = shut_same h w m course c.closed live

  looks_at : (j : ℕ) → Looked (h ++ map to.Close c.closed) (after_changes w (map event.Close c.closed)) (m ++ map of_history (map to.Close c.closed)) c.closed (after_rounds false (after_changes w (map event.Close c.closed)) j)
      (looks_after (after_changes w (map event.Close c.closed)) c.closed j)
  looks_at j = looked (h ++ map to.Close c.closed) (after_changes w (map event.Close c.closed)) (m ++ map of_history (map to.Close c.closed)) c.closed j shut_course

  pub rounds_reached : (j : ℕ) → IsReached (after_rounds false (after_changes w (map event.Close c.closed)) j)
  rounds_reached j = (looks_at j).course.reached

  pub rounds_config : (j : ℕ) → (after_rounds false (after_changes w (map event.Close c.closed)) j).machine.config ≡ (after_changes w (map event.Close c.closed)).machine.config
  rounds_config j = (looks_at j).config

  pub shut_then : (j p : ℕ) → In c.closed p → (gate (after_rounds false (after_changes w (map event.Close c.closed)) j).machine.config p).closed ≡ true
  shut_then j p i = ap (λ d. (gate d p).closed) (rounds_config j) ∙ shut_at h w m course c.closed live p i

  -- none is left exactly where all are drained
  pub none_left_if : (j : ℕ) → ((p : ℕ) → In c.closed p → is_drained (after_rounds false (after_changes w (map event.Close c.closed)) j).machine p ≡ true) → is_none_left (after_changes w (map event.Close c.closed)) c.closed j ≡ true
  none_left_if j all = by (looks_after (after_changes w (map event.Close c.closed)) c.closed j).left refl
    where
      by : (xs : List ℕ) → (looks_after (after_changes w (map event.Close c.closed)) c.closed j).left ≡ xs → (length xs == 0) ≡ true
      by [] e = refl
      by (x ∷ xs) e =
          let in_ : In (looks_after (after_changes w (map event.Close c.closed)) c.closed j).left x = subst (λ ys. In ys x) (sym e) (inl refl) in
          absurd (both_ways (is_drained (after_rounds false (after_changes w (map event.Close c.closed)) j).machine x) ((looks_at j).undrained x in_) (all x ((looks_at j).listed x in_)))

  pub drained_if : (j : ℕ) → is_none_left (after_changes w (map event.Close c.closed)) c.closed j ≡ true → (p : ℕ) → In c.closed p → is_drained (after_rounds false (after_changes w (map event.Close c.closed)) j).machine p ≡ true
  drained_if j none_ p i =
      let l = looks_after (after_changes w (map event.Close c.closed)) c.closed j in
      let empty_ : l.left ≡ [] = nil_from_length l.left (eqb-true (length l.left) 0 none_) in
      ⊎_elim (λ (left : In l.left p). absurd (subst (λ xs. In xs p) empty_ left)) (λ (e : is_drained (after_rounds false (after_changes w (map event.Close c.closed)) j).machine p ≡ true). e) ((looks_at j).drained p i)

  pub first_number : FirstAt (wait_ends (after_changes w (map event.Close c.closed)) c.closed within) c.rounds
  first_number = subst (λ u. FirstAt (wait_ends u c.closed within) c.rounds) c.waits c.number

  pub no_more : c.rounds ≤ within
  no_more = ⊎_elim
      (λ (high : within < c.rounds).
      absurd (both_ways (wait_ends (after_changes w (map event.Close c.closed)) c.closed within within) (first_number.before within high)
      (or_right (is_none_left (after_changes w (map event.Close c.closed)) c.closed within) (within == within) (eq-eqb within within refl))))
      (λ (low : c.rounds ≤ within). low)
      (cases_lt within c.rounds)

  -- it is given up exactly where some port is left
  pub lines_pending : list_any is_pending lines ≡ not (is_none_left (after_changes w (map event.Close c.closed)) c.closed c.rounds)
  lines_pending =
      let at_end = after_rounds false c.waiting c.rounds in
      let found = looks_after c.waiting c.closed c.rounds in
      let opening = opening_lines name args c.old c.plan w.machine.config in
      ap (list_any is_pending) (changed_lines w name args g within moves lines v c)
      ∙ list_any-append is_pending opening (end_lines c.old g c.plan within c.closed at_end found)
      ∙ (λ i. no_pending_map to.Close (λ p. refl) (ports_to_close c.old c.plan w.machine.config) i || by (length found.left == 0) i)
      ∙ ap (λ u. not (is_none_left u c.closed c.rounds)) c.waits
    where
      by : (b : Bool) → list_any is_pending (cond b (drained_lines (looks_after c.waiting c.closed c.rounds).seen ++ commit_lines c.old g c.plan (after_rounds false c.waiting c.rounds).machine.config)
          (drained_lines (looks_after c.waiting c.closed c.rounds).seen ++ pending_lines within (map (seen_at (after_rounds false c.waiting c.rounds)) (looks_after c.waiting c.closed c.rounds).left) c.closed)) ≡ not b
      by true =
          let seen = (looks_after c.waiting c.closed c.rounds).seen in
          let ev = commit_events c.old g c.plan (after_rounds false c.waiting c.rounds).machine.config in
          no_pending_both (drained_lines seen) (lines_of_events ev ++ to.Commit ∷ []) (no_pending_map drained_line (λ s. refl) (seen_in_all seen))
          (no_pending_both (lines_of_events ev) (to.Commit ∷ []) (no_pending_events ev) refl)
      by false =
          let seen = (looks_after c.waiting c.closed c.rounds).seen in
          let tail = pending_lines within (map (seen_at (after_rounds false c.waiting c.rounds)) (looks_after c.waiting c.closed c.rounds).left) c.closed in
          list_any-append is_pending (drained_lines seen) tail ∙ or_right (list_any is_pending (drained_lines seen)) (list_any is_pending tail) refl

  pub none_left_then : list_any is_pending lines ≡ false → is_none_left (after_changes w (map event.Close c.closed)) c.closed c.rounds ≡ true
  none_left_then calm = not-false (is_none_left (after_changes w (map event.Close c.closed)) c.closed c.rounds) (sym lines_pending ∙ calm)

  -- where the ports are drained after so many rounds that it may wait for, it is committed no later
  module _ (j : ℕ) (low : j ≤ within) (none_ : is_none_left (after_changes w (map event.Close c.closed)) c.closed j ≡ true) where
    pub soon : c.rounds ≤ j
    soon = ⊎_elim
        (λ (high : j < c.rounds).
        absurd (both_ways (wait_ends (after_changes w (map event.Close c.closed)) c.closed within j) (first_number.before j high)
        (or_left (is_none_left (after_changes w (map event.Close c.closed)) c.closed j) (j == within) none_)))
        (λ (h : c.rounds ≤ j). h)
        (cases_lt j c.rounds)

    pub none_at_last : is_none_left (after_changes w (map event.Close c.closed)) c.closed c.rounds ≡ true
    none_at_last = ⊎_elim
        (λ (now : is_none_left (after_changes w (map event.Close c.closed)) c.closed c.rounds ≡ true). now)
        (λ (last : (c.rounds == within) ≡ true).
        let at = eqb-true c.rounds within last in
        let early = soon in
        let same : j ≡ c.rounds = omega (arith, at, early, low) in
        subst (λ k. is_none_left (after_changes w (map event.Close c.closed)) c.closed k ≡ true) same none_)
        (or_cases (is_none_left (after_changes w (map event.Close c.closed)) c.closed c.rounds) (c.rounds == within) first_number.holds)

    pub committed : list_any is_pending lines ≡ false
    committed = lines_pending ∙ ap not none_at_last

  -- the world behind it
  pub world_then : is_none_left (after_changes w (map event.Close c.closed)) c.closed c.rounds ≡ true
      → v ≡ after_changes (after_rounds false (after_changes w (map event.Close c.closed)) c.rounds) (commit_events c.old g c.plan (after_rounds false (after_changes w (map event.Close c.closed)) c.rounds).machine.config)
  world_then none_ =
      changed_world w name args g within moves lines v c
      ∙ ap (λ u. after_changes (after_rounds false u c.rounds) (end_events c.old g c.plan c.closed (after_rounds false u c.rounds) (looks_after u c.closed c.rounds))) c.waits
      ∙ ap (λ (b : Bool). after_changes (after_rounds false (after_changes w (map event.Close c.closed)) c.rounds)
      (cond b (commit_events c.old g c.plan (after_rounds false (after_changes w (map event.Close c.closed)) c.rounds).machine.config) (map event.Reopen c.closed))) none_

  -- a world that the waiting one mirrors is mirrored by each behind rounds
  pub waits_mirrored : (a : World) → Mirrored a w → Mirrored a (after_changes w (map event.Close c.closed))
  waits_mirrored a m = changes_mirrored a w (map event.Close c.closed) course.reached waits_run (closes_of_change c.closed) m

  pub world_mirrored : (a : World) → IsReached v → is_none_left (after_changes w (map event.Close c.closed)) c.closed c.rounds ≡ true
      → Mirrored a (after_rounds false (after_changes w (map event.Close c.closed)) c.rounds) → Mirrored a v
  world_mirrored a reached none_ m =
      let u = after_rounds false (after_changes w (map event.Close c.closed)) c.rounds in
      let es = commit_events c.old g c.plan u.machine.config in
      let is = world_then none_ in
      let run : IsRun (u.events ++ es) = subst IsRun (ap (λ (x : World). x.events) is ∙ sym (changes_on u es u.events refl)) (holds_where_reached v reached).1.run in
      subst (Mirrored a) (sym is) (changes_mirrored a u es (rounds_reached c.rounds) run (commit_of_change c.old g c.plan u.machine.config) m)
