-- Changes that follow one another: what is left where the first begins bounds what is left where each later one waits. So
-- none is given up that may wait for so many rounds.
use Rattle.std.proofs.Common.{◌≡◌, ◌∙◌, ℕ, zero, suc, ◌+◌, ◌≤◌, Bool, true, false, cond, List, [], ◌∷◌, ◌++◌, append_assoc, length, map, refl, sym, ap, subst, arith}
use Rattle.std.specs.Prelude.{◌==◌, ◌||◌, All, ℤ}
use Rattle.std.specs.List.{count_by, list_any}
use Rattle.std.proofs.lemmas.Bool.{both_ways}
use Rattle.std.proofs.lemmas.Grind.{flat_map-append}
use Rattle.std.proofs.lemmas.List.{append-nil}
use Rattle.std.proofs.lemmas.List.Elements.{All-head, All-tail}
use Rattle.std.proofs.lemmas.List.Folds.{list_any-append}
use Rattle.std.proofs.lemmas.List.Sums.{fold_push}
use Rattle.std.proofs.lemmas.Option.{none-some}
use Rattle.base.specs.Each.{Each, EachAfter}
use Rattle.base.proofs.EachLaws.{each_parts, each_pushed}
use Rattle.config_graph.specs.Graph.{Graph}
use Rattle.change_plan.specs.declared.plan_data.Move.{Move}
use Rattle.change_plan.specs.declared.plan_data.Plan.{Plan}
use Rattle.change_plan_laws.specs.Commit.{commit_events, new_links, ports_to_close, reopened_ports, work}
use Rattle.quiesce_laws.specs.Steps.{change_all}
use Rattle.quiesce_laws.specs.Work.{link_new, make_new, work_of}
use Rattle.quiesce_laws.specs.Advances.{is_advance, is_begin}
use Rattle.quiesce_core.specs.Rest.{rest}
use Rattle.quiesce_core.specs.Runs.{IsRun, state_after}
use Rattle.quiesce_core.specs.State.{Configuration}
use Rattle.quiesce_core.specs.declared.event.Event.{Event}
use Rattle.quiesce_core.specs.declared.event.Event.TheVariants as event
use Rattle.report_types.specs.declared.report.HistoryLine.{HistoryLine}
use Rattle.report_types.specs.declared.report.HistoryLine.TheVariants as to
use Rattle.change_spec.specs.Changes.{commit_lines, drained_lines, opening_lines, pending_lines, seen_in_all}
use Rattle.change_spec.specs.Members.{is_pending, lines_of_events}
use Rattle.change_spec.specs.Scene.{drained_line}
use Rattle.change_spec.specs.Serial.{ChangesTo, IsPlayed, Looks, Played, Plays, after_changes, end_events, end_lines, lines_played, looks_after, seen_at, world_after}
use Rattle.change_spec.specs.Statements.{Statement, start, change, run, finish, show}
use Rattle.change_spec.proofs.SerialLaws.{changed_world}
use Rattle.node_turn_laws.specs.Posted.{ArePosted}
use Rattle.node_turn_laws.specs.Reached.{IsReached}
use Rattle.node_turn_laws.specs.Round.{after_rounds}
use Rattle.node_turn_laws.specs.World.{World, nowhere, with_event}
use Rattle.node_turn_laws.proofs.ReachedLaws.{holds_where_reached}
use Rattle.change_round_laws.specs.SoundStatements.{AreSound}
use Rattle.change_round_laws.specs.Waits.{IsPatient, MayWait}
use Rattle.change_round_laws.proofs.CommitGraphLaws.{CommitsByConfiguration, CommitsLeaveGraphs, EachMayCommit}
use Rattle.change_round_laws.proofs.MoveLemmas.{RestFalls}
use Rattle.change_round_laws.proofs.PartLemmas.{RoundsDrain, drains, part_posts, reached_before, said, waiting_reached}
use Rattle.change_round_laws.proofs.PlayLaws.{CommitsRun}
use Rattle.change_round_laws.proofs.RoundLemmas.{round_spends}
use Rattle.change_round_laws.proofs.WaitLemmas.{rounds_reach}

-- ---- what the change does begins nothing

no_begin_both : (xs ys : List Event) → list_any is_begin xs ≡ false → list_any is_begin ys ≡ false → list_any is_begin (xs ++ ys) ≡ false
no_begin_both xs ys h k = list_any-append is_begin xs ys ∙ (λ i. h i || k i)

no_begin_map : {A : Type 0} (f : A → Event) → ((a : A) → is_begin (f a) ≡ false) → (xs : List A) → list_any is_begin (map f xs) ≡ false
no_begin_map f h [] = refl
no_begin_map f h (x ∷ xs) = (λ i. h x i || no_begin_map f h xs i)

commit_begins_none : (old new : Graph) (plan : Plan) (c : Configuration) → list_any is_begin (commit_events old new plan c) ≡ false
commit_begins_none old new plan c =
    let w = work old new plan c in
    let unlinks = map event.Unlink w.unlinks in
    let removes = map event.Remove w.removes in
    let makes = map make_new w.makes in
    let links = map link_new (new_links new plan (change_all c (work_of w))) in
    let opens = map event.Reopen (reopened_ports old new plan c) in
    no_begin_both ((unlinks ++ (removes ++ makes)) ++ links) opens
    (no_begin_both (unlinks ++ (removes ++ makes)) links
    (no_begin_both unlinks (removes ++ makes) (no_begin_map event.Unlink (λ a. refl) w.unlinks)
    (no_begin_both removes makes (no_begin_map event.Remove (λ a. refl) w.removes) (no_begin_map make_new (λ a. refl) w.makes)))
    (no_begin_map link_new (λ a. refl) (new_links new plan (change_all c (work_of w)))))
    (no_begin_map event.Reopen (λ a. refl) (reopened_ports old new plan c))

no_begin_if : (b : Bool) (xs ys : List Event) → list_any is_begin xs ≡ false → list_any is_begin ys ≡ false → list_any is_begin (cond b xs ys) ≡ false
no_begin_if true xs ys h k = h
no_begin_if false xs ys h k = k

-- ---- so nothing more is left behind it

event_events : (w : World) (e : Event) → (with_event w e).events ≡ w.events ++ e ∷ []
event_events w (event.Make n node from) = refl
event_events w _ = refl

changes_events : (w : World) (es : List Event) → (after_changes w es).events ≡ w.events ++ es
changes_events w [] = sym (append-nil w.events)
changes_events w (e ∷ es) = changes_events (with_event w e) es ∙ ap (λ xs. xs ++ es) (event_events w e) ∙ append_assoc w.events (e ∷ []) es

abbrev pub RestBoundsAll : Type 0
RestBoundsAll = (es more_ : List Event) → IsRun (es ++ more_) → list_any is_begin more_ ≡ false → count_by is_advance more_ + rest (state_after (es ++ more_)) ≤ rest (state_after es)

changed_rest : RestBoundsAll → (w v : World) (es : List Event) → IsReached w → IsReached v → v ≡ after_changes w es → list_any is_begin es ≡ false → rest v.machine ≤ rest w.machine
changed_rest bounds w v es r r' is none_ =
    let events_are : v.events ≡ w.events ++ es = ap (λ (u : World). u.events) is ∙ changes_events w es in
    let before = holds_where_reached w r in
    let after = holds_where_reached v r' in
    let few = bounds w.events es (subst IsRun events_are after.1.run) none_ in
    let first : rest w.machine ≡ rest (state_after w.events) = ap rest before.0 in
    let last : rest v.machine ≡ rest (state_after (w.events ++ es)) = ap rest (after.0 ∙ ap state_after events_are) in
    omega (arith, few, first, last)

rounds_rest : RestFalls → (w : World) (j : ℕ) → IsReached w → rest (after_rounds false w j).machine ≤ rest w.machine
rounds_rest falls w zero r = omega arith
rounds_rest falls w (suc j) r =
    let so_far = rounds_rest falls w j r in
    let spent = round_spends falls (after_rounds false w j) (rounds_reach false w j r).reached in omega (arith, so_far, spent)

-- ---- lines of what isn't given up

pub no_pending_both : (xs ys : List HistoryLine) → list_any is_pending xs ≡ false → list_any is_pending ys ≡ false → list_any is_pending (xs ++ ys) ≡ false
no_pending_both xs ys h k = list_any-append is_pending xs ys ∙ (λ i. h i || k i)

pub no_pending_map : {A : Type 0} (f : A → HistoryLine) → ((a : A) → is_pending (f a) ≡ false) → (xs : List A) → list_any is_pending (map f xs) ≡ false
no_pending_map f h [] = refl
no_pending_map f h (x ∷ xs) = (λ i. h x i || no_pending_map f h xs i)

pub no_pending_events : (es : List Event) → list_any is_pending (lines_of_events es) ≡ false
no_pending_events [] = refl
no_pending_events (event.Make n node from ∷ es) = no_pending_events es
no_pending_events (event.Link p n x ∷ es) = no_pending_events es
no_pending_events (event.Unlink p ∷ es) = no_pending_events es
no_pending_events (event.Remove n ∷ es) = no_pending_events es
no_pending_events (event.Close p ∷ es) = no_pending_events es
no_pending_events (event.Reopen p ∷ es) = no_pending_events es
no_pending_events (_ ∷ es) = no_pending_events es

-- ---- one change

module _ (bounds : RestBoundsAll) (falls : RestFalls) (law : RoundsDrain) (w : World) (reached : IsReached w) (posted : ArePosted w) (name : List ℕ) (args : List ℤ) (g : Graph) (within : ℕ) (moves : List Move) (lines : List HistoryLine) (v : World)
    (c : ChangesTo w name args g within moves lines v) (v_reached : IsReached v) where
  waits_from : IsReached c.waiting
  waits_from = waiting_reached w reached name args g within moves lines v c

  closing_rest : rest c.waiting.machine ≤ rest w.machine
  closing_rest = changed_rest bounds w c.waiting (map event.Close c.closed) reached waits_from c.waits (no_begin_map event.Close (λ p. refl) c.closed)

  change_rest : rest v.machine ≤ rest w.machine
  change_rest =
      let v0 = after_rounds false c.waiting c.rounds in
      let l = looks_after c.waiting c.closed c.rounds in
      let ended = changed_rest bounds v0 v (end_events c.old g c.plan c.closed v0 l) (rounds_reach false c.waiting c.rounds waits_from).reached v_reached
      (changed_world w name args g within moves lines v c)
      (no_begin_if (length l.left == 0) (commit_events c.old g c.plan v0.machine.config) (map event.Reopen c.closed) (commit_begins_none c.old g c.plan v0.machine.config) (no_begin_map event.Reopen (λ p. refl) c.closed)) in
      let waited = rounds_rest falls c.waiting c.rounds waits_from in
      let closed = closing_rest in omega (arith, ended, waited, closed)

  not_given_up : rest w.machine ≤ within → list_any is_pending lines ≡ false
  not_given_up few =
      let closed = closing_rest in
      let none_ = drains w reached name args g within moves lines v c law posted (omega (arith, closed, few)) in
      let found : (length c.found.left == 0) ≡ true = ap (λ (l : Looks). length l.left == 0) c.found_is ∙ none_ in
      ap (list_any is_pending) c.are
      ∙ no_pending_both (opening_lines name args c.old c.plan w.machine.config) (end_lines c.old g c.plan within c.closed c.at_end c.found)
      (no_pending_map to.Close (λ p. refl) (ports_to_close c.old c.plan w.machine.config)) (ended (length c.found.left == 0) found)
    where
      ended : (b : Bool) → b ≡ true → list_any is_pending (cond b (drained_lines c.found.seen ++ commit_lines c.old g c.plan c.at_end.machine.config) (drained_lines c.found.seen ++ pending_lines within (map (seen_at c.at_end) c.found.left) c.closed)) ≡ false
      ended true h =
          no_pending_both (drained_lines c.found.seen) (commit_lines c.old g c.plan c.at_end.machine.config) (no_pending_map drained_line (λ s. refl) (seen_in_all c.found.seen))
          (no_pending_both (lines_of_events (commit_events c.old g c.plan c.at_end.machine.config)) (to.Commit ∷ []) (no_pending_events (commit_events c.old g c.plan c.at_end.machine.config)) refl)
      ended false h = absurd (both_ways false refl h)

-- ---- all of them

module _ (bounds : RestBoundsAll) (falls : RestFalls) (law : RoundsDrain) (each_may : EachMayCommit) (by_config : CommitsByConfiguration) (leaves : CommitsLeaveGraphs) (commits_run : CommitsRun) (k : ℕ) where
  one_kept : (before : List Played) (p : Played) → IsReached (world_after before) → ArePosted (world_after before) → IsReached p.world → IsPlayed before p → list_any is_pending (lines_played before) ≡ false → rest (world_after before).machine ≤ k
      → MayWait k p → (list_any is_pending p.lines ≡ false) × (rest p.world.machine ≤ k)
  one_kept before p r posted r' plays none_ low waits = by p.statement refl waits
    where
      by : (s : Statement) → p.statement ≡ s → IsPatient k s → (list_any is_pending p.lines ≡ false) × (rest p.world.machine ≤ k)
      by (change name args g within moves) is le =
          let c = (subst (λ s. Plays (lines_played before) (world_after before) s p.lines p.world) is plays).1 none_ in
          let less = change_rest bounds falls law (world_after before) r posted name args g within moves p.lines p.world c r' in
          (not_given_up bounds falls law (world_after before) r posted name args g within moves p.lines p.world c r' (omega (arith, low, le)), omega (arith, less, low))
      by (start name args g) is le = absurd le
      by (run n) is le = absurd le
      by (finish n) is le = absurd le
      by show is le = absurd le

  pub all_kept : (before ps : List Played) → AreSound (said (before ++ ps)) → Each IsPlayed before → EachAfter IsPlayed before ps → ArePosted (world_after before) → list_any is_pending (lines_played before) ≡ false
      → rest (world_after before).machine ≤ k → All (MayWait k) ps → list_any is_pending (lines_played ps) ≡ false
  all_kept before [] sound done each posted none_ low waits = refl
  all_kept before (p ∷ ps) sound done each posted none_ low waits =
      let w = world_after before in
      let r = reached_before each_may by_config leaves commits_run before (p ∷ ps) sound done in
      let there : world_after (before ++ p ∷ []) ≡ p.world = fold_push (λ (u : World) (q : Played). q.world) nowhere before p in
      let sound' = subst (λ xs. AreSound (said xs)) (sym (append_assoc before (p ∷ []) ps)) sound in
      let done' = (each_pushed IsPlayed before p).1 (done, each.0) in
      let r' = reached_before each_may by_config leaves commits_run (before ++ p ∷ []) ps sound' done' in
      let one = one_kept before p r posted (subst IsReached there r') each.0 none_ low (All-head (MayWait k) p ps waits) in
      let lines_then : list_any is_pending (lines_played (before ++ p ∷ [])) ≡ false =
      ap (list_any is_pending) (flat_map-append (λ (q : Played). q.lines) before (p ∷ [])) ∙ no_pending_both (lines_played before) (p.lines ++ []) none_ (ap (list_any is_pending) (append-nil p.lines) ∙ one.0) in
      let rest_then : rest (world_after (before ++ p ∷ [])).machine ≤ k = subst (λ (u : World). rest u.machine ≤ k) (sym there) one.1 in
      let posted' = subst ArePosted (sym there) (part_posts (lines_played before) w p.statement p.lines p.world r posted each.0) in
      no_pending_both p.lines (lines_played ps) one.0 (all_kept (before ++ p ∷ []) ps sound' done' each.1 posted' lines_then rest_then (All-tail (MayWait k) p ps waits))

  -- hints are posted behind the statements that were played
  posted_so : (before ps after : List Played) → AreSound (said (before ++ (ps ++ after))) → Each IsPlayed before → EachAfter IsPlayed before ps → ArePosted (world_after before) → ArePosted (world_after (before ++ ps))
  posted_so before [] after sound done each posted = subst (λ xs. ArePosted (world_after xs)) (sym (append-nil before)) posted
  posted_so before (p ∷ ps) after sound done each posted =
      let r = reached_before each_may by_config leaves commits_run before (p ∷ (ps ++ after)) sound done in
      let there : world_after (before ++ p ∷ []) ≡ p.world = fold_push (λ (u : World) (q : Played). q.world) nowhere before p in
      subst (λ xs. ArePosted (world_after xs)) (append_assoc before (p ∷ []) ps)
      (posted_so (before ++ p ∷ []) ps after (subst (λ xs. AreSound (said xs)) (sym (append_assoc before (p ∷ []) (ps ++ after))) sound) ((each_pushed IsPlayed before p).1 (done, each.0)) each.1
      (subst ArePosted (sym there) (part_posts (lines_played before) (world_after before) p.statement p.lines p.world r posted each.0)))

  nowhere_posted : ArePosted nowhere
  nowhere_posted n r m is = absurd (none-some m is)

  pub drain_together : (before ps : List Played) → AreSound (said (before ++ ps)) → Each IsPlayed (before ++ ps) → list_any is_pending (lines_played before) ≡ false → rest (world_after before).machine ≤ k → All (MayWait k) ps → list_any is_pending (lines_played ps) ≡ false
  drain_together before ps sound played none_ low waits =
      let parts = each_parts IsPlayed [] before ps played in
      all_kept before ps sound parts.0 parts.1 (posted_so [] before ps sound tt parts.0 nowhere_posted) none_ low waits
