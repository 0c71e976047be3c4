-- Statements that rounds play, one after the other: worlds are reached, hints are posted, and changes drain in time.
use Rattle.std.proofs.Common.{◌≡◌, ◌∙◌, ℕ, ◌≤◌, true, false, List, [], ◌∷◌, ◌++◌, append_assoc, map, refl, sym, ap, subst, ⊎_elim, arith}
use Rattle.std.specs.Prelude.{◌==◌, fold}
use Rattle.std.specs.List.{list_any}
use Rattle.std.proofs.lemmas.Bool.{both_ways, cases_Bool, cases_eq, eqb-true, or_cases, or_left}
use Rattle.std.proofs.lemmas.List.{map-append}
use Rattle.std.proofs.lemmas.List.Sums.{fold_push}
use Rattle.base.specs.Each.{Each, EachAfter}
use Rattle.base.proofs.EachLaws.{each_pushed}
use Rattle.config_graph.specs.Graph.{Graph}
use Rattle.config_graph.specs.declared.node.Made.{Made}
use Rattle.change_spec.specs.Members.{is_pending}
use Rattle.change_spec.specs.Serial.{ChangesTo, IsPlayed, Played, Plays, end_events, is_none_left, lines_played, looks_after, wait_ends, world_after}
use Rattle.change_spec.specs.Statements.{Statement, start, change, run, finish, show}
use Rattle.report_types.specs.declared.report.HistoryLine.{HistoryLine}
use Rattle.quiesce_laws.specs.Lists.{In}
use Rattle.node_turn_laws.specs.Posted.{ArePosted}
use Rattle.quiesce_core.specs.Rest.{rest}
use Rattle.quiesce_core.specs.State.{Configuration, gate}
use Rattle.quiesce_core.specs.declared.event.Event.TheVariants.{Close}
use Rattle.quiesce_laws.specs.Starts.{start_of}
use Rattle.change_round_laws.proofs.ClosedPortLaws.{frozen_live}
use Rattle.change_round_laws.proofs.CommitGraphLaws.{CommitsByConfiguration, CommitsLeaveGraphs, EachMayCommit}
use Rattle.change_round_laws.proofs.PlayLaws.{CommitsRun}
use Rattle.change_spec.proofs.SerialLaws.{changed_world}
use Rattle.change_round_laws.proofs.RoundLaws.{from_start, played_after}
use Rattle.change_round_laws.specs.SoundStatements.{AreSound, GoOnSoundly}
use Rattle.node_turn_laws.specs.Reached.{IsReached}
use Rattle.node_turn_laws.specs.Round.{after_rounds}
use Rattle.node_turn_laws.specs.World.{World, nowhere}
use Rattle.change_round_laws.specs.Waits.{DrainsInTime, IsAllIdle, IsDrainedInTime}
use Rattle.change_round_laws.proofs.WaitLemmas.{Closed, changes_post, closes, drained_if, none_left_if, rounds_post, rounds_reach}

-- rounds drain what is left
abbrev pub RoundsDrain : Type 0
RoundsDrain = (w : World) → IsReached w → ArePosted w → (j : ℕ) × (j ≤ rest w.machine) × IsAllIdle (after_rounds false w j).machine

-- ---- a change

module _ (w : World) (reached : IsReached w) (name : List ℕ) (args : List Rattle.std.specs.Prelude.ℤ) (g : Graph) (within : ℕ) (moves : List Rattle.change_plan.specs.declared.plan_data.Move.Move) (lines : List HistoryLine) (v : World)
    (c : ChangesTo w name args g within moves lines v) where
  closing : Closed w c.closed
  closing = closes w c.closed reached (λ p i. frozen_live c.old c.plan w.machine.config p (subst (λ ps. In ps p) c.closed_are i))

  pub waiting_reached : IsReached c.waiting
  waiting_reached = subst IsReached (sym c.waits) closing.reached

  pub shut : (p : ℕ) → In c.closed p → (gate c.waiting.machine.config p).closed ≡ true
  shut p i = subst (λ (u : World). (gate u.machine.config p).closed ≡ true) (sym c.waits) (closing.shut p i)

  pub change_posts : ArePosted w → ArePosted v
  change_posts h =
      subst ArePosted (sym (changed_world w name args g within moves lines v c))
      (changes_post (after_rounds false c.waiting c.rounds)
      (end_events c.old g c.plan c.closed (after_rounds false c.waiting c.rounds) (looks_after c.waiting c.closed c.rounds))
      (rounds_post false c.waiting c.rounds waiting_reached (subst ArePosted (sym c.waits) (changes_post w (map Close c.closed) h))))

  pub drains : RoundsDrain → ArePosted w → rest c.waiting.machine ≤ within → is_none_left c.waiting c.closed c.rounds ≡ true
  drains law h few =
      let d = law c.waiting waiting_reached (subst ArePosted (sym c.waits) (changes_post w (map Close c.closed) h)) in
      let low = d.1 in
      let gone : is_none_left c.waiting c.closed d.0 ≡ true =
      none_left_if c.waiting c.closed d.0 (λ p i.
      drained_if (after_rounds false c.waiting d.0).machine p
      (ap (λ (k : Configuration). (gate k p).closed) (rounds_reach false c.waiting d.0 waiting_reached).config ∙ shut p i) (d.2 p)) in
      ⊎_elim
      (λ (none_ : is_none_left c.waiting c.closed c.rounds ≡ true). none_)
      (λ (last : (c.rounds == within) ≡ true).
      let at = eqb-true c.rounds within last in
      ⊎_elim
      (λ (same : d.0 ≡ c.rounds). subst (λ j. is_none_left c.waiting c.closed j ≡ true) same gone)
      (λ (other : d.0 ≡ c.rounds → ⊥).
      absurd (both_ways (wait_ends c.waiting c.closed within d.0) (c.number.before d.0 (omega (arith, low, few, at, other)))
      (or_left (is_none_left c.waiting c.closed d.0) (d.0 == within) gone)))
      (cases_eq d.0 c.rounds))
      (or_cases (is_none_left c.waiting c.closed c.rounds) (c.rounds == within) c.number.holds)

-- ---- a statement

pub part_posts : (h : List HistoryLine) (w : World) (s : Statement) (ls : List HistoryLine) (v : World) → IsReached w → ArePosted w → Plays h w s ls v → ArePosted v
part_posts h w (start name args g) ls v r posted plays = subst ArePosted (sym plays.1) (changes_post w (start_of g) posted)
part_posts h w (change name args g within moves) ls v r posted plays = ⊎_elim
    (λ (skipped : list_any is_pending h ≡ true). subst ArePosted (sym (plays.0 skipped).world) posted)
    (λ (tried : list_any is_pending h ≡ false). change_posts w r name args g within moves ls v (plays.1 tried) posted)
    (cases_Bool (list_any is_pending h))
part_posts h w (run k) ls v r posted plays = subst ArePosted (sym plays.world) (rounds_post true w plays.rounds r posted)
part_posts h w (finish n) ls v r posted plays = subst ArePosted (sym plays.world) (rounds_post true w plays.rounds r posted)
part_posts h w show ls v r posted plays = subst ArePosted (sym plays.1) posted

part_drains : RoundsDrain → (w : World) (s : Statement) (ls : List HistoryLine) (v : World) → IsReached w → ArePosted w → IsDrainedInTime w s ls v
part_drains law w (change name args g within moves) ls v r posted = λ c few. drains w r name args g within moves ls v c law posted few
part_drains law w _ ls v r posted = tt

-- ---- all of them

go_front : (xs ys : List Statement) (g : Graph) (made : Made) → GoOnSoundly (xs ++ ys) g made → GoOnSoundly xs g made
go_front [] ys g made h = tt
go_front (start name args new ∷ xs) ys g made h = absurd h
go_front (change name args new within moves ∷ xs) ys g made h = record { graph = h.graph; can_plan = h.can_plan; below = go_front xs ys new _ h.below }
go_front (run k ∷ xs) ys g made h = go_front xs ys g made h
go_front (finish n ∷ xs) ys g made h = go_front xs ys g made h
go_front (show ∷ xs) ys g made h = go_front xs ys g made h

sound_front : (x : Statement) (xs ys : List Statement) → AreSound (x ∷ xs ++ ys) → AreSound (x ∷ xs)
sound_front (start name args g) xs ys h = record { graph = h.graph; room = h.room; below = go_front xs ys g _ h.below }
sound_front (change name args g within moves) xs ys h = absurd h
sound_front (run k) xs ys h = absurd h
sound_front (finish n) xs ys h = absurd h
sound_front show xs ys h = absurd h

abbrev pub said : List Played → List Statement
said ps = map (λ (p : Played). p.statement) ps

module _ (each_may : EachMayCommit) (by_config : CommitsByConfiguration) (leaves : CommitsLeaveGraphs) (commits_run : CommitsRun) where
  pub reached_before : (before after : List Played) → AreSound (said (before ++ after)) → Each IsPlayed before → IsReached (world_after before)
  reached_before [] after sound each = IsReached.at_start
  reached_before (p ∷ ps) after sound each =
      let fronts : AreSound (said (p ∷ ps)) =
      sound_front p.statement (said ps) (said after) (subst (λ ss. AreSound (p.statement ∷ ss)) (map-append (λ (q : Played). q.statement) ps after) sound) in
      (from_start each_may by_config leaves commits_run (said (p ∷ ps)) (p ∷ ps) refl (played_after [] (p ∷ ps) each) fronts).course.reached

module _ (law : RoundsDrain) (each_may : EachMayCommit) (by_config : CommitsByConfiguration) (leaves : CommitsLeaveGraphs) (commits_run : CommitsRun) where
  all_drain : (before ps : List Played) → AreSound (said (before ++ ps)) → Each IsPlayed before → EachAfter IsPlayed before ps → ArePosted (world_after before) → EachAfter DrainsInTime before ps
  all_drain before [] sound done each posted = tt
  all_drain before (p ∷ ps) sound done each posted =
      let w = world_after before in
      let r = reached_before each_may by_config leaves commits_run before (p ∷ ps) sound done in
      let there : world_after (before ++ p ∷ []) ≡ p.world = fold_push (λ (u : World) (q : Played). q.world) nowhere before p in (
        part_drains law w p.statement p.lines p.world r posted,
        all_drain (before ++ p ∷ []) ps (subst (λ xs. AreSound (said xs)) (sym (append_assoc before (p ∷ []) ps)) sound) ((each_pushed IsPlayed before p).1 (done, each.0)) each.1
            (subst ArePosted (sym there) (part_posts (lines_played before) w p.statement p.lines p.world r posted each.0)),
      )

  nowhere_posted : ArePosted nowhere
  nowhere_posted n r m is = absurd (Rattle.std.proofs.lemmas.Option.none-some m is)

  pub parts_drain : (ps : List Played) → AreSound (said ps) → Each IsPlayed ps → Each DrainsInTime ps
  parts_drain ps sound played = all_drain [] ps sound tt played nowhere_posted
