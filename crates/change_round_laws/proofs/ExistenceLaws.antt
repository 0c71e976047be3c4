-- A report of rounds exists for the statements of a sound script, where rounds come to an end and plans are found.
use Rattle.std.proofs.Common.{◌≡◌, ◌∙◌, ℕ, zero, suc, ◌+◌, ◌<◌, Bool, true, false, ◌||◌, List, [], ◌∷◌, ◌++◌, append_assoc, map, refl, sym, ap, subst, ⊎_elim, arith}
use Rattle.std.specs.Prelude.{◌==◌, ℤ, fold}
use Rattle.std.specs.List.{list_any}
use Rattle.std.proofs.lemmas.Bool.{both_ways, cases_Bool, cases_eq, eq-eqb, or_left, or_right}
use Rattle.std.proofs.lemmas.Grind.{flat_map-append}
use Rattle.std.proofs.lemmas.List.{append-nil}
use Rattle.std.proofs.lemmas.List.Elements.{All-nil}
use Rattle.std.proofs.lemmas.List.Sums.{fold_push}
use Rattle.base.specs.Each.{EachAfter}
use Rattle.config_graph.specs.Graph.{Graph}
use Rattle.config_graph.specs.declared.node.Made.{Made}
use Rattle.change_plan.specs.Plans.{IsPlanOf}
use Rattle.change_plan.specs.declared.plan_data.Move.{Move}
use Rattle.change_plan.specs.declared.plan_data.Plan.{Plan}
use Rattle.quiesce_core.specs.declared.event.Event.TheVariants.{Close}
use Rattle.quiesce_core.specs.Live.{IsGraphOf}
use Rattle.quiesce_core.specs.Runs.{IsRun, Steps, state_after}
use Rattle.quiesce_core.specs.Start.{started}
use Rattle.quiesce_core.specs.State.{State, empty}
use Rattle.quiesce_core.proofs.GraphExistsLaws.{has_graph}
use Rattle.quiesce_core.proofs.RunLaws.{nodes_are_named, runs_are_well_formed}
use Rattle.quiesce_core.proofs.StepsLaws.{end_is, run_is_steps}
use Rattle.quiesce_laws.specs.Starts.{start_of}
use Rattle.quiesce_laws.proofs.StartLaws.{start_path}
use Rattle.node_turn_laws.specs.Round.{FirstAt, after_rounds, is_at_rest, stands_still}
use Rattle.node_turn_laws.specs.World.{World, nowhere}
use Rattle.node_turn_laws.specs.Reached.{IsReached}
use Rattle.node_turn_laws.proofs.ReachedLaws.{holds_where_reached}
use Rattle.report_types.specs.declared.report.HistoryLine.{HistoryLine}
use Rattle.report_types.specs.declared.report.HistoryLine.TheVariants as to
use Rattle.report_types.specs.declared.report.Report.{Report}
use Rattle.change_spec.specs.Changes.{drained_lines}
use Rattle.change_spec.specs.Follows.{skip_lines, start_lines}
use Rattle.change_spec.specs.Lawful.{IsOfItsKind}
use Rattle.change_spec.specs.Members.{Member, is_pending}
use Rattle.quiesce_laws.specs.Steps.{live_ports}
use Rattle.change_spec.specs.Serial.{IsPlayed, Played, Plays, Serial, after_changes, finish_ends, is_none_left, lines_played, looks_after, report_of, run_ends, wait_ends, world_after}
use Rattle.change_spec.specs.Statements.{Statement, start, change, run, finish, show}
use Rattle.change_round_laws.specs.Courses.{Course}
use Rattle.change_round_laws.specs.Existing.{HavePlans, HavePlansFrom, RunsEnd, StopsEnd}
use Rattle.change_round_laws.specs.SoundStatements.{AreSound, GoOnSoundly, named_by}
use Rattle.change_round_laws.proofs.CommitGraphLaws.{CommitsByConfiguration, CommitsLeaveGraphs, EachMayCommit, Fits, begun, few_nodes, few_ports, onward}
use Rattle.change_round_laws.proofs.CourseLaws.{course_config}
use Rattle.change_round_laws.proofs.PlayLaws.{CommitsRun, plays_by, starts_by}
use Rattle.change_round_laws.proofs.RoundLaws.{PlayedAfter, course_changes, kept_start}

-- where a test holds at some number it holds at a first one

not_yet : (test : ℕ → Bool) (k : ℕ) → ((j : ℕ) → j < k → test j ≡ false) → test k ≡ false → (j : ℕ) → j < k + 1 → test j ≡ false
not_yet test k below here j low = ⊎_elim
    (λ (same : j ≡ k). ap test same ∙ here)
    (λ (other : j ≡ k → ⊥). below j (omega (arith, low, other)))
    (cases_eq j k)

first_from : (test : ℕ → Bool) (fuel k : ℕ) → ((j : ℕ) → j < k → test j ≡ false) → test (k + fuel) ≡ true → (j : ℕ) × FirstAt test j
first_from test zero k below h = let same : k + 0 ≡ k = omega arith in (k, record { holds = ap test (sym same) ∙ h; before = below })
first_from test (suc fuel) k below h = ⊎_elim
    (λ (here : test k ≡ true). (k, record { holds = here; before = below }))
    (λ (none : test k ≡ false).
    let same : (k + 1) + fuel ≡ k + suc fuel = omega arith in first_from test fuel (k + 1) (not_yet test k below none) (ap test same ∙ h))
    (cases_Bool (test k))

pub first_at : (test : ℕ → Bool) (n : ℕ) → test n ≡ true → (j : ℕ) × FirstAt test j
first_at test n h = let same : 0 + n ≡ n = omega arith in first_from test n 0 (λ j low. absurd (omega (arith, low))) (ap test same ∙ h)

finish_limit : (w : World) (n : ℕ) → finish_ends w n n ≡ true
finish_limit w n = or_left (is_at_rest (after_rounds true w n) || n == n) (stands_still true w n) (or_right (is_at_rest (after_rounds true w n)) (n == n) (eq-eqb n n refl))

-- a statement can be played
record CanPlay (h : List HistoryLine) (w : World) (s : Statement) : Type 0 where
  lines : List HistoryLine
  world : World
  plays : Plays h w s lines world

module _ (runs_end : RunsEnd) where
  play_run : (h : List HistoryLine) (w : World) (k : ℕ) → IsReached w → CanPlay h w (run k)
  play_run h w k r =
      let some = runs_end w k r in
      let first = first_at (run_ends w k) some.0 some.1 in
      let v = after_rounds true w first.0 in
      record { lines = _; world = v; plays = record { rounds = first.0; number = first.1; world = refl; are = refl } }

  play_finish : (h : List HistoryLine) (w : World) (n : ℕ) → CanPlay h w (finish n)
  play_finish h w n =
      let first = first_at (finish_ends w n) n (finish_limit w n) in
      record { lines = to.Finish n first.0 ∷ []; world = after_rounds true w first.0; plays = record { rounds = first.0; number = first.1; world = refl; are = refl } }

  play_show : (h : List HistoryLine) (w : World) → IsReached w → CanPlay h w show
  play_show h w r =
      let holds = holds_where_reached w r in
      let run_so = holds.1.run in
      let g = has_graph (state_after w.events).config (runs_are_well_formed w.events run_so).sound (nodes_are_named w.events run_so) in
      record { lines = to.Show g.0 ∷ []; world = w; plays = (record { graph = g.0; is_graph = subst (λ (s : State). IsGraphOf s.config g.0) (sym holds.0) g.1; are = refl }, refl) }

  play_tried : (done : List Statement) (h : List HistoryLine) (w : World) (m : List Member) (name : List ℕ) (args : List ℤ) (g new : Graph) (within : ℕ) (moves : List Move) (made : Made) → Course h w m → Fits done h g made
      → (rest : List Statement) → GoOnSoundly (change name args new within moves ∷ rest) g made → ((plan : Plan) × IsPlanOf g new moves plan) → list_any is_pending h ≡ false → CanPlay h w (change name args new within moves)
  play_tried done h w m name args g new within moves made c fits rest says found tried =
      let plan = found.0 in
      let closed = Rattle.change_plan_laws.specs.Commit.ports_to_close g plan w.machine.config in
      let waiting = after_changes w (map Close closed) in
      let first = first_at (wait_ends waiting closed within) within (or_right (is_none_left waiting closed within) (within == within) (eq-eqb within within refl)) in
      record {
        lines = _;
        world = _;
        plays = (
          λ pending. absurd (both_ways (list_any is_pending h) tried pending),
          λ not_pending. record {
            old = g;
            is_old = subst (λ d. IsGraphOf d g) (sym (course_config h w m c)) (fits.stands tried).graph;
            plan = plan;
            moves_lead = says.can_plan.may_move;
            is_plan = found.1;
            closed = closed;
            closed_are = refl;
            waiting = waiting;
            waits = refl;
            rounds = first.0;
            number = first.1;
            at_end = after_rounds false waiting first.0;
            end_is = refl;
            found = looks_after waiting closed first.0;
            found_is = refl;
            are = refl;
            world = refl;
          },
        );
      }

  can_play : (done : List Statement) (s : Statement) (h : List HistoryLine) (w : World) (m : List Member) (g : Graph) (made : Made) (rest : List Statement) → Course h w m → Fits done h g made → GoOnSoundly (s ∷ rest) g made
      → HavePlansFrom g (s ∷ rest) → CanPlay h w s
  can_play done (start name args new) h w m g made rest c fits says found = absurd says
  can_play done (change name args new within moves) h w m g made rest c fits says found = ⊎_elim
      (λ (skipped : list_any is_pending h ≡ true).
      let s : CanPlay h w (change name args new within moves) = record {
        lines = skip_lines name args;
        world = w;
        plays = (λ pending. record { are = refl; world = refl }, λ tried. absurd (both_ways (list_any is_pending h) tried skipped));
      } in s)
      (λ (tried : list_any is_pending h ≡ false). play_tried done h w m name args g new within moves made c fits rest says found.0 tried)
      (cases_Bool (list_any is_pending h))
  can_play done (run k) h w m g made rest c fits says found = play_run h w k c.reached
  can_play done (finish n) h w m g made rest c fits says found = play_finish h w n
  can_play done show h w m g made rest c fits says found = play_show h w c.reached

found_on : (s : Statement) (rest : List Statement) (g : Graph) → HavePlansFrom g (s ∷ rest) → HavePlansFrom (named_by s g) rest
found_on (start name args new) rest g found = found
found_on (change name args new within moves) rest g found = found.1
found_on (run k) rest g found = found
found_on (finish n) rest g found = found
found_on show rest g found = found

-- all statements are played from a world on
record PlaysAll (h : List HistoryLine) (w : World) (statements : List Statement) : Type 0 where
  parts : List Played
  statements_are : map (λ (p : Played). p.statement) parts ≡ statements
  played : PlayedAfter h w parts
  reached : IsReached (fold (λ (u : World) (p : Played). p.world) w parts)

played_each : (before ps : List Played) → PlayedAfter (lines_played before) (world_after before) ps → EachAfter IsPlayed before ps
played_each before [] played = tt
played_each before (p ∷ ps) played =
    let here : lines_played before ++ p.lines ≡ lines_played (before ++ p ∷ []) = sym (flat_map-append (λ (q : Played). q.lines) before (p ∷ []) ∙ ap (λ xs. lines_played before ++ xs) (append-nil p.lines)) in
    let there : p.world ≡ world_after (before ++ p ∷ []) = sym (fold_push (λ (w : World) (q : Played). q.world) nowhere before p) in
    (played.0, played_each (before ++ p ∷ []) ps (subst (λ h. PlayedAfter h (world_after (before ++ p ∷ [])) ps) here (subst (λ w. PlayedAfter (lines_played before ++ p.lines) w ps) there played.1)))

module _ (each_may : EachMayCommit) (by_config : CommitsByConfiguration) (leaves : CommitsLeaveGraphs) (commits_run : CommitsRun) (runs_end : RunsEnd) (statements : List Statement) where
  all_played : (done : List Statement) (h : List HistoryLine) (w : World) (m : List Member) (ss : List Statement) (g : Graph) (made : Made) → statements ≡ done ++ ss → Course h w m → Fits done h g made → GoOnSoundly ss g made
      → HavePlansFrom g ss → PlaysAll h w ss
  all_played done h w m [] g made parts c fits says found = record { parts = []; statements_are = refl; played = tt; reached = c.reached }
  all_played done h w m (s ∷ ss) g made parts c fits says found =
      let p = can_play runs_end done s h w m g made ss c fits says found in
      let here = plays_by commits_run by_config done s h p.lines ss w p.world m g made c fits says p.plays in
      let next = onward each_may by_config leaves statements done s h p.lines ss g made parts here.right (course_changes h w m c) fits says in
      let later = all_played (done ++ s ∷ []) (h ++ p.lines) p.world here.members ss next.graph next.made (parts ∙ sym (append_assoc done (s ∷ []) ss)) here.course next.fits next.below
      (subst (λ x. HavePlansFrom x ss) (sym next.named) (found_on s ss g found)) in
      record { parts = record { statement = s; lines = p.lines; world = p.world } ∷ later.parts; statements_are = ap (λ xs. s ∷ xs) later.statements_are; played = (p.plays, later.played); reached = later.reached }

  all_from_start : (ss : List Statement) → statements ≡ ss → AreSound ss → HavePlans ss → PlaysAll [] nowhere ss
  all_from_start (start name args g ∷ ss) are says found =
      let nodes_fit = few_nodes each_may by_config leaves statements name args g ss are says in
      let ports_fit = few_ports each_may by_config leaves statements name args g ss are says in
      let path = start_path g says.graph.sound nodes_fit ports_fit in
      let run_so : IsRun (start_of g) = (run_is_steps (start_of g)).1 (subst (λ s. Steps empty (start_of g) s) (end_is empty (started g) (start_of g) path) path) in
      let none : Course [] nowhere [] = record { reached = IsReached.at_start; events_are = refl; lines_are = refl; kinds = All-nil IsOfItsKind; drained = tt; stood_open = tt; told = tt } in
      let ls = start_lines name args g in
      let v = after_changes nowhere (start_of g) in
      let here = starts_by name args g ls nowhere v run_so (kept_start g) none (refl, refl) in
      let next = begun each_may by_config leaves statements name args g ss are says ls refl in
      let later = all_played (start name args g ∷ []) ls v here.members ss next.graph next.made are here.course next.fits next.below (subst (λ x. HavePlansFrom x ss) (sym next.named) found) in
      record { parts = record { statement = start name args g; lines = ls; world = v } ∷ later.parts; statements_are = ap (λ xs. start name args g ∷ xs) later.statements_are; played = ((refl, refl), later.played); reached = later.reached }
  all_from_start [] are says found = absurd says
  all_from_start (change name args g within moves ∷ ss) are says found = absurd says
  all_from_start (run k ∷ ss) are says found = absurd says
  all_from_start (finish n ∷ ss) are says found = absurd says
  all_from_start (show ∷ ss) are says found = absurd says

  -- a report of rounds
  pub exists_one : StopsEnd → AreSound statements → HavePlans statements → (report : Report) × Serial statements report
  exists_one stops_end sound found =
      let all = all_from_start statements refl sound found in
      let w = world_after all.parts in
      let ports = live_ports w.machine.config in
      let waiting = after_changes w (map Close ports) in
      let some = stops_end w all.reached in
      let first = first_at (is_none_left waiting ports) some.0 some.1 in
      let v = after_rounds false waiting first.0 in
      let stop = to.Stop ∷ map to.Close ports ++ drained_lines (looks_after waiting ports first.0).seen in
      let report = report_of statements (lines_played all.parts ++ stop) v in (
        report,
        record {
          parts = all.parts;
          statements_are = all.statements_are;
          played = played_each [] all.parts all.played;
          stop = stop;
          world = v;
          stops = record { waiting = waiting; waits = refl; rounds = first.0; number = first.1; world = refl; are = refl };
          report_is = refl;
        },
      )
