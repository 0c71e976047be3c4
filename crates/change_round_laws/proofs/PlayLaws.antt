-- What a report of rounds says of each statement: the lines are right, and the course goes on by them.
use Rattle.std.proofs.Common.{◌≡◌, ◌∙◌, ℕ, ◌+◌, ◌-◌, ◌<◌, ◌≤◌, Bool, true, false, cond, ◌||◌, List, [], ◌∷◌, ◌++◌, append_assoc, map, length, None, refl, sym, ap, subst, ⊎_elim, inl, inr, arith}
use Rattle.std.specs.Prelude.{◌⊎◌, ◌==◌, ℤ, filter}
use Rattle.std.specs.List.{count_by, list_any}
use Rattle.std.proofs.lemmas.Bool.{both_ways, cases_Bool, cases_lt, eqb-true, eq-eqb, or_right}
use Rattle.std.proofs.lemmas.List.{append-nil, nil_from_length}
use Rattle.base.proofs.MapLaws.{count_by-append}
use Rattle.config_graph.specs.Graph.{Graph, ports}
use Rattle.config_graph.specs.declared.node.Made.{Made}
use Rattle.config_graph.proofs.GraphByLaws.{one_graph}
use Rattle.change_plan.specs.Refusals.{CanPlan}
use Rattle.change_plan.specs.declared.plan_data.Move.{Move}
use Rattle.change_plan.specs.declared.plan_data.Plan.{Plan}
use Rattle.quiesce_laws.specs.Lists.{In}
use Rattle.quiesce_laws.specs.Steps.{MayStepAll, live_ports}
use Rattle.quiesce_laws.proofs.GateLaws.{live_listed}
use Rattle.quiesce_laws.proofs.MeanwhileLaws.{front_is_of_change}
use Rattle.quiesce_laws.proofs.TurningLaws.{IsLivePort, SameLinks, same_graph}
use Rattle.change_plan_laws.specs.Commit.{commit_events, is_frozen_or_new, is_one_of, ports_to_close}
use Rattle.change_plan_laws.specs.Committing.{MayCommit, made_in}
use Rattle.quiesce_core.specs.declared.event.Event.{Event}
use Rattle.quiesce_core.specs.declared.event.Event.TheVariants as event
use Rattle.quiesce_core.specs.Doers.{is_of_change}
use Rattle.quiesce_core.specs.Live.{AreLinked, IsGraphOf, IsLiveNode}
use Rattle.quiesce_core.specs.Runs.{IsRun, state_after}
use Rattle.quiesce_core.specs.Rules.{is_live_port}
use Rattle.quiesce_core.specs.State.{State, owner}
use Rattle.quiesce_laws.specs.Drained.{is_drained}
use Rattle.quiesce_laws.specs.Starts.{start_of}
use Rattle.node_turn_laws.specs.Round.{FirstAt, after_rounds, ended}
use Rattle.quiesce_laws.specs.Events.{ends_transaction}
use Rattle.node_turn_laws.specs.World.{World}
use Rattle.node_turn_laws.proofs.ReachedLaws.{holds_where_reached}
use Rattle.report_types.specs.declared.report.HistoryLine.{HistoryLine}
use Rattle.report_types.specs.declared.report.HistoryLine.TheVariants as to
use Rattle.change_spec.specs.Changes.{AreLooks, IsChange, IsCommitted, IsGivenUp, commit_lines, drained_lines, opening_lines, pending_lines, seen_in_all}
use Rattle.change_spec.specs.Follows.{IsRight, IsStop, start_lines}
use Rattle.change_spec.specs.Lawful.{EndedSince}
use Rattle.change_spec.specs.Members.{Member, by_node, of_history, events, is_pending, lines_of_events}
use Rattle.change_spec.specs.Scene.{AreSeen, config_after, root_line}
use Rattle.change_spec.specs.Serial.{ChangesTo, FinishesAt, Looks, Plays, RunsTo, ShowsGraph, StopsAt, after_changes, finish_ends, is_none_left, looks_after, seen_at, wait_ends}
use Rattle.change_spec.specs.Statements.{Statement, start, change, run, finish, show}
use Rattle.change_spec.proofs.MemberLaws.{events_of_nodes, events_parts}
use Rattle.change_spec.proofs.SerialLaws.{changed_lines, changed_world}
use Rattle.change_spec.proofs.PortLaws.{same_ports}
use Rattle.change_spec.proofs.ClosingLaws.{reopen_lines}
use Rattle.change_round_laws.specs.Courses.{Course}
use Rattle.change_round_laws.specs.SoundStatements.{GoOnSoundly, IsSoundGraph}
use Rattle.change_round_laws.proofs.ClosedPortLaws.{frozen_listed, frozen_live, frozen_same, where_rise}
use Rattle.change_round_laws.proofs.ClosingLaws.{reopens_are_of_change, reopens_run, shut, shut_same, with_roots}
use Rattle.change_round_laws.proofs.CommitGraphLaws.{CommitsByConfiguration, Fits, Stands}
use Rattle.change_round_laws.proofs.CourseLaws.{WentOn, course_config, course_machine, course_run, with_changes, with_rounds, with_said}
use Rattle.change_round_laws.proofs.LookLaws.{Looked, all_seen, are_looks, looked}

-- what change_plan_laws says of the run of a commit
abbrev pub CommitsRun : Type 0
CommitsRun = (old new : Graph) (moves : List Move) (plan : Plan) (es : List Event) → MayCommit old new moves plan es → IsRun (es ++ commit_events old new plan (state_after es).config)

-- the lines are right, and a course has them
pub record GoesBy (h : List HistoryLine) (s : Statement) (ls : List HistoryLine) (v : World) : Type 0 where
  pub right : IsRight h s ls
  pub members : List Member
  pub course : Course (h ++ ls) v members

-- rounds, and one line that counts

rounds_and_line : (h : List HistoryLine) (w v : World) (m : List Member) (l : HistoryLine) → (g : WentOn h w m v) → Course h w m
    → ((later : List Event) → v.events ≡ w.events ++ later → Rattle.change_round_laws.specs.Courses.IsToldAt (m ++ map by_node later) (of_history l))
    → Rattle.change_spec.specs.Members.event_of l ≡ None → Rattle.change_spec.specs.Members.is_root l ≡ false
    → ((before : List Member) → Rattle.change_spec.specs.Lawful.IsDrainedAt before (of_history l)) → (k : List Member) × Course (h ++ l ∷ []) v k
rounds_and_line h w v m l g c counted none rootless drained =
    let grown : v.events ≡ w.events ++ g.later = sym g.course.events_are ∙ events_parts m (map by_node g.later) ∙ (λ i. c.events_are i ++ events_of_nodes g.later i) in
    ((m ++ map by_node g.later) ++ of_history l ∷ [], with_said h v (m ++ map by_node g.later) l g.course none rootless (drained (m ++ map by_node g.later)) (counted g.later grown))

play_run : (h : List HistoryLine) (w v : World) (m : List Member) (k : ℕ) (ls : List HistoryLine) → RunsTo w k ls v → Course h w m → GoesBy h (run k) ls v
play_run h w v m k ls r c =
    let n = ended v - ended w in
    let went = subst (WentOn h w m) (sym r.world) (with_rounds h true w m r.rounds c) in
    let counted : (later : List Event) → v.events ≡ w.events ++ later → EndedSince (m ++ map by_node later) n =
    λ later grown.
    let all : ended v ≡ ended w + count_by ends_transaction later = ap (count_by ends_transaction) grown ∙ count_by-append ends_transaction w.events later in
    record { front = m; later = later; parts = refl; enough = omega (arith, all) } in
    let next = rounds_and_line h w v m (to.Run k n) went c counted refl refl (λ before. tt) in
    record { right = record { ended = n; are = r.are }; members = next.0; course = subst (λ xs. Course (h ++ xs) v next.0) (sym r.are) next.1 }

rounds_few : (w : World) (n r : ℕ) → FirstAt (finish_ends w n) r → r ≤ n
rounds_few w n r f = ⊎_elim
    (λ (past : n < r). absurd (both_ways (finish_ends w n n) (f.before n past) (at_limit n)))
    (λ (few : r ≤ n). few)
    (cases_lt n r)
  where
    at_limit : (j : ℕ) → finish_ends w j j ≡ true
    at_limit j =
        Rattle.std.proofs.lemmas.Bool.or_left (Rattle.node_turn_laws.specs.Round.is_at_rest (after_rounds true w j) || j == j) (Rattle.node_turn_laws.specs.Round.stands_still true w j)
        (or_right (Rattle.node_turn_laws.specs.Round.is_at_rest (after_rounds true w j)) (j == j) (eq-eqb j j refl))

play_finish : (h : List HistoryLine) (w v : World) (m : List Member) (n : ℕ) (ls : List HistoryLine) → FinishesAt w n ls v → Course h w m → GoesBy h (finish n) ls v
play_finish h w v m n ls f c =
    let went = subst (WentOn h w m) (sym f.world) (with_rounds h true w m f.rounds c) in
    let next = rounds_and_line h w v m (to.Finish n f.rounds) went c (λ later grown. rounds_few w n f.rounds f.number) refl refl (λ before. tt) in
    record { right = record { rounds = f.rounds; are = f.are }; members = next.0; course = subst (λ xs. Course (h ++ xs) v next.0) (sym f.are) next.1 }

play_show : (h : List HistoryLine) (w v : World) (m : List Member) (ls : List HistoryLine) → ShowsGraph w ls × (v ≡ w) → Course h w m → GoesBy h show ls v
play_show h w v m ls s c =
    record {
      right = record { graph = s.0.graph; are = s.0.are };
      members = m ++ of_history (to.Show s.0.graph) ∷ [];
      course = subst (λ xs. Course (h ++ xs) v (m ++ of_history (to.Show s.0.graph) ∷ [])) (sym s.0.are)
          (subst (λ u. Course (h ++ to.Show s.0.graph ∷ []) u (m ++ of_history (to.Show s.0.graph) ∷ [])) (sym s.1)
          (with_said h w m (to.Show s.0.graph) c refl refl tt (subst (λ (t : State). IsGraphOf t.config s.0.graph) (course_machine h w m c) s.0.is_graph)));
    }

-- a change is skipped
play_skip : (h : List HistoryLine) (w v : World) (m : List Member) (name : List ℕ) (args : List ℤ) (ls : List HistoryLine) → ls ≡ to.Change name args ∷ to.Skipped ∷ [] → v ≡ w → Course h w m → (k : List Member) × Course (h ++ ls) v k
play_skip h w v m name args ls are same c =
    let first = with_said h w m (to.Change name args) c refl refl tt tt in
    let next = with_said (h ++ to.Change name args ∷ []) w (m ++ of_history (to.Change name args) ∷ []) to.Skipped first refl refl tt tt in (
      (m ++ of_history (to.Change name args) ∷ []) ++ of_history to.Skipped ∷ [],
      subst (λ xs. Course (h ++ xs) v ((m ++ of_history (to.Change name args) ∷ []) ++ of_history to.Skipped ∷ [])) (sym are)
          (subst (λ u. Course (h ++ to.Change name args ∷ to.Skipped ∷ []) u ((m ++ of_history (to.Change name args) ∷ []) ++ of_history to.Skipped ∷ [])) (sym same)
          (subst (λ x. Course x w ((m ++ of_history (to.Change name args) ∷ []) ++ of_history to.Skipped ∷ [])) (append_assoc h (to.Change name args ∷ []) (to.Skipped ∷ [])) next)),
    )

waits_few : (w : World) (ports : List ℕ) (within r : ℕ) → FirstAt (wait_ends w ports within) r → r ≤ within
waits_few w ports within r f = ⊎_elim
    (λ (past : within < r). absurd (both_ways (wait_ends w ports within within) (f.before within past) (or_right (is_none_left w ports within) (within == within) (eq-eqb within within refl))))
    (λ (few : r ≤ within). few)
    (cases_lt within r)

-- a change that is tried
module _ (commits_run : CommitsRun) (by_config : CommitsByConfiguration) (done : List Statement) (h : List HistoryLine) (w v : World) (m : List Member) (name : List ℕ) (args : List ℤ) (g new : Graph) (within : ℕ) (moves : List Move) (made : Made)
    (c : Course h w m) (fits : Fits done h g made) (stands : Stands h g made) (new_sound : IsSoundGraph new) (can : CanPlan g new moves made) (tried : list_any is_pending h ≡ false) (ls : List HistoryLine) (p : ChangesTo w name args new within moves ls v) where
  config : w.machine.config ≡ config_after h
  config = course_config h w m c

  old_is : p.old ≡ g
  old_is = one_graph (IsLiveNode (config_after h)) (AreLinked (config_after h)) p.old g (subst (λ d. IsGraphOf d p.old) (course_config h w m c) p.is_old) stands.graph

  opening_is : opening_lines name args p.old p.plan w.machine.config ≡ to.Change name args ∷ map to.Close p.closed
  opening_is = ap (λ ports. to.Change name args ∷ map to.Close ports) (sym p.closed_are)

  live : (q : ℕ) → In p.closed q → IsLivePort w.machine.config q
  live q i = frozen_live p.old p.plan w.machine.config q (subst (λ ports. In ports q) p.closed_are i)

  rise : Rattle.std.specs.List.Sorted.IsStrictlyIncreasing p.closed
  rise = subst Rattle.std.specs.List.Sorted.IsStrictlyIncreasing (sym p.closed_are) (where_rise (λ q. is_one_of p.old p.plan.freeze w.machine.config (owner w.machine.config q)) w.machine.config)

  head : Course (h ++ to.Change name args ∷ []) w (m ++ of_history (to.Change name args) ∷ [])
  head = with_said h w m (to.Change name args) c refl refl tt tt

  closed : Course ((h ++ to.Change name args ∷ []) ++ map to.Close p.closed) p.waiting ((m ++ of_history (to.Change name args) ∷ []) ++ map of_history (map to.Close p.closed))
  closed =
      subst (λ u. Course ((h ++ to.Change name args ∷ []) ++ map to.Close p.closed) u ((m ++ of_history (to.Change name args) ∷ []) ++ map of_history (map to.Close p.closed))) (sym p.waits)
      (shut (h ++ to.Change name args ∷ []) w (m ++ of_history (to.Change name args) ∷ []) head p.closed live)

  opened_is : (h ++ to.Change name args ∷ []) ++ map to.Close p.closed ≡ h ++ opening_lines name args p.old p.plan w.machine.config
  opened_is = append_assoc h (to.Change name args ∷ []) (map to.Close p.closed) ∙ ap (λ xs. h ++ xs) (sym opening_is)

  same : SameLinks w.machine.config p.waiting.machine.config
  same = subst (λ (u : World). SameLinks w.machine.config u.machine.config) (sym p.waits) (shut_same (h ++ to.Change name args ∷ []) w (m ++ of_history (to.Change name args) ∷ []) head p.closed live)

  abbrev last : World
  last = after_rounds false p.waiting p.rounds

  abbrev seen : Looks
  seen = looks_after p.waiting p.closed p.rounds

  waited : Looked ((h ++ to.Change name args ∷ []) ++ map to.Close p.closed) p.waiting ((m ++ of_history (to.Change name args) ∷ []) ++ map of_history (map to.Close p.closed)) p.closed (after_rounds false p.waiting p.rounds) (looks_after p.waiting p.closed p.rounds)
  waited = looked ((h ++ to.Change name args ∷ []) ++ map to.Close p.closed) p.waiting ((m ++ of_history (to.Change name args) ∷ []) ++ map of_history (map to.Close p.closed)) p.closed p.rounds closed

  abbrev base : List Member
  base = (m ++ of_history (to.Change name args) ∷ []) ++ map of_history (map to.Close p.closed)

  abbrev opened : List HistoryLine
  opened = (h ++ to.Change name args ∷ []) ++ map to.Close p.closed

  -- the configuration then is that after the closes
  same_then : SameLinks w.machine.config (after_rounds false p.waiting p.rounds).machine.config
  same_then = subst (SameLinks w.machine.config) (sym waited.config) same

  after_opening : (after_rounds false p.waiting p.rounds).machine.config ≡ config_after (h ++ opening_lines name args p.old p.plan w.machine.config)
  after_opening = waited.config ∙ course_config ((h ++ to.Change name args ∷ []) ++ map to.Close p.closed) p.waiting ((m ++ of_history (to.Change name args) ∷ []) ++ map of_history (map to.Close p.closed)) closed ∙ ap config_after opened_is

  looks_are : AreLooks within (looks_after p.waiting p.closed p.rounds).seen
  looks_are = are_looks p.waiting p.closed within rise p.rounds (waits_few p.waiting p.closed within p.rounds p.number)

  seen_are : AreSeen p.closed (seen_in_all (looks_after p.waiting p.closed p.rounds).seen ++ map (seen_at (after_rounds false p.waiting p.rounds)) (looks_after p.waiting p.closed p.rounds).left)
  seen_are = all_seen p.waiting (after_rounds false p.waiting p.rounds) p.closed rise p.rounds

  is_change : (rest : List HistoryLine) → ls ≡ opening_lines name args p.old p.plan w.machine.config ++ rest
      → IsCommitted p.old new p.plan within (config_after (h ++ opening_lines name args p.old p.plan w.machine.config)) rest ⊎ IsGivenUp (ports_to_close p.old p.plan w.machine.config) within rest
      → IsChange h name args new within moves ls
  is_change rest are ends = record {
    old = p.old;
    is_old = subst (λ d. IsGraphOf d p.old) config p.is_old;
    plan = p.plan;
    moves_lead = p.moves_lead;
    is_plan = p.is_plan;
    rest = rest;
    are = subst (λ d. ls ≡ opening_lines name args p.old p.plan d ++ rest) config are;
    ends = subst (λ d. IsCommitted p.old new p.plan within (config_after (h ++ opening_lines name args p.old p.plan d)) rest ⊎ IsGivenUp (ports_to_close p.old p.plan d) within rest) config ends;
  }

  -- nothing is left: it is committed
  module _ (none : (looks_after p.waiting p.closed p.rounds).left ≡ []) where
    may : MayCommit p.old new moves p.plan (after_rounds false p.waiting p.rounds).events
    may =
        let v0 = after_rounds false p.waiting p.rounds in
        let at = (holds_where_reached v0 waited.course.reached).0 in
        let d = v0.machine.config in
        let same_made : made_in d ≡ made_in w.machine.config = (λ i. record { nodes = length (same_then.slots i); ports = same_then.long i }) in
        record {
          old_graph = subst Rattle.config_graph.specs.Graph.IsGraph (sym old_is) fits.sound.is_graph;
          new_graph = new_sound.is_graph;
          new_sound = new_sound.sound;
          is_plan = p.is_plan;
          can_plan = subst (λ o. CanPlan o new moves (made_in (state_after v0.events).config)) (sym old_is)
              (subst (CanPlan g new moves) (sym (ap (λ (s : State). made_in s.config) (sym at) ∙ same_made ∙ ap made_in config ∙ stands.made_is)) can);
          run = course_run (opened ++ drained_lines (looks_after p.waiting p.closed p.rounds).seen) v0 (base ++ waited.later) waited.course;
          graph = subst (λ (s : State). IsGraphOf s.config p.old) at (same_graph w.machine.config d p.old same_then p.is_old);
          drained = subst (λ (s : State). (q : ℕ) → q < length s.config.gates → is_one_of p.old p.plan.freeze s.config (owner s.config q) ≡ true → is_drained s q ≡ true) at
              (λ q low frozen.
              let low_before : q < length w.machine.config.gates = let long = same_then.long in omega (arith, low, long) in
              let frozen_before : is_one_of p.old p.plan.freeze w.machine.config (owner w.machine.config q) ≡ true =
              ap (is_one_of p.old p.plan.freeze w.machine.config) (sym (same_then.owners q)) ∙ sym (frozen_same p.old p.plan.freeze w.machine.config d same_then (owner d q)) ∙ frozen in
              let listed : In p.closed q = subst (λ ports. In ports q) (sym p.closed_are) (frozen_listed p.old p.plan w.machine.config q low_before frozen_before) in
              ⊎_elim
              (λ (i : In (looks_after p.waiting p.closed p.rounds).left q). absurd (subst (λ xs. In xs q) none i))
              (λ (e : is_drained v0.machine q ≡ true). e)
              (waited.drained q listed));
        }

    -- the events of the commit
    steps_kept : filter is_of_change (commit_events p.old new p.plan (after_rounds false p.waiting p.rounds).machine.config) ≡ commit_events p.old new p.plan (after_rounds false p.waiting p.rounds).machine.config
    steps_kept =
        let v0 = after_rounds false p.waiting p.rounds in
        let at = (holds_where_reached v0 waited.course.reached).0 in
        let d = (state_after v0.events).config in
        let all = by_config p.old new moves p.plan v0.events may in
        let ev = commit_events p.old new p.plan d in
        let here : filter is_of_change ev ≡ ev = front_is_of_change (is_frozen_or_new p.old p.plan d) d ev [] (subst (MayStepAll (is_frozen_or_new p.old p.plan d) d) (sym (append-nil ev)) all) in
        subst (λ (s : State). filter is_of_change (commit_events p.old new p.plan s.config) ≡ commit_events p.old new p.plan s.config) (sym at) here

    steps_run : IsRun ((after_rounds false p.waiting p.rounds).events ++ commit_events p.old new p.plan (after_rounds false p.waiting p.rounds).machine.config)
    steps_run =
        let v0 = after_rounds false p.waiting p.rounds in
        subst (λ (s : State). IsRun (v0.events ++ commit_events p.old new p.plan s.config)) (sym (holds_where_reached v0 waited.course.reached).0) (commits_run p.old new moves p.plan v0.events may)

    lines_are : ls ≡ opening_lines name args p.old p.plan w.machine.config ++ (drained_lines (looks_after p.waiting p.closed p.rounds).seen ++ commit_lines p.old new p.plan (after_rounds false p.waiting p.rounds).machine.config)
    lines_are =
        changed_lines w name args new within moves ls v p ∙ ap (λ (xs : List ℕ). opening_lines name args p.old p.plan w.machine.config
        ++ cond (length xs == 0) (drained_lines (looks_after p.waiting p.closed p.rounds).seen ++ commit_lines p.old new p.plan (after_rounds false p.waiting p.rounds).machine.config)
        (drained_lines (looks_after p.waiting p.closed p.rounds).seen ++ pending_lines within (map (seen_at (after_rounds false p.waiting p.rounds)) xs) p.closed)) none

    world_is : v ≡ after_changes (after_rounds false p.waiting p.rounds) (commit_events p.old new p.plan (after_rounds false p.waiting p.rounds).machine.config)
    world_is = changed_world w name args new within moves ls v p ∙ ap (λ (xs : List ℕ). after_changes (after_rounds false p.waiting p.rounds) (cond (length xs == 0) (commit_events p.old new p.plan (after_rounds false p.waiting p.rounds).machine.config) (map event.Reopen p.closed))) none

    committed : GoesBy h (change name args new within moves) ls v
    committed =
        let v0 = after_rounds false p.waiting p.rounds in
        let l = looks_after p.waiting p.closed p.rounds in
        let ev = commit_events p.old new p.plan v0.machine.config in
        let drained = drained_lines l.seen in
        let next = with_changes ev (opened ++ drained) v0 (base ++ waited.later) steps_kept steps_run waited.course in
        let end_ = with_said ((opened ++ drained) ++ lines_of_events ev) (after_changes v0 ev) ((base ++ waited.later) ++ map of_history (lines_of_events ev)) to.Commit next refl refl tt tt in
        let members = ((base ++ waited.later) ++ map of_history (lines_of_events ev)) ++ of_history to.Commit ∷ [] in
        let whole : ((opened ++ drained) ++ lines_of_events ev) ++ to.Commit ∷ [] ≡ h ++ ls =
        append_assoc (opened ++ drained) (lines_of_events ev) (to.Commit ∷ []) ∙ append_assoc opened drained (commit_lines p.old new p.plan v0.machine.config)
        ∙ ap (λ xs. xs ++ (drained ++ commit_lines p.old new p.plan v0.machine.config)) opened_is
        ∙ append_assoc h (opening_lines name args p.old p.plan w.machine.config) (drained ++ commit_lines p.old new p.plan v0.machine.config) ∙ ap (λ xs. h ++ xs) (sym lines_are) in
        record {
          right = (
            λ pending. absurd (both_ways (list_any is_pending h) tried pending),
            λ tried. is_change (drained ++ commit_lines p.old new p.plan v0.machine.config) lines_are
                (inl (record {
                  looks = l.seen;
                  are_looks = looks_are;
                  all_seen = subst (λ ports. AreSeen ports (seen_in_all l.seen)) (p.closed_are ∙ sym (ap (ports_to_close p.old p.plan) (sym after_opening) ∙ same_ports p.old p.plan w.machine.config v0.machine.config same_then))
                      (subst (AreSeen p.closed) (ap (λ xs. seen_in_all l.seen ++ map (seen_at v0) xs) none ∙ append-nil (seen_in_all l.seen)) seen_are);
                  are = ap (λ d. drained ++ commit_lines p.old new p.plan d) after_opening;
                })),
          );
          members = members;
          course = subst (λ x. Course x v members) whole (subst (λ u. Course (((opened ++ drained) ++ lines_of_events ev) ++ to.Commit ∷ []) u members) (sym world_is) end_);
        }

  -- some are left: it is given up
  module _ (some : (length (looks_after p.waiting p.closed p.rounds).left == 0) ≡ false) where
    abbrev rest_lines : List HistoryLine
    rest_lines =
        drained_lines (looks_after p.waiting p.closed p.rounds).seen ++ pending_lines within (map (seen_at (after_rounds false p.waiting p.rounds)) (looks_after p.waiting p.closed p.rounds).left) p.closed

    given_lines : ls ≡ opening_lines name args p.old p.plan w.machine.config
        ++ (drained_lines (looks_after p.waiting p.closed p.rounds).seen ++ pending_lines within (map (seen_at (after_rounds false p.waiting p.rounds)) (looks_after p.waiting p.closed p.rounds).left) p.closed)
    given_lines =
        changed_lines w name args new within moves ls v p ∙ ap (λ (b : Bool). opening_lines name args p.old p.plan w.machine.config
        ++ cond b (drained_lines (looks_after p.waiting p.closed p.rounds).seen ++ commit_lines p.old new p.plan (after_rounds false p.waiting p.rounds).machine.config)
        (drained_lines (looks_after p.waiting p.closed p.rounds).seen ++ pending_lines within (map (seen_at (after_rounds false p.waiting p.rounds)) (looks_after p.waiting p.closed p.rounds).left) p.closed)) some

    given_world : v ≡ after_changes (after_rounds false p.waiting p.rounds) (map event.Reopen p.closed)
    given_world = changed_world w name args new within moves ls v p ∙ ap (λ (b : Bool). after_changes (after_rounds false p.waiting p.rounds) (cond b (commit_events p.old new p.plan (after_rounds false p.waiting p.rounds).machine.config) (map event.Reopen p.closed))) some

    some_left : 0 < length (map (seen_at (after_rounds false p.waiting p.rounds)) (looks_after p.waiting p.closed p.rounds).left)
    some_left = by (looks_after p.waiting p.closed p.rounds).left some
      where
        by : (xs : List ℕ) → (length xs == 0) ≡ false → 0 < length (map (seen_at (after_rounds false p.waiting p.rounds)) xs)
        by [] e = absurd (both_ways true e refl)
        by (x ∷ xs) e = omega arith

    given_up : GoesBy h (change name args new within moves) ls v
    given_up =
        let v0 = after_rounds false p.waiting p.rounds in
        let l = looks_after p.waiting p.closed p.rounds in
        let drained = drained_lines l.seen in
        let roots = map root_line (map (seen_at v0) l.left) in
        let first = h ++ to.Change name args ∷ [] in
        let first_members = m ++ of_history (to.Change name args) ∷ [] in
        let pended = with_said (opened ++ drained) v0 (base ++ waited.later) (to.Pending within) waited.course refl refl tt tt in
        let later = waited.later ++ of_history (to.Pending within) ∷ [] in
        let now : Course ((opened ++ drained) ++ to.Pending within ∷ []) v0 (base ++ later) = subst (Course ((opened ++ drained) ++ to.Pending within ∷ []) v0) (append_assoc base waited.later (of_history (to.Pending within) ∷ [])) pended in
        let more = drained ++ to.Pending within ∷ [] in
        let now_so : Course (opened ++ more) v0 (base ++ later) =
        subst (λ x. Course x v0 (base ++ later)) (append_assoc opened drained (to.Pending within ∷ [])) now in
        let config_so : v0.machine.config ≡ (after_changes w (map event.Close p.closed)).machine.config = waited.config ∙ ap (λ (u : World). u.machine.config) p.waits in
        let rooted = with_roots first w first_members head p.closed live later more v0 now_so config_so l.left ((opened ++ drained) ++ to.Pending within ∷ []) (λ q i. (waited.listed q i, waited.undrained q i)) now in
        let run = reopens_run first w first_members head p.closed live later more v0 now_so config_so in
        let ev = map event.Reopen p.closed in
        let next = with_changes ev (((opened ++ drained) ++ to.Pending within ∷ []) ++ roots) v0 (base ++ later) (reopens_are_of_change p.closed) run rooted in
        let next_so : Course ((((opened ++ drained) ++ to.Pending within ∷ []) ++ roots) ++ map to.Reopen p.closed) (after_changes v0 ev) ((base ++ later) ++ map of_history (map to.Reopen p.closed)) =
        subst (λ xs. Course ((((opened ++ drained) ++ to.Pending within ∷ []) ++ roots) ++ xs) (after_changes v0 ev) ((base ++ later) ++ map of_history xs)) (reopen_lines p.closed) next in
        let end_ = with_said ((((opened ++ drained) ++ to.Pending within ∷ []) ++ roots) ++ map to.Reopen p.closed) (after_changes v0 ev) ((base ++ later) ++ map of_history (map to.Reopen p.closed)) to.Abandon next_so refl refl tt tt in
        let members = ((base ++ later) ++ map of_history (map to.Reopen p.closed)) ++ of_history to.Abandon ∷ [] in
        let tail = (roots ++ map to.Reopen p.closed) ++ to.Abandon ∷ [] in
        let whole : ((((opened ++ drained) ++ to.Pending within ∷ []) ++ roots) ++ map to.Reopen p.closed) ++ to.Abandon ∷ [] ≡ h ++ ls =
        ap (λ xs. xs ++ to.Abandon ∷ []) (append_assoc ((opened ++ drained) ++ to.Pending within ∷ []) roots (map to.Reopen p.closed))
        ∙ append_assoc ((opened ++ drained) ++ to.Pending within ∷ []) (roots ++ map to.Reopen p.closed) (to.Abandon ∷ [])
        ∙ append_assoc (opened ++ drained) (to.Pending within ∷ []) tail ∙ append_assoc opened drained (to.Pending within ∷ tail)
        ∙ ap (λ xs. xs ++ (drained ++ to.Pending within ∷ tail)) opened_is
        ∙ append_assoc h (opening_lines name args p.old p.plan w.machine.config) (drained ++ to.Pending within ∷ tail) ∙ ap (λ xs. h ++ xs) (sym given_lines) in
        record {
          right = (
            λ pending. absurd (both_ways (list_any is_pending h) tried pending),
            λ not_pending. is_change (drained ++ pending_lines within (map (seen_at v0) l.left) p.closed) given_lines
                (inr (record {
                  looks = l.seen;
                  left = map (seen_at v0) l.left;
                  are_looks = looks_are;
                  some_left = some_left;
                  all_seen = subst (λ ports. AreSeen ports (seen_in_all l.seen ++ map (seen_at v0) l.left)) p.closed_are seen_are;
                  are = ap (λ ports. drained ++ pending_lines within (map (seen_at v0) l.left) ports) p.closed_are;
                })),
          );
          members = members;
          course = subst (λ x. Course x v members) whole (subst (λ u. Course (((((opened ++ drained) ++ to.Pending within ∷ []) ++ roots) ++ map to.Reopen p.closed) ++ to.Abandon ∷ []) u members) (sym given_world) end_);
        }

  pub play_change : GoesBy h (change name args new within moves) ls v
  play_change = by (length (looks_after p.waiting p.closed p.rounds).left == 0) refl
    where
      by : (b : Bool) → (length (looks_after p.waiting p.closed p.rounds).left == 0) ≡ b → GoesBy h (change name args new within moves) ls v
      by true none = committed (nil_from_length (looks_after p.waiting p.closed p.rounds).left (eqb-true (length (looks_after p.waiting p.closed p.rounds).left) 0 none))
      by false some = given_up some

-- a statement behind the start
pub plays_by : CommitsRun → CommitsByConfiguration → (done : List Statement) (s : Statement) (h ls : List HistoryLine) (rest : List Statement) (w v : World) (m : List Member) (g : Graph) (made : Made) → Course h w m → Fits done h g made
    → GoOnSoundly (s ∷ rest) g made → Plays h w s ls v → GoesBy h s ls v
plays_by commits_run by_config done (start name args new) h ls rest w v m g made c fits says p = absurd says
plays_by commits_run by_config done (change name args new within moves) h ls rest w v m g made c fits says p = ⊎_elim
    (λ (skipped : list_any is_pending h ≡ true).
    let skips = p.0 skipped in
    let next = play_skip h w v m name args ls skips.are skips.world c in
    record { right = (λ pending. skips.are, λ tried. absurd (both_ways (list_any is_pending h) tried skipped)); members = next.0; course = next.1 })
    (λ (tried : list_any is_pending h ≡ false). play_change commits_run by_config done h w v m name args g new within moves made c fits (fits.stands tried) says.graph says.can_plan tried ls (p.1 tried))
    (cases_Bool (list_any is_pending h))
plays_by commits_run by_config done (run k) h ls rest w v m g made c fits says p = play_run h w v m k ls p c
plays_by commits_run by_config done (finish n) h ls rest w v m g made c fits says p = play_finish h w v m n ls p c
plays_by commits_run by_config done show h ls rest w v m g made c fits says p = play_show h w v m ls p c

-- the start
pub starts_by : (name : List ℕ) (args : List ℤ) (g : Graph) (ls : List HistoryLine) (w v : World) → IsRun (w.events ++ start_of g) → filter is_of_change (start_of g) ≡ start_of g → Course [] w [] → Plays [] w (start name args g) ls v
    → GoesBy [] (start name args g) ls v
starts_by name args g ls w v run_so kept c p =
    let head = with_said [] w [] (to.Start name args) c refl refl tt tt in
    let made = with_changes (start_of g) (to.Start name args ∷ []) w (of_history (to.Start name args) ∷ []) kept run_so head in
    let end_ = with_said (to.Start name args ∷ lines_of_events (start_of g)) (after_changes w (start_of g)) (of_history (to.Start name args) ∷ map of_history (lines_of_events (start_of g))) to.Commit made refl refl tt tt in
    let members = (of_history (to.Start name args) ∷ map of_history (lines_of_events (start_of g))) ++ of_history to.Commit ∷ [] in
    record { right = p.0; members = members; course = subst (λ x. Course x v members) (sym p.0) (subst (λ u. Course (start_lines name args g) u members) (sym p.1) end_) }

-- the stop
pub record StopsBy (h ls : List HistoryLine) (v : World) : Type 0 where
  pub right : IsStop h ls
  pub members : List Member
  pub course : Course (h ++ ls) v members

pub stops_by : (h ls : List HistoryLine) (w v : World) (m : List Member) → Course h w m → StopsAt w ls v → StopsBy h ls v
stops_by h ls w v m c s =
    let ports = live_ports w.machine.config in
    let config = course_config h w m c in
    let live : (q : ℕ) → In ports q → IsLivePort w.machine.config q = live_listed w.machine.config in
    let first = h ++ to.Stop ∷ [] in
    let first_members = m ++ of_history to.Stop ∷ [] in
    let head = with_said h w m to.Stop c refl refl tt tt in
    let opened = first ++ map to.Close ports in
    let base = first_members ++ map of_history (map to.Close ports) in
    let closed : Course opened s.waiting base = subst (λ u. Course opened u base) (sym s.waits) (shut first w first_members head ports live) in
    let rise = where_rise (is_live_port w.machine.config) w.machine.config in
    let waited = looked opened s.waiting base ports s.rounds closed in
    let l = looks_after s.waiting ports s.rounds in
    let none : l.left ≡ [] = nil_from_length l.left (eqb-true (length l.left) 0 s.number.holds) in
    let seen_so : AreSeen ports (seen_in_all l.seen) =
    subst (AreSeen ports) (ap (λ xs. seen_in_all l.seen ++ map (seen_at (after_rounds false s.waiting s.rounds)) xs) none ∙ append-nil (seen_in_all l.seen)) (all_seen s.waiting (after_rounds false s.waiting s.rounds) ports rise s.rounds) in
    let whole : opened ++ drained_lines l.seen ≡ h ++ ls =
    append_assoc first (map to.Close ports) (drained_lines l.seen) ∙ append_assoc h (to.Stop ∷ []) (map to.Close ports ++ drained_lines l.seen) ∙ ap (λ xs. h ++ xs) (sym s.are) in
    record {
      right = record { seen = seen_in_all l.seen; are = s.are ∙ ap (λ d. to.Stop ∷ map to.Close (live_ports d) ++ drained_lines l.seen) config; all_seen = subst (λ d. AreSeen (live_ports d) (seen_in_all l.seen)) config seen_so };
      members = base ++ waited.later;
      course = subst (λ x. Course x v (base ++ waited.later)) whole (subst (λ u. Course (opened ++ drained_lines l.seen) u (base ++ waited.later)) (sym s.world) waited.course);
    }
