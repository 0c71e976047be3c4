-- Each commit of a history that follows a sound script leaves the graph of its description. The lines alone decide it: the change's
-- events make the configuration, and by themselves they are a run.
use Rattle.std.proofs.Common.{◌≡◌, ◌∙◌, ℕ, ◌+◌, ◌-◌, ◌≤◌, Bool, true, false, cond, not, ◌&&◌, List, [], ◌∷◌, ◌++◌, append_assoc, map, length, Option, Some, None, refl, sym, ap, subst, ⊎_elim, arith}
use Rattle.std.specs.Prelude.{◌⊎◌, ⊤, ℤ, All, filter, filter_map, slice_get, sum_by}
use Rattle.std.specs.List.{cons_option, count_by, enumerate_from, list_all, list_any, range_with_len}
use Rattle.std.proofs.lemmas.Bool.{both_ways, cases_Bool, or_parts}
use Rattle.std.proofs.lemmas.List.{append-nil, length-map}
use Rattle.std.proofs.lemmas.Grind.{flat_map-append}
use Rattle.std.proofs.lemmas.List.Elements.{filter-append, filter_map-append}
use Rattle.std.proofs.lemmas.List.Folds.{list_any-append}
use Rattle.std.proofs.lemmas.List.FromFn.{length-enumerate_from}
use Rattle.base.specs.Each.{Each, EachAfter}
use Rattle.base.proofs.EachLaws.{each_at, each_joined}
use Rattle.base.proofs.MapLaws.{count_by-append}
use Rattle.base.proofs.PlaceLaws.{slice_get-behind}
use Rattle.config_graph.specs.Graph.{Graph, IsGraph, ports, requires_at}
use Rattle.config_graph.specs.Sound.{Sound}
use Rattle.config_graph.specs.declared.node.Made.{Made}
use Rattle.config_graph.proofs.GraphByLaws.{one_graph}
use Rattle.change_plan.specs.Differences.{IsGone}
use Rattle.change_plan.specs.Plans.{IsPlanOf}
use Rattle.change_plan.specs.Refusals.{CanPlan}
use Rattle.change_plan.specs.declared.plan_data.Move.{Move}
use Rattle.change_plan.specs.declared.plan_data.Plan.{Plan}
use Rattle.change_plan.proofs.SelectsLaws.{Selects-one}
use Rattle.quiesce_laws.specs.Steps.{MayStepAll, change_all, live_ports}
use Rattle.quiesce_laws.proofs.MeanwhileLaws.{front_is_of_change}
use Rattle.change_plan_laws.specs.Commit.{commit_events, commit_steps, is_frozen_or_new, ports_to_close, reopened_ports}
use Rattle.change_plan_laws.specs.Committing.{MayCommit, made_in}
use Rattle.quiesce_laws.specs.Starts.{start_of}
use Rattle.quiesce_laws.proofs.StartLaws.{start_path}
use Rattle.quiesce_core.specs.declared.event.Event.{Event}
use Rattle.quiesce_core.specs.declared.event.Event.TheVariants as event
use Rattle.quiesce_core.specs.Doers.{is_of_change}
use Rattle.quiesce_core.specs.Live.{AreLinked, IsGraphOf, IsLiveNode}
use Rattle.quiesce_core.specs.Runs.{IsRun, state_after}
use Rattle.quiesce_core.specs.Start.{gate_of, slot_of, started}
use Rattle.quiesce_core.specs.State.{State, empty}
use Rattle.quiesce_core.proofs.GraphLaws.{graph_started}
use Rattle.quiesce_core.proofs.RunLaws.{changes_make_the_configuration, fronts_are_runs}
use Rattle.quiesce_core.proofs.StepsLaws.{end_is}
use Rattle.report_types.specs.declared.report.HistoryLine.{HistoryLine}
use Rattle.report_types.specs.declared.report.HistoryLine.TheVariants as to
use Rattle.report_types.specs.declared.report.Report.{Report}
use Rattle.change_spec.specs.Changes.{IsChange, IsCommitted, IsGivenUp, drained_lines, opening_lines, pending_lines, seen_in_all}
use Rattle.change_spec.specs.Follows.{Follows, IsRight, Part, lines_of, start_lines}
use Rattle.change_spec.specs.Lawful.{IsGraphDescribed, IsOfItsKind, Merge, described, is_head}
use Rattle.change_spec.specs.Members.{Member, of_history, events, is_commit, is_pending, is_root, line_of, lines, lines_of_events, without_roots}
use Rattle.change_spec.specs.Scene.{Seen, config_after, drained_line, root_line}
use Rattle.change_spec.specs.Scripts.{more_made}
use Rattle.change_spec.specs.Statements.{Statement, start, change, run, finish, show, graph_of}
use Rattle.change_spec.proofs.MemberLaws.{changes_are_lines, config_of_lines, events_without_roots, lines_parts}
use Rattle.base.proofs.ListLaws.{count_by-none, all_parts, none_both, any_of_none}
use Rattle.change_round_laws.specs.Described.{IsLeftAt, LeavesDescribed}
use Rattle.change_round_laws.specs.SoundStatements.{named_by, AreSound, ChangesSoundly, GoOnSoundly, IsSoundGraph, StartsSoundly, made_of_graph}
use Rattle.change_round_laws.proofs.AloneLaws.{changes_run}
use Rattle.change_round_laws.proofs.GrowthLemmas.{commit_nodes, commit_ports, nodes_after, nodes_by, ports_after, ports_by, total, total_both, total_none}
use Rattle.change_round_laws.proofs.LineLaws.{all_changes, changes, changes_both, changes_of_closes, changes_of_lines, changes_of_looks, config_more, config_of, none_of_events}

-- what change_plan_laws says of commits
abbrev pub EachMayCommit : Type 0
EachMayCommit = (old new : Graph) (moves : List Move) (plan : Plan) (es : List Event) → IsGraph old → IsGraph new → Sound new → IsPlanOf old new moves plan → IsRun es → list_all is_of_change es ≡ true
    → IsGraphOf (state_after es).config old → CanPlan old new moves (made_in (state_after es).config)
    → MayCommit old new moves plan (es ++ map event.Close (ports_to_close old plan (state_after es).config))

abbrev pub CommitsByConfiguration : Type 0
CommitsByConfiguration = (old new : Graph) (moves : List Move) (plan : Plan) (es : List Event) → MayCommit old new moves plan es
    → MayStepAll (is_frozen_or_new old plan (state_after es).config) (state_after es).config (commit_events old new plan (state_after es).config)

abbrev pub CommitsLeaveGraphs : Type 0
CommitsLeaveGraphs = (old new : Graph) (moves : List Move) (plan : Plan) (es more_ done left : List Event) → MayCommit old new moves plan es
    → filter is_of_change more_ ≡ commit_steps old new plan (state_after es).config ++ done
    → done ++ left ≡ map event.Reopen (reopened_ports old new plan (state_after es).config) → IsGraphOf (state_after (es ++ more_)).config new

kept_pass : (xs : List Event) → list_all is_of_change (filter is_of_change xs) ≡ true
kept_pass [] = refl
kept_pass (x ∷ xs) = one (is_of_change x) refl (kept_pass xs)
  where
    one : (b : Bool) → is_of_change x ≡ b → list_all is_of_change (filter is_of_change xs) ≡ true → list_all is_of_change (cond (is_of_change x) (x ∷ filter is_of_change xs) (filter is_of_change xs)) ≡ true
    one true e rest = ap (λ b. list_all is_of_change (cond b (x ∷ filter is_of_change xs) (filter is_of_change xs))) e ∙ ap (λ b. b && list_all is_of_change (filter is_of_change xs)) e ∙ rest
    one false e rest = ap (λ b. list_all is_of_change (cond b (x ∷ filter is_of_change xs) (filter is_of_change xs))) e ∙ rest

all_if_kept : (es : List Event) → filter is_of_change es ≡ es → list_all is_of_change es ≡ true
all_if_kept es h = subst (λ xs. list_all is_of_change xs ≡ true) h (kept_pass es)

-- no line of events is a commit, a head or a pending line

line_is_none : (t : HistoryLine → Bool) → ((n : ℕ) (made : _) (from : Option ℕ) → t (to.Make n made from) ≡ false) → ((p n x : ℕ) → t (to.Link p n x) ≡ false) → ((p : ℕ) → t (to.Unlink p) ≡ false)
    → ((n : ℕ) → t (to.Remove n) ≡ false) → ((p : ℕ) → t (to.Close p) ≡ false) → ((p : ℕ) → t (to.Reopen p) ≡ false) → (es : List Event) → list_any t (lines_of_events es) ≡ false
line_is_none t make link unlink remove close reopen es = none_of_events t by es
  where
    by : (e : Event) (ls : List HistoryLine) → list_any t ls ≡ false → list_any t (cons_option (line_of e) ls) ≡ false
    by (event.Make n made from) ls h = rw (make n made from) h
    by (event.Link p n x) ls h = rw (link p n x) h
    by (event.Unlink p) ls h = rw (unlink p) h
    by (event.Remove n) ls h = rw (remove n) h
    by (event.Close p) ls h = rw (close p) h
    by (event.Reopen p) ls h = rw (reopen p) h
    by _ ls h = h

commits_in_events : (es : List Event) → list_any is_commit (lines_of_events es) ≡ false
commits_in_events es = line_is_none is_commit (λ n made from. refl) (λ p n x. refl) (λ p. refl) (λ n. refl) (λ p. refl) (λ p. refl) es

heads_in_events : (es : List Event) → list_any is_head (lines_of_events es) ≡ false
heads_in_events es = line_is_none is_head (λ n made from. refl) (λ p n x. refl) (λ p. refl) (λ n. refl) (λ p. refl) (λ p. refl) es

-- where no commit is, nothing is asked
free : (statements : List Statement) (before xs : List HistoryLine) → list_any is_commit xs ≡ false → EachAfter (IsLeftAt statements) before xs
free statements before [] h = tt
free statements before (to.Commit ∷ xs) h = absurd (both_ways true h refl)
free statements before (l ∷ xs) h = (tt, free statements (before ++ l ∷ []) xs h)

last_left : (statements : List Statement) (before xs : List HistoryLine) → list_any is_commit xs ≡ false → LeavesDescribed statements (before ++ xs) → EachAfter (IsLeftAt statements) before (xs ++ to.Commit ∷ [])
last_left statements before xs none leaves = each_joined (IsLeftAt statements) before xs (to.Commit ∷ []) (free statements before xs none) (leaves, tt)

-- the description of the statement whose head is the last one
described_here : (statements done rest : List Statement) (s : Statement) (g : Graph) (h : List HistoryLine) → statements ≡ done ++ s ∷ rest → graph_of s ≡ Some g
    → count_by is_head h ≡ length (filter_map graph_of done) + 1 → described statements h ≡ Some g
described_here statements done rest s g h parts is many =
    let before = filter_map graph_of done in
    let at : count_by is_head h - 1 ≡ length before + 0 = omega (arith, many) in
    ap (slice_get (filter_map graph_of statements)) at
    ∙ ap (λ xs. slice_get xs (length before + 0)) (ap (filter_map graph_of) parts ∙ filter_map-append graph_of done (s ∷ rest) ∙ ap (λ o. before ++ cons_option o (filter_map graph_of rest)) is)
    ∙ slice_get-behind before (g ∷ filter_map graph_of rest) 0 g refl

-- the heads of lines, where the statements before them have so many graphs
pushed_heads : (done : List Statement) (s : Statement) (h ls : List HistoryLine) (n : ℕ) → count_by is_head h ≡ length (filter_map graph_of done) → count_by is_head ls ≡ n → length (cons_option (graph_of s) []) ≡ n
    → count_by is_head (h ++ ls) ≡ length (filter_map graph_of (done ++ s ∷ []))
pushed_heads done s h ls n heads own one =
    count_by-append is_head h ls ∙ (λ i. heads i + own i) ∙ ap (λ k. length (filter_map graph_of done) + k) (sym one)
    ∙ sym (Rattle.std.proofs.lemmas.List.length-append (filter_map graph_of done) (cons_option (graph_of s) []))
    ∙ sym (ap (λ (xs : List Graph). length xs) (filter_map-append graph_of done (s ∷ [])))

one_head : (l : HistoryLine) (xs : List HistoryLine) → is_head l ≡ true → list_any is_head xs ≡ false → count_by is_head (l ∷ xs) ≡ 1
one_head l xs yes_ none = count_by-append is_head (l ∷ []) xs ∙ (λ i. first i + count_by-none is_head xs none i)
  where
    first : count_by is_head (l ∷ []) ≡ 1
    first = rw yes_ refl

-- what stands after lines where no change was given up
pub record Stands (h : List HistoryLine) (g : Graph) (made : Made) : Type 0 where
  pub graph : IsGraphOf (config_after h) g
  pub made_is : made_in (config_after h) ≡ made

pub record Fits (done : List Statement) (h : List HistoryLine) (g : Graph) (made : Made) : Type 0 where
  pub heads : count_by is_head h ≡ length (filter_map graph_of done)
  pub sound : IsSoundGraph g
  pub stands : list_any is_pending h ≡ false → Stands h g made

-- a statement's lines, and what stands behind them
pub record Onward (statements done : List Statement) (s : Statement) (h ls : List HistoryLine) (rest : List Statement) (old : Graph) : Type 0 where
  pub graph : Graph
  pub named : graph ≡ named_by s old
  pub made : Made
  pub each : EachAfter (IsLeftAt statements) h ls
  pub fits : Fits (done ++ s ∷ []) (h ++ ls) graph made
  pub below : GoOnSoundly rest graph made

not_pending : (h ls : List HistoryLine) → list_any is_pending (h ++ ls) ≡ false → (list_any is_pending h ≡ false) × (list_any is_pending ls ≡ false)
not_pending h ls none = or_parts (list_any is_pending h) (list_any is_pending ls) (sym (list_any-append is_pending h ls) ∙ none)

-- lines without events
calm_onward : (statements done : List Statement) (s : Statement) (h ls : List HistoryLine) (rest : List Statement) (g : Graph) (made : Made) → graph_of s ≡ None → changes ls ≡ [] → list_any is_commit ls ≡ false
    → list_any is_head ls ≡ false → Fits done h g made → GoOnSoundly rest g made → g ≡ named_by s g → Onward statements done s h ls rest g
calm_onward statements done s h ls rest g made graphless eventless commitless headless fits below named =
    let same : config_after (h ++ ls) ≡ config_after h = config_more h ls ∙ ap (change_all (config_after h)) eventless in
    record {
      graph = g;
      named = named;
      made = made;
      each = free statements h ls commitless;
      fits = record {
        heads = pushed_heads done s h ls 0 fits.heads (count_by-none is_head ls headless) (ap (λ o. length (cons_option o [])) graphless);
        sound = fits.sound;
        stands = λ none.
            let before = fits.stands (not_pending h ls none).0 in
            record { graph = subst (λ c. IsGraphOf c g) (sym same) before.graph; made_is = ap made_in same ∙ before.made_is };
      };
      below = below;
    }

-- a change from a graph that is known
record ChangeOf (h : List HistoryLine) (name : List ℕ) (args : List ℤ) (new : Graph) (within : ℕ) (moves : List Move) (ls : List HistoryLine) (old : Graph) : Type 0 where
  plan : Plan
  is_plan : IsPlanOf old new moves plan
  rest : List HistoryLine
  are : ls ≡ opening_lines name args old plan (config_after h) ++ rest
  ends : IsCommitted old new plan within (config_after (h ++ opening_lines name args old plan (config_after h))) rest ⊎ IsGivenUp (ports_to_close old plan (config_after h)) within rest

change_of : (h : List HistoryLine) (name : List ℕ) (args : List ℤ) (new : Graph) (within : ℕ) (moves : List Move) (ls : List HistoryLine) (g : Graph) → IsChange h name args new within moves ls → IsGraphOf (config_after h) g
    → ChangeOf h name args new within moves ls g
change_of h name args new within moves ls g w is =
    subst (ChangeOf h name args new within moves ls) (one_graph (IsLiveNode (config_after h)) (AreLinked (config_after h)) w.old g w.is_old is)
    (record { plan = w.plan; is_plan = w.is_plan; rest = w.rest; are = w.are; ends = w.ends })

-- each statement's lines are right behind those before it
abbrev pub AreRightAfter : List HistoryLine → List Part → Type 0
AreRightAfter h [] = ⊤
AreRightAfter h (p ∷ parts) = IsRight h p.statement p.lines × AreRightAfter (h ++ p.lines) parts

module _ (each_may : EachMayCommit) (by_config : CommitsByConfiguration) (leaves : CommitsLeaveGraphs) (statements : List Statement) where
  module _ (done : List Statement) (h : List HistoryLine) (name : List ℕ) (args : List ℤ) (old new : Graph) (within : ℕ) (moves : List Move) (made : Made) (rest : List Statement)
      (parts : statements ≡ done ++ change name args new within moves ∷ rest) (run : IsRun (changes h)) (fits : Fits done h old made) (stands : Stands h old made) (says : ChangesSoundly old made new moves (GoOnSoundly rest))
      (plan : Plan) (is_plan : IsPlanOf old new moves plan) where
    abbrev opening : List HistoryLine
    opening = opening_lines name args old plan (config_after h)

    opened : changes h ++ map event.Close (ports_to_close old plan (state_after (changes h)).config) ≡ changes (h ++ opening_lines name args old plan (config_after h))
    opened =
        ap (λ c. changes h ++ map event.Close (ports_to_close old plan c)) (config_of h)
        ∙ ap (λ es. changes h ++ es) (sym (changes_of_closes (ports_to_close old plan (config_after h))))
        ∙ sym (changes_both h (opening_lines name args old plan (config_after h)))

    may : MayCommit old new moves plan (changes (h ++ opening_lines name args old plan (config_after h)))
    may =
        subst (MayCommit old new moves plan) opened
        (each_may old new moves plan (changes h) fits.sound.is_graph says.graph.is_graph says.graph.sound is_plan run (all_if_kept (changes h) (all_changes h))
        (subst (λ c. IsGraphOf c old) (sym (config_of h)) stands.graph)
        (subst (λ m. CanPlan old new moves m) (sym (ap made_in (config_of h) ∙ stands.made_is)) says.can_plan))

    -- the events of the commit
    abbrev steps : List Event
    steps = commit_events old new plan (config_after (h ++ opening_lines name args old plan (config_after h)))

    steps_kept : filter is_of_change (commit_events old new plan (config_after (h ++ opening_lines name args old plan (config_after h)))) ≡ commit_events old new plan (config_after (h ++ opening_lines name args old plan (config_after h)))
    steps_kept =
        let k = h ++ opening_lines name args old plan (config_after h) in
        let c = (state_after (changes k)).config in
        let may_all : MayStepAll (is_frozen_or_new old plan c) c (commit_events old new plan c) = by_config old new moves plan (changes k) may in
        let here : filter is_of_change (commit_events old new plan c) ≡ commit_events old new plan c =
        front_is_of_change (is_frozen_or_new old plan c) c (commit_events old new plan c) [] (subst (MayStepAll (is_frozen_or_new old plan c) c) (sym (append-nil (commit_events old new plan c))) may_all) in
        subst (λ d. filter is_of_change (commit_events old new plan d) ≡ commit_events old new plan d) (config_of k) here

    left : IsGraphOf (state_after (changes (h ++ opening_lines name args old plan (config_after h)) ++ commit_events old new plan (config_after (h ++ opening_lines name args old plan (config_after h))))).config new
    left =
        let k = h ++ opening_lines name args old plan (config_after h) in
        let c = (state_after (changes k)).config in
        let ports = map event.Reopen (reopened_ports old new plan c) in
        subst (λ d. IsGraphOf (state_after (changes k ++ commit_events old new plan d)).config new) (config_of k)
        (leaves old new moves plan (changes k) (commit_events old new plan c) ports [] may
        (subst (λ d. filter is_of_change (commit_events old new plan d) ≡ commit_events old new plan d) (sym (config_of k)) steps_kept)
        (append-nil ports))

    module _ (looks : List (List Seen)) where
      abbrev front : List HistoryLine
      front = opening_lines name args old plan (config_after h) ++ (drained_lines looks ++ lines_of_events (commit_events old new plan (config_after (h ++ opening_lines name args old plan (config_after h)))))

      tail_changes : changes (drained_lines looks ++ lines_of_events (commit_events old new plan (config_after (h ++ opening_lines name args old plan (config_after h)))))
          ≡ commit_events old new plan (config_after (h ++ opening_lines name args old plan (config_after h)))
      tail_changes =
          let ev = commit_events old new plan (config_after (h ++ opening_lines name args old plan (config_after h))) in
          changes_both (drained_lines looks) (lines_of_events ev) ∙ (λ i. changes_of_looks (seen_in_all looks) i ++ (changes_of_lines ev ∙ steps_kept) i)

      graph_left : IsGraphOf (config_after (h ++ (opening_lines name args old plan (config_after h) ++ (drained_lines looks ++ lines_of_events (commit_events old new plan (config_after (h ++ opening_lines name args old plan (config_after h)))))))) new
      graph_left =
          let k = h ++ opening_lines name args old plan (config_after h) in
          let tail = drained_lines looks ++ lines_of_events (commit_events old new plan (config_after k)) in
          let all : changes k ++ commit_events old new plan (config_after k) ≡ changes (h ++ (opening_lines name args old plan (config_after h) ++ tail)) =
          ap (λ es. changes k ++ es) (sym tail_changes) ∙ sym (changes_both k tail) ∙ ap changes (append_assoc h (opening_lines name args old plan (config_after h)) tail) in
          subst (λ c. IsGraphOf c new) (config_of (h ++ (opening_lines name args old plan (config_after h) ++ tail)))
          (subst (λ es. IsGraphOf (state_after es).config new) all left)

      commitless : list_any is_commit (opening_lines name args old plan (config_after h) ++ (drained_lines looks ++ lines_of_events (commit_events old new plan (config_after (h ++ opening_lines name args old plan (config_after h)))))) ≡ false
      commitless =
          let ev = commit_events old new plan (config_after (h ++ opening_lines name args old plan (config_after h))) in
          none_both is_commit (opening_lines name args old plan (config_after h)) (drained_lines looks ++ lines_of_events ev) (any_of_none is_commit to.Close (λ p. refl) (ports_to_close old plan (config_after h)))
          (none_both is_commit (drained_lines looks) (lines_of_events ev) (any_of_none is_commit drained_line (λ d. refl) (seen_in_all looks)) (commits_in_events ev))

      front_heads : count_by is_head (opening_lines name args old plan (config_after h) ++ (drained_lines looks ++ lines_of_events (commit_events old new plan (config_after (h ++ opening_lines name args old plan (config_after h)))))) ≡ 1
      front_heads =
          let ev = commit_events old new plan (config_after (h ++ opening_lines name args old plan (config_after h))) in
          one_head (to.Change name args) (map to.Close (ports_to_close old plan (config_after h)) ++ (drained_lines looks ++ lines_of_events ev)) refl
          (none_both is_head (map to.Close (ports_to_close old plan (config_after h))) (drained_lines looks ++ lines_of_events ev) (any_of_none is_head to.Close (λ p. refl) (ports_to_close old plan (config_after h)))
          (none_both is_head (drained_lines looks) (lines_of_events ev) (any_of_none is_head drained_line (λ d. refl) (seen_in_all looks)) (heads_in_events ev)))

      whole_changes : changes (opening_lines name args old plan (config_after h) ++ ((drained_lines looks ++ lines_of_events (commit_events old new plan (config_after (h ++ opening_lines name args old plan (config_after h))))) ++ to.Commit ∷ []))
          ≡ map event.Close (ports_to_close old plan (config_after h)) ++ commit_events old new plan (config_after (h ++ opening_lines name args old plan (config_after h)))
      whole_changes =
          let o = opening_lines name args old plan (config_after h) in
          let tail = drained_lines looks ++ lines_of_events (commit_events old new plan (config_after (h ++ o))) in
          changes_both o (tail ++ to.Commit ∷ [])
          ∙ (λ i. changes_of_closes (ports_to_close old plan (config_after h)) i ++ (changes_both tail (to.Commit ∷ []) ∙ append-nil (changes tail) ∙ tail_changes) i)

      made_then : (ls : List HistoryLine) → changes ls ≡ map event.Close (ports_to_close old plan (config_after h)) ++ commit_events old new plan (config_after (h ++ opening_lines name args old plan (config_after h)))
          → made_in (config_after (h ++ ls)) ≡ more_made made says.can_plan.nodes says.can_plan.ports
      made_then ls is =
          let c = config_after h in
          let k = config_after (h ++ opening_lines name args old plan (config_after h)) in
          let closing = map event.Close (ports_to_close old plan c) in
          let ev = commit_events old new plan k in
          let wanted = says.can_plan.wanted in
          let same : wanted.created ≡ plan.create = Selects-one (IsGone new old) (range_with_len 0 (length new.nodes)) wanted.created plan.create wanted.gone is_plan.steps.create in
          let there : config_after (h ++ ls) ≡ change_all c (closing ++ ev) = config_more h ls ∙ ap (change_all c) is in
          let n_was : length c.slots ≡ made.nodes = ap (λ (m : Made). m.nodes) stands.made_is in
          let p_was : length c.gates ≡ made.ports = ap (λ (m : Made). m.ports) stands.made_is in
          let n_closing : total nodes_by closing ≡ 0 = total_none nodes_by event.Close (λ p. refl) (ports_to_close old plan c) in
          let p_closing : total ports_by closing ≡ 0 = total_none ports_by event.Close (λ p. refl) (ports_to_close old plan c) in
          let n_are : total nodes_by ev ≡ says.can_plan.nodes = commit_nodes old new plan k ∙ ap (λ (js : List ℕ). length js) (sym same) ∙ sym wanted.nodes_are in
          let p_are : total ports_by ev ≡ says.can_plan.ports = commit_ports old new plan k ∙ ap (sum_by (requires_at new.nodes)) (sym same) ∙ sym wanted.ports_are in
          let nodes : length (change_all c (closing ++ ev)).slots ≡ made.nodes + says.can_plan.nodes = omega (arith, nodes_after c (closing ++ ev), total_both nodes_by closing ev, n_closing, n_are, n_was) in
          let ports : length (change_all c (closing ++ ev)).gates ≡ made.ports + says.can_plan.ports = omega (arith, ports_after c (closing ++ ev), total_both ports_by closing ev, p_closing, p_are, p_was) in
          ap made_in there ∙ (λ i. record { nodes = nodes i; ports = ports i })

      -- a commit
      committed : (ls : List HistoryLine)
          → ls ≡ (opening_lines name args old plan (config_after h) ++ (drained_lines looks ++ lines_of_events (commit_events old new plan (config_after (h ++ opening_lines name args old plan (config_after h)))))) ++ to.Commit ∷ []
          → Onward statements done (change name args new within moves) h ls rest old
      committed ls are =
          let o = opening_lines name args old plan (config_after h) in
          let tail = drained_lines looks ++ lines_of_events (commit_events old new plan (config_after (h ++ o))) in
          let s = change name args new within moves in
          let heads : count_by is_head (h ++ (o ++ tail)) ≡ length (filter_map graph_of done) + 1 = count_by-append is_head h (o ++ tail) ∙ (λ i. fits.heads i + front_heads i) in
          let own : count_by is_head ls ≡ 1 = ap (count_by is_head) are ∙ count_by-append is_head (o ++ tail) (to.Commit ∷ []) ∙ (λ i. front_heads i + count_by-none is_head (to.Commit ∷ []) refl i) in
          let all : changes ls ≡ map event.Close (ports_to_close old plan (config_after h)) ++ commit_events old new plan (config_after (h ++ o)) = ap changes (are ∙ append_assoc o tail (to.Commit ∷ [])) ∙ whole_changes in
          let last : config_after (h ++ ls) ≡ config_after (h ++ (o ++ tail)) =
          ap (λ xs. config_after (h ++ xs)) are ∙ ap config_after (sym (append_assoc h (o ++ tail) (to.Commit ∷ []))) ∙ config_more (h ++ (o ++ tail)) (to.Commit ∷ []) in
          record {
            graph = new;
            named = refl;
            made = more_made made says.can_plan.nodes says.can_plan.ports;
            each = subst (EachAfter (IsLeftAt statements) h) (sym are)
                (last_left statements h (o ++ tail) commitless (record { graph = new; described_so = described_here statements done rest s new (h ++ (o ++ tail)) parts refl heads; stands = graph_left }));
            fits = record {
              heads = pushed_heads done s h ls 1 fits.heads own refl;
              sound = says.graph;
              stands = λ none. record { graph = subst (λ c. IsGraphOf c new) (sym last) graph_left; made_is = made_then ls all };
            };
            below = says.below;
          }

    -- a change that is given up
    given_up : (ls rest_lines : List HistoryLine) → ls ≡ opening_lines name args old plan (config_after h) ++ rest_lines → IsGivenUp (ports_to_close old plan (config_after h)) within rest_lines
        → Onward statements done (change name args new within moves) h ls rest old
    given_up ls rest_lines are w =
        let o = opening_lines name args old plan (config_after h) in
        let s = change name args new within moves in
        let closed = ports_to_close old plan (config_after h) in
        let whole : ls ≡ o ++ (drained_lines w.looks ++ pending_lines within w.left closed) = are ∙ ap (λ xs. o ++ xs) w.are in
        let none_in : (t : HistoryLine → Bool) → ((p : ℕ) → t (to.Close p) ≡ false) → ((d : Seen) → t (drained_line d) ≡ false) → t (to.Pending within) ≡ false → ((d : Seen) → t (root_line d) ≡ false)
        → ((p : ℕ) → t (to.Reopen p) ≡ false) → t to.Abandon ≡ false → list_any t (map to.Close closed ++ (drained_lines w.looks ++ pending_lines within w.left closed)) ≡ false =
        λ t close look pend root reopen end_.
        none_both t (map to.Close closed) (drained_lines w.looks ++ pending_lines within w.left closed) (any_of_none t to.Close close closed)
        (none_both t (drained_lines w.looks) (pending_lines within w.left closed) (any_of_none t drained_line look (seen_in_all w.looks))
        (rw pend (none_both t (map root_line w.left ++ map to.Reopen closed) (to.Abandon ∷ [])
        (none_both t (map root_line w.left) (map to.Reopen closed) (any_of_none t root_line root w.left) (any_of_none t to.Reopen reopen closed)) (rw end_ refl)))) in
        let pends : list_any is_pending ls ≡ true =
        ap (list_any is_pending) whole ∙ list_any-append is_pending o (drained_lines w.looks ++ pending_lines within w.left closed)
        ∙ Rattle.std.proofs.lemmas.Bool.or_right (list_any is_pending o) (list_any is_pending (drained_lines w.looks ++ pending_lines within w.left closed))
        (list_any-append is_pending (drained_lines w.looks) (pending_lines within w.left closed)
        ∙ Rattle.std.proofs.lemmas.Bool.or_right (list_any is_pending (drained_lines w.looks)) (list_any is_pending (pending_lines within w.left closed)) refl) in
        record {
          graph = new;
          named = refl;
          made = more_made made says.can_plan.nodes says.can_plan.ports;
          each = subst (EachAfter (IsLeftAt statements) h) (sym whole)
              (free statements h (o ++ (drained_lines w.looks ++ pending_lines within w.left closed)) (none_in is_commit (λ p. refl) (λ d. refl) refl (λ d. refl) (λ p. refl) refl));
          fits = record {
            heads = pushed_heads done s h ls 1 fits.heads
                (ap (count_by is_head) whole ∙ one_head (to.Change name args) (map to.Close closed ++ (drained_lines w.looks ++ pending_lines within w.left closed)) refl
                (none_in is_head (λ p. refl) (λ d. refl) refl (λ d. refl) (λ p. refl) refl)) refl;
            sound = says.graph;
            stands = λ none. absurd (both_ways (list_any is_pending ls) (not_pending h ls none).1 pends);
          };
          below = says.below;
        }

  -- each statement behind the start
  pub onward : (done : List Statement) (s : Statement) (h ls : List HistoryLine) (rest : List Statement) (g : Graph) (made : Made) → statements ≡ done ++ s ∷ rest → IsRight h s ls → IsRun (changes h) → Fits done h g made
      → GoOnSoundly (s ∷ rest) g made → Onward statements done s h ls rest g
  onward done (start name args new) h ls rest g made parts right run_so fits says = absurd says
  onward done (change name args new within moves) h ls rest g made parts right run_so fits says = ⊎_elim
      (λ (skipped : list_any is_pending h ≡ true).
      let s = change name args new within moves in
      let are = right.0 skipped in
      record {
        graph = new;
        named = refl;
        made = more_made made says.can_plan.nodes says.can_plan.ports;
        each = subst (EachAfter (IsLeftAt statements) h) (sym are) (tt, (tt, tt));
        fits = record {
          heads = pushed_heads done s h ls 1 fits.heads (ap (count_by is_head) are ∙ one_head (to.Change name args) (to.Skipped ∷ []) refl refl) refl;
          sound = says.graph;
          stands = λ none. absurd (both_ways (list_any is_pending h) (not_pending h ls none).0 skipped);
        };
        below = says.below;
      })
      (λ (tried : list_any is_pending h ≡ false).
      let now = fits.stands tried in
      let w = change_of h name args new within moves ls g (right.1 tried) now.graph in
      let o = opening_lines name args g w.plan (config_after h) in
      ⊎_elim
      (λ (e : IsCommitted g new w.plan within (config_after (h ++ o)) w.rest).
      committed done h name args g new within moves made rest parts run_so fits now says w.plan w.is_plan e.looks ls
      (w.are ∙ ap (λ xs. o ++ xs) e.are ∙ ap (λ xs. o ++ xs) (sym (append_assoc (drained_lines e.looks) (lines_of_events (commit_events g new w.plan (config_after (h ++ o)))) (to.Commit ∷ [])))
      ∙ sym (append_assoc o (drained_lines e.looks ++ lines_of_events (commit_events g new w.plan (config_after (h ++ o)))) (to.Commit ∷ []))))
      (λ (e : IsGivenUp (ports_to_close g w.plan (config_after h)) within w.rest). given_up done h name args g new within moves made rest parts run_so fits now says w.plan w.is_plan ls w.rest w.are e)
      w.ends)
      (cases_Bool (list_any is_pending h))
  onward done (run k) h ls rest g made parts right run_so fits says =
      calm_onward statements done (run k) h ls rest g made refl (ap changes right.are) (ap (list_any is_commit) right.are) (ap (list_any is_head) right.are) fits says refl
  onward done (finish n) h ls rest g made parts right run_so fits says =
      calm_onward statements done (finish n) h ls rest g made refl (ap changes right.are) (ap (list_any is_commit) right.are) (ap (list_any is_head) right.are) fits says refl
  onward done show h ls rest g made parts right run_so fits says =
      calm_onward statements done show h ls rest g made refl (ap changes right.are) (ap (list_any is_commit) right.are) (ap (list_any is_head) right.are) fits says refl

  all_left : (done : List Statement) (h : List HistoryLine) (parts : List Part) (g : Graph) (made : Made) → statements ≡ done ++ map (λ (p : Part). p.statement) parts → AreRightAfter h parts → IsRun (changes (h ++ lines_of parts))
      → Fits done h g made → GoOnSoundly (map (λ (p : Part). p.statement) parts) g made → EachAfter (IsLeftAt statements) h (lines_of parts)
  all_left done h [] g made parts right run_so fits says = tt
  all_left done h (p ∷ ps) g made parts right run_so fits says =
      let all : changes (h ++ lines_of (p ∷ ps)) ≡ changes h ++ changes (lines_of (p ∷ ps)) = changes_both h (lines_of (p ∷ ps)) in
      let first = onward done p.statement h p.lines (map (λ (q : Part). q.statement) ps) g made parts right.0 (fronts_are_runs (changes h) (changes (lines_of (p ∷ ps))) (subst IsRun all run_so)) fits says in
      each_joined (IsLeftAt statements) h p.lines (lines_of ps) first.each
      (all_left (done ++ p.statement ∷ []) (h ++ p.lines) ps first.graph first.made (parts ∙ sym (append_assoc done (p.statement ∷ []) (map (λ (q : Part). q.statement) ps)))
      right.1 (subst (λ xs. IsRun (changes xs)) (sym (append_assoc h p.lines (lines_of ps))) run_so) first.fits first.below)

  -- the start
  module _ (name : List ℕ) (args : List ℤ) (g : Graph) (rest : List Statement) (parts : statements ≡ start name args g ∷ rest) (says : StartsSoundly g rest) where
    pub few_nodes : length g.nodes ≤ Rattle.config_graph.specs.declared.TheConstants.MAX_NODES
    few_nodes = let fit = says.room.nodes_fit in omega (arith, fit)

    pub few_ports : length (ports g.nodes) ≤ Rattle.config_graph.specs.declared.TheConstants.MAX_PORTS
    few_ports = let fit = says.room.ports_fit in omega (arith, fit)

    start_config : config_after (to.Start name args ∷ lines_of_events (start_of g)) ≡ (started g).config
    start_config =
        ap (change_all empty.config) (changes_of_lines (start_of g)) ∙ sym (changes_make_the_configuration (start_of g))
        ∙ ap (λ (s : State). s.config) (sym (end_is empty (started g) (start_of g) (start_path g says.graph.sound few_nodes few_ports)))

    start_made : made_in (started g).config ≡ made_of_graph g
    start_made =
        let many_nodes : length (started g).config.slots ≡ length g.nodes = length-map (enumerate_from 0 g.nodes) (slot_of g.nodes) ∙ length-enumerate_from 0 g.nodes in
        let many_ports : length (started g).config.gates ≡ length (ports g.nodes) = length-map (ports g.nodes) (gate_of g) in
        let nodes : length (started g).config.slots ≡ 0 + length g.nodes = omega (arith, many_nodes) in
        let all_ports : length (started g).config.gates ≡ 0 + length (ports g.nodes) = omega (arith, many_ports) in
        λ i. record { nodes = nodes i; ports = all_ports i }

    pub begun : (ls : List HistoryLine) → ls ≡ start_lines name args g → Onward statements [] (start name args g) [] ls rest g
    begun ls are =
        let front = to.Start name args ∷ lines_of_events (start_of g) in
        let heads : count_by is_head front ≡ 1 = one_head (to.Start name args) (lines_of_events (start_of g)) refl (heads_in_events (start_of g)) in
        let own : count_by is_head ls ≡ 1 = ap (count_by is_head) are ∙ count_by-append is_head front (to.Commit ∷ []) ∙ (λ i. heads i + count_by-none is_head (to.Commit ∷ []) refl i) in
        let there : config_after ls ≡ (started g).config = ap config_after are ∙ config_more front (to.Commit ∷ []) ∙ start_config in
        let graph : IsGraphOf (started g).config g = graph_started g says.graph.sound few_nodes few_ports in
        record {
          graph = g;
          named = refl;
          made = made_of_graph g;
          each = subst (EachAfter (IsLeftAt statements) []) (sym are)
              (last_left statements [] front (commits_in_events (start_of g))
              (record { graph = g; described_so = described_here statements [] rest (start name args g) g front parts refl heads; stands = subst (λ c. IsGraphOf c g) (sym start_config) graph }));
          fits = record {
            heads = pushed_heads [] (start name args g) [] ls 1 refl own refl;
            sound = says.graph;
            stands = λ none. record { graph = subst (λ c. IsGraphOf c g) (sym there) graph; made_is = ap made_in there ∙ start_made };
          };
          below = says.below;
        }

  from_start : (parts : List Part) → statements ≡ map (λ (p : Part). p.statement) parts → AreRightAfter [] parts → AreSound (map (λ (p : Part). p.statement) parts) → IsRun (changes (lines_of parts))
      → EachAfter (IsLeftAt statements) [] (lines_of parts)
  from_start [] are right sound run_so = tt
  from_start (p ∷ ps) are right sound run_so = by p.statement refl right.0 sound
    where
      rest : List Statement
      rest = map (λ (q : Part). q.statement) ps

      then : (s : Statement) → p.statement ≡ s → (old : Graph) → Onward statements [] s [] p.lines (map (λ (q : Part). q.statement) ps) old → EachAfter (IsLeftAt statements) [] (lines_of (p ∷ ps))
      then s is old first =
          each_joined (IsLeftAt statements) [] p.lines (lines_of ps) first.each
          (all_left (s ∷ []) p.lines ps first.graph first.made (are ∙ ap (λ x. x ∷ map (λ (q : Part). q.statement) ps) is) right.1 run_so first.fits first.below)

      by : (s : Statement) → p.statement ≡ s → IsRight [] s p.lines → AreSound (s ∷ map (λ (q : Part). q.statement) ps) → EachAfter (IsLeftAt statements) [] (lines_of (p ∷ ps))
      by (start name args g) is right_so says =
          then (start name args g) is g (begun name args g (map (λ (q : Part). q.statement) ps) (are ∙ ap (λ x. x ∷ map (λ (q : Part). q.statement) ps) is) says p.lines right_so)
      by (change name args g within moves) is right_so says = absurd says
      by (run k) is right_so says = absurd says
      by (finish n) is right_so says = absurd says
      by show is right_so says = absurd says

  right_after : (before parts : List Part) → EachAfter (λ before (p : Part). IsRight (lines_of before) p.statement p.lines) before parts → AreRightAfter (lines_of before) parts
  right_after before [] each = tt
  right_after before (p ∷ ps) each =
      (each.0, subst (λ h. AreRightAfter h ps) (flat_map-append (λ (q : Part). q.lines) before (p ∷ []) ∙ ap (λ xs. lines_of before ++ xs) (append-nil p.lines)) (right_after (before ++ p ∷ []) ps each.1))

  -- each commit of a history
  pub history_left : (history : List HistoryLine) → AreSound statements → Follows statements history → IsRun (changes history) → Each (IsLeftAt statements) history
  history_left history sound f run_so =
      let first = lines_of f.parts in
      let all : changes history ≡ changes first ++ changes f.stop = ap changes (sym f.history_is) ∙ changes_both first f.stop in
      let ports = live_ports (config_after first) in
      let commitless : list_any is_commit f.stop ≡ false =
      ap (list_any is_commit) f.stops.are ∙ none_both is_commit (map to.Close ports) (map drained_line f.stops.seen) (any_of_none is_commit to.Close (λ p. refl) ports) (any_of_none is_commit drained_line (λ d. refl) f.stops.seen) in
      subst (Each (IsLeftAt statements)) f.history_is
      (each_joined (IsLeftAt statements) [] first f.stop
      (from_start f.parts (sym f.statements_are) (right_after [] f.parts f.right) (subst AreSound (sym f.statements_are) sound) (fronts_are_runs (changes first) (changes f.stop) (subst IsRun all run_so)))
      (free statements first f.stop commitless))

  -- lines on what was open are no heads, and no events
  root_headless : (l : HistoryLine) → is_root l ≡ true → is_head l ≡ false
  root_headless (to.Root p k) h = refl
  root_headless _ h = absurd (both_ways false refl h)

  rooted : (l : HistoryLine) (xs : List HistoryLine) → is_root l ≡ true → without_roots (l ∷ xs) ≡ without_roots xs
  rooted l xs e = rw e refl

  kept : (l : HistoryLine) (xs : List HistoryLine) → is_root l ≡ false → without_roots (l ∷ xs) ≡ l ∷ without_roots xs
  kept l xs e = rw e refl

  rootless_heads : (xs : List HistoryLine) → count_by is_head (without_roots xs) ≡ count_by is_head xs
  rootless_heads [] = refl
  rootless_heads (l ∷ xs) = ⊎_elim
      (λ (e : is_root l ≡ true).
      let none : count_by is_head (l ∷ []) ≡ 0 = count_by-none is_head (l ∷ []) (rw (root_headless l e) refl) in
      let same : count_by is_head xs ≡ count_by is_head (l ∷ []) + count_by is_head xs = omega (arith, none) in
      ap (count_by is_head) (rooted l xs e) ∙ rootless_heads xs ∙ same ∙ sym (count_by-append is_head (l ∷ []) xs))
      (λ (e : is_root l ≡ false).
      ap (count_by is_head) (kept l xs e) ∙ count_by-append is_head (l ∷ []) (without_roots xs) ∙ ap (λ n. count_by is_head (l ∷ []) + n) (rootless_heads xs) ∙ sym (count_by-append is_head (l ∷ []) xs))
      (cases_Bool (is_root l))

  left_rootless : (before : List HistoryLine) (l : HistoryLine) → IsLeftAt statements before l → IsLeftAt statements (without_roots before) l
  left_rootless before to.Commit w = record {
    graph = w.graph;
    described_so = ap (λ n. slice_get (filter_map graph_of statements) (n - 1)) (rootless_heads before) ∙ w.described_so;
    stands = subst (λ c. IsGraphOf c w.graph) (ap (change_all empty.config) (sym (events_without_roots before))) w.stands;
  }
  left_rootless before _ w = tt

  rootless : (before xs : List HistoryLine) → EachAfter (IsLeftAt statements) before xs → EachAfter (IsLeftAt statements) (without_roots before) (without_roots xs)
  rootless before [] each = tt
  rootless before (l ∷ xs) each = ⊎_elim
      (λ (e : is_root l ≡ true).
      subst (EachAfter (IsLeftAt statements) (without_roots before)) (sym (rooted l xs e))
      (subst (λ ys. EachAfter (IsLeftAt statements) ys (without_roots xs)) (filter-append (λ x. not (is_root x)) before (l ∷ []) ∙ ap (λ ys. without_roots before ++ ys) (rooted l [] e) ∙ append-nil (without_roots before))
      (rootless (before ++ l ∷ []) xs each.1)))
      (λ (e : is_root l ≡ false).
      subst (EachAfter (IsLeftAt statements) (without_roots before)) (sym (kept l xs e)) (
        left_rootless before l each.0,
        subst (λ ys. EachAfter (IsLeftAt statements) ys (without_roots xs)) (filter-append (λ x. not (is_root x)) before (l ∷ []) ∙ ap (λ ys. without_roots before ++ ys) (kept l [] e))
            (rootless (before ++ l ∷ []) xs each.1),
      ))
      (cases_Bool (is_root l))

  -- and so each commit among the members
  pub described_at : (report : Report) (m : List Member) → AreSound statements → Follows statements report.history → Merge m report → IsRun (events m) → (before after : List Member) → m ≡ before ++ of_history to.Commit ∷ after
      → IsGraphDescribed statements before
  described_at report m sound follows merge run_so before after parts =
      let all : filter is_of_change (events m) ≡ changes report.history = changes_are_lines m merge.by_nodes ∙ ap changes merge.history ∙ events_without_roots report.history in
      let each = rootless [] report.history (history_left report.history sound follows (subst IsRun all (changes_run (events m) run_so))) in
      let there : without_roots report.history ≡ lines before ++ to.Commit ∷ lines after = sym merge.history ∙ ap lines parts ∙ lines_parts before (of_history to.Commit ∷ after) in
      let here = each_at (IsLeftAt statements) (lines before) (lines after) to.Commit (subst (Each (IsLeftAt statements)) there each) in
      let kinds = (all_parts IsOfItsKind before (of_history to.Commit ∷ after) (subst (All IsOfItsKind) parts merge.by_nodes)).0 in
      record { graph = here.graph; described_so = here.described_so; stands = subst (λ c. IsGraphOf c here.graph) (sym (config_of_lines before kinds)) here.stands }
