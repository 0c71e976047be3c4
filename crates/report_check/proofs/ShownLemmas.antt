-- In a history that follows a sound script, and whose lines are a run, the graph of the live nodes at a show is the described one of
-- the last commit.
use Rattle.std.proofs.Common.{◌≡◌, ◌∙◌, ℕ, ◌+◌, ◌-◌, Bool, true, false, cond, List, [], ◌∷◌, ◌++◌, append_assoc, map, Some, refl, sym, ap, subst, ⊎_elim, inl, inr, arith}
use Rattle.std.specs.Prelude.{◌⊎◌, ℤ, fold, filter_map, option_and_then, slice_get}
use Rattle.std.specs.List.{count_by, list_any}
use Rattle.std.proofs.lemmas.Bool.{both_ways, cases_Bool, or_from, or_parts, or_right}
use Rattle.std.proofs.lemmas.List.{append-nil}
use Rattle.std.proofs.lemmas.Grind.{flat_map-append}
use Rattle.std.proofs.lemmas.List.Elements.{filter_map-append}
use Rattle.std.proofs.lemmas.List.Folds.{list_any-append}
use Rattle.std.proofs.lemmas.List.Sums.{fold-append}
use Rattle.base.specs.Each.{Each, EachAfter}
use Rattle.base.proofs.EachLaws.{each_at}
use Rattle.base.proofs.ListLaws.{count_by-cons}
use Rattle.base.proofs.PlaceLaws.{parted_at}
use Rattle.config_graph.specs.Graph.{Graph}
use Rattle.quiesce_laws.specs.Steps.{is_shaping, live_ports}
use Rattle.quiesce_laws.proofs.EndingLaws.{graph_stays}
use Rattle.quiesce_core.specs.Effect.{change_next}
use Rattle.quiesce_core.specs.Live.{IsGraphOf}
use Rattle.quiesce_core.specs.Runs.{IsRun, state_after}
use Rattle.quiesce_core.specs.State.{Configuration, empty}
use Rattle.quiesce_core.specs.declared.event.Event.{Event}
use Rattle.quiesce_core.specs.declared.event.Event.TheVariants as event
use Rattle.quiesce_core.proofs.RunLaws.{fronts_are_runs}
use Rattle.quiesce_laws.specs.Starts.{start_of}
use Rattle.change_plan.specs.declared.plan_data.Plan.{Plan}
use Rattle.change_plan_laws.specs.Commit.{commit_events, ports_to_close}
use Rattle.report_types.specs.declared.report.HistoryLine.{HistoryLine}
use Rattle.report_types.specs.declared.report.HistoryLine.TheVariants as to
use Rattle.change_spec.specs.Changes.{IsCommitted, IsGivenUp, drained_lines, opening_lines, pending_lines, seen_in_all}
use Rattle.change_spec.specs.Follows.{AreRight, Follows, IsRight, Part, lines_of}
use Rattle.change_spec.specs.Lawful.{described, is_head}
use Rattle.change_spec.specs.Members.{event_of, is_commit, is_pending, lines_of_events}
use Rattle.change_spec.specs.Scene.{config_after, drained_line, root_line}
use Rattle.change_spec.specs.Statements.{Statement, start, change, run, finish, show, graph_of}
use Rattle.change_round_laws.specs.Described.{IsLeftAt}
use Rattle.change_round_laws.specs.SoundStatements.{AreSound}
use Rattle.change_round_laws.proofs.LineLaws.{config_of}
use Rattle.report_check.specs.Showing.{Begun, behind_line, begun_after, graph_at, none_begun, standing_graph}

-- ---- lines that commit nothing and shape nothing; lines that show nothing

abbrev is_loud : HistoryLine → Bool
is_loud to.Commit = true
is_loud (to.Make n node from) = true
is_loud (to.Link p n x) = true
is_loud (to.Unlink p) = true
is_loud (to.Remove n) = true
is_loud _ = false

abbrev is_show : HistoryLine → Bool
is_show (to.Show g) = true
is_show _ = false

mapped_none : {A : Type 0} (test : HistoryLine → Bool) (f : A → HistoryLine) → ((x : A) → test (f x) ≡ false) → (xs : List A) → list_any test (map f xs) ≡ false
mapped_none test f none [] = refl
mapped_none test f none (x ∷ xs) = or_from (test (f x)) (list_any test (map f xs)) (none x) (mapped_none test f none xs)

both_none : (test : HistoryLine → Bool) (xs ys : List HistoryLine) → list_any test xs ≡ false → list_any test ys ≡ false → list_any test (xs ++ ys) ≡ false
both_none test xs ys a b = list_any-append test xs ys ∙ or_from (list_any test xs) (list_any test ys) a b

events_show_none : (es : List Event) → list_any is_show (lines_of_events es) ≡ false
events_show_none [] = refl
events_show_none (event.Make n node from ∷ es) = events_show_none es
events_show_none (event.Link p n x ∷ es) = events_show_none es
events_show_none (event.Unlink p ∷ es) = events_show_none es
events_show_none (event.Remove n ∷ es) = events_show_none es
events_show_none (event.Close p ∷ es) = events_show_none es
events_show_none (event.Reopen p ∷ es) = events_show_none es
events_show_none (_ ∷ es) = events_show_none es

calm_shapes_none : (ls : List HistoryLine) → list_any is_loud ls ≡ false → list_any is_shaping (filter_map event_of ls) ≡ false
calm_shapes_none [] calm = refl
calm_shapes_none (to.Commit ∷ ls) calm = absurd (both_ways true calm refl)
calm_shapes_none (to.Make n node from ∷ ls) calm = absurd (both_ways true calm refl)
calm_shapes_none (to.Link p n x ∷ ls) calm = absurd (both_ways true calm refl)
calm_shapes_none (to.Unlink p ∷ ls) calm = absurd (both_ways true calm refl)
calm_shapes_none (to.Remove n ∷ ls) calm = absurd (both_ways true calm refl)
calm_shapes_none (to.Close p ∷ ls) calm = calm_shapes_none ls calm
calm_shapes_none (to.Reopen p ∷ ls) calm = calm_shapes_none ls calm
calm_shapes_none (_ ∷ ls) calm = calm_shapes_none ls calm

-- ---- which one was committed last

abbrev step : Begun → Bool → Bool → Begun
step s b c = cond b (record s { heads = s.heads + 1 }) (cond c (record s { committed = Some (s.heads - 1) }) s)

heads_one : (s : Begun) (b c : Bool) → (step s b c).heads ≡ s.heads + cond b 1 0
heads_one s true c = refl
heads_one s false true = omega arith
heads_one s false false = omega arith

heads_are : (ls : List HistoryLine) (s : Begun) → (fold behind_line s ls).heads ≡ s.heads + count_by is_head ls
heads_are [] s = omega arith
heads_are (l ∷ ls) s = omega (arith, heads_are ls (behind_line s l), heads_one s (is_head l) (is_commit l), count_by-cons is_head l ls)

calm_commits_none : (l : HistoryLine) → is_loud l ≡ false → is_commit l ≡ false
calm_commits_none to.Commit h = h
calm_commits_none _ h = refl

commits_alike : (s : Begun) (b c : Bool) → c ≡ false → (step s b c).committed ≡ s.committed
commits_alike s true c none = refl
commits_alike s false c none = ap (λ d. (cond d (record s { committed = Some (s.heads - 1) }) s).committed) none

calm_committed : (ls : List HistoryLine) (s : Begun) → list_any is_loud ls ≡ false → (fold behind_line s ls).committed ≡ s.committed
calm_committed [] s calm = refl
calm_committed (l ∷ ls) s calm =
    let w = or_parts (is_loud l) (list_any is_loud ls) calm in
    calm_committed ls (behind_line s l) w.1 ∙ commits_alike s (is_head l) (is_commit l) (calm_commits_none l w.0)

module _ (statements : List Statement) where
  committed_here : (front : List HistoryLine) → standing_graph statements (front ++ to.Commit ∷ []) ≡ described statements front
  committed_here front =
      ap (graph_at (filter_map graph_of statements)) (fold-append behind_line none_begun front (to.Commit ∷ []))
      ∙ ap (λ n. slice_get (filter_map graph_of statements) (n - 1)) (heads_are front none_begun ∙ (let e : 0 + count_by is_head front ≡ count_by is_head front = omega arith in e))

  calm_stands : (before ls : List HistoryLine) → list_any is_loud ls ≡ false → standing_graph statements (before ++ ls) ≡ standing_graph statements before
  calm_stands before ls calm =
      ap (graph_at (filter_map graph_of statements)) (fold-append behind_line none_begun before ls)
      ∙ ap (option_and_then (slice_get (filter_map graph_of statements))) (calm_committed ls (begun_after before) calm)

  -- the graph that stands is that of the live nodes
  pub record IsStanding (before : List HistoryLine) : Type 0 where
    pub graph : Graph
    pub stands : standing_graph statements before ≡ Some graph
    pub is_of : IsGraphOf (config_after before) graph

  pub calm_on : (before ls : List HistoryLine) → IsRun (filter_map event_of (before ++ ls)) → list_any is_loud ls ≡ false → IsStanding before → IsStanding (before ++ ls)
  calm_on before ls runs calm s =
      let both = filter_map-append event_of before ls in
      let now = graph_stays s.graph (filter_map event_of before) (filter_map event_of ls) (subst IsRun both runs) (calm_shapes_none ls calm)
      (subst (λ (c : Configuration). IsGraphOf c s.graph) (sym (config_of before)) s.is_of) in
      record {
        graph = s.graph;
        stands = calm_stands before ls calm ∙ s.stands;
        is_of = subst (λ (c : Configuration). IsGraphOf c s.graph) (ap (λ es. (state_after es).config) (sym both) ∙ config_of (before ++ ls)) now;
      }

  -- ---- what kinds of parts there are

  -- lines that end with a commit, and show nothing
  record EndsCommitted (ls : List HistoryLine) : Type 0 where
    front : List HistoryLine
    are : ls ≡ front ++ to.Commit ∷ []
    shows_none : list_any is_show front ≡ false

  abbrev Shape : List HistoryLine → Type 0
  Shape ls = EndsCommitted ls ⊎ (list_any is_loud ls ≡ false)

  change_shape : (name : List ℕ) (args : List ℤ) (old new : Graph) (plan : Plan) (within : ℕ) (c d : Configuration) (rest : List HistoryLine)
      → IsCommitted old new plan within d rest ⊎ IsGivenUp (ports_to_close old plan c) within rest → Shape (opening_lines name args old plan c ++ rest)
  change_shape name args old new plan within c d rest (inl e) =
      let closes = map to.Close (ports_to_close old plan c) in
      let looks = drained_lines e.looks in
      let built = lines_of_events (commit_events old new plan d) in
      inl (record {
        front = to.Change name args ∷ (closes ++ (looks ++ built));
        are =
            ap (λ ls. to.Change name args ∷ (closes ++ ls)) (e.are ∙ sym (append_assoc looks built (to.Commit ∷ [])))
            ∙ ap (λ ls. to.Change name args ∷ ls) (sym (append_assoc closes (looks ++ built) (to.Commit ∷ [])));
        shows_none =
            both_none is_show closes (looks ++ built) (mapped_none is_show to.Close (λ p. refl) (ports_to_close old plan c))
            (both_none is_show looks built (mapped_none is_show drained_line (λ x. refl) (seen_in_all e.looks)) (events_show_none (commit_events old new plan d)));
      })
  change_shape name args old new plan within c d rest (inr e) =
      let closed = ports_to_close old plan c in
      inr (both_none is_loud (map to.Close closed) rest (mapped_none is_loud to.Close (λ p. refl) closed)
      (ap (list_any is_loud) e.are
      ∙ both_none is_loud (drained_lines e.looks) (pending_lines within e.left closed) (mapped_none is_loud drained_line (λ x. refl) (seen_in_all e.looks))
      (both_none is_loud (map root_line e.left ++ map to.Reopen closed) (to.Abandon ∷ [])
      (both_none is_loud (map root_line e.left) (map to.Reopen closed) (mapped_none is_loud root_line (λ x. refl) e.left) (mapped_none is_loud to.Reopen (λ p. refl) closed)) refl)))

  part_shape : (before : List HistoryLine) (s : Statement) (ls : List HistoryLine) → IsRight before s ls → Shape ls
  part_shape before (start name args g) ls right =
      inl (record { front = to.Start name args ∷ lines_of_events (start_of g); are = right; shows_none = events_show_none (start_of g) })
  part_shape before (change name args g within moves) ls right = ⊎_elim
      (λ (skipped : list_any is_pending before ≡ true). inr (ap (list_any is_loud) (right.0 skipped)))
      (λ (tried : list_any is_pending before ≡ false).
      let w = right.1 tried in
      subst Shape (sym w.are)
      (change_shape name args w.old g w.plan within (config_after before) (config_after (before ++ opening_lines name args w.old w.plan (config_after before))) w.rest w.ends))
      (cases_Bool (list_any is_pending before))
  part_shape before (run k) ls right = inr (ap (list_any is_loud) right.are)
  part_shape before (finish n) ls right = inr (ap (list_any is_loud) right.are)
  part_shape before show ls right = inr (ap (list_any is_loud) right.are)

  -- ---- along a history

  module _ (history : List HistoryLine) (runs : IsRun (filter_map event_of history)) (left : Each (IsLeftAt statements) history) where
    front_runs : (front back : List HistoryLine) → history ≡ front ++ back → IsRun (filter_map event_of front)
    front_runs front back are = fronts_are_runs (filter_map event_of front) (filter_map event_of back) (subst IsRun (ap (filter_map event_of) are ∙ filter_map-append event_of front back) runs)

    committed_stands : (before front back : List HistoryLine) → history ≡ (before ++ front ++ to.Commit ∷ []) ++ back → IsStanding (before ++ front ++ to.Commit ∷ [])
    committed_stands before front back are =
        let all = before ++ front in
        let parted : history ≡ all ++ to.Commit ∷ back = are ∙ append_assoc all (to.Commit ∷ []) back in
        let w = each_at (IsLeftAt statements) all back to.Commit (subst (Each (IsLeftAt statements)) parted left) in
        record {
          graph = w.graph;
          stands = committed_here all ∙ w.described_so;
          is_of = subst (λ es. IsGraphOf (fold change_next empty.config es) w.graph) (sym (filter_map-append event_of all (to.Commit ∷ []) ∙ append-nil (filter_map event_of all))) w.stands;
        }

    -- behind a part the graph stands, and so it does at each show in it
    part_stands : (before ls back : List HistoryLine) → history ≡ (before ++ ls) ++ back → EndsCommitted ls ⊎ ((list_any is_loud ls ≡ false) × IsStanding before) → IsStanding (before ++ ls)
    part_stands before ls back are (inl e) =
        let same : before ++ ls ≡ before ++ e.front ++ to.Commit ∷ [] = ap (λ xs. before ++ xs) e.are ∙ sym (append_assoc before e.front (to.Commit ∷ [])) in
        subst IsStanding (sym same) (committed_stands before e.front back (are ∙ ap (λ xs. xs ++ back) same))
    part_stands before ls back are (inr w) = calm_on before ls (front_runs (before ++ ls) back are) w.0 w.1

    shown_in : (before ls back ys zs : List HistoryLine) (g : Graph) → history ≡ (before ++ ls) ++ back → ls ≡ ys ++ to.Show g ∷ zs → EndsCommitted ls ⊎ ((list_any is_loud ls ≡ false) × IsStanding before)
        → IsStanding (before ++ ys)
    shown_in before ls back ys zs g are here (inl e) = ⊎_elim
        (λ (w : (z : List HistoryLine) × (e.front ≡ ys ++ to.Show g ∷ z)).
        absurd (both_ways true (sym (or_right (list_any is_show ys) (list_any is_show (to.Show g ∷ w.0)) refl) ∙ sym (ap (list_any is_show) w.1 ∙ list_any-append is_show ys (to.Show g ∷ w.0)) ∙ e.shows_none) refl))
        (λ (w : (z : List HistoryLine) × (to.Commit ∷ [] ≡ z ++ to.Show g ∷ zs) × (ys ≡ e.front ++ z)). absurd (no_show w.0 w.1))
        (parted_at ys (to.Show g) zs e.front (to.Commit ∷ []) (sym here ∙ e.are))
      where
        no_show : (z : List HistoryLine) → to.Commit ∷ [] ≡ z ++ to.Show g ∷ zs → ⊥
        no_show z h =
            let one : false ≡ list_any is_show (z ++ to.Show g ∷ zs) = ap (list_any is_show) h in
            both_ways true (sym (one ∙ list_any-append is_show z (to.Show g ∷ zs) ∙ or_right (list_any is_show z) (list_any is_show (to.Show g ∷ zs)) refl)) refl
    shown_in before ls back ys zs g are here (inr w) =
        let parted = ap (λ xs. (before ++ xs) ++ back) here in
        let flat : (before ++ ys ++ to.Show g ∷ zs) ++ back ≡ (before ++ ys) ++ (to.Show g ∷ zs ++ back) = append_assoc (before ++ ys) (to.Show g ∷ zs) back in
        let line : (before ++ (ys ++ to.Show g ∷ zs)) ++ back ≡ (before ++ ys ++ to.Show g ∷ zs) ++ back = ap (λ xs. xs ++ back) (sym (append_assoc before ys (to.Show g ∷ zs))) in
        calm_on before ys (front_runs (before ++ ys) (to.Show g ∷ zs ++ back) (are ∙ parted ∙ line ∙ flat))
        (or_parts (list_any is_loud ys) (list_any is_loud (to.Show g ∷ zs)) (sym (list_any-append is_loud ys (to.Show g ∷ zs)) ∙ sym (ap (list_any is_loud) here) ∙ w.0)).0 w.1

    with_before : (before ls : List HistoryLine) → Shape ls → IsStanding before → EndsCommitted ls ⊎ ((list_any is_loud ls ≡ false) × IsStanding before)
    with_before before ls (inl e) s = inl e
    with_before before ls (inr calm) s = inr (calm, s)

    -- in the parts behind a place where it stands, and in calm lines behind these
    shown_behind : (done ps : List Part) (stop ys zs : List HistoryLine) (g : Graph) → EachAfter (λ before (p : Part). IsRight (lines_of before) p.statement p.lines) done ps → list_any is_loud stop ≡ false
        → history ≡ (lines_of done ++ lines_of ps) ++ stop → IsStanding (lines_of done) → lines_of ps ++ stop ≡ ys ++ to.Show g ∷ zs → IsStanding (lines_of done ++ ys)
    shown_behind done [] stop ys zs g right calm are s here =
        let line : history ≡ (lines_of done ++ stop) ++ [] = are ∙ ap (λ xs. xs ++ stop) (append-nil (lines_of done)) ∙ sym (append-nil (lines_of done ++ stop)) in
        shown_in (lines_of done) stop [] ys zs g line here (inr (calm, s))
    shown_behind done (p ∷ ps) stop ys zs g right calm are s here =
        let before = lines_of done in
        let line : history ≡ (before ++ p.lines) ++ (lines_of ps ++ stop) =
        are ∙ ap (λ xs. xs ++ stop) (sym (append_assoc before p.lines (lines_of ps))) ∙ append_assoc (before ++ p.lines) (lines_of ps) stop in
        let kind = with_before before p.lines (part_shape before p.statement p.lines right.0) s in
        let on = part_stands before p.lines (lines_of ps ++ stop) line kind in
        let more_ : lines_of (done ++ p ∷ []) ≡ before ++ p.lines = flat_map-append (λ (q : Part). q.lines) done (p ∷ []) ∙ ap (λ xs. before ++ xs) (append-nil p.lines) in
        ⊎_elim
        (λ (w : (z : List HistoryLine) × (p.lines ≡ ys ++ to.Show g ∷ z)). shown_in before p.lines (lines_of ps ++ stop) ys w.0 g line w.1 kind)
        (λ (w : (z : List HistoryLine) × (lines_of ps ++ stop ≡ z ++ to.Show g ∷ zs) × (ys ≡ p.lines ++ z)).
        subst IsStanding (ap (λ xs. xs ++ w.0) more_ ∙ append_assoc before p.lines w.0 ∙ ap (λ xs. before ++ xs) (sym w.2))
        (shown_behind (done ++ p ∷ []) ps stop w.0 zs g right.1 calm (line ∙ sym (ap (λ xs. (xs ++ lines_of ps) ++ stop) more_ ∙ append_assoc (before ++ p.lines) (lines_of ps) stop))
        (subst IsStanding (sym more_) on) w.1))
        (parted_at ys (to.Show g) zs p.lines (lines_of ps ++ stop) (sym here ∙ append_assoc p.lines (lines_of ps) stop))

    -- ---- the start, and what stands behind it

    first_ends : (s : Statement) (rest : List Statement) (ls : List HistoryLine) → AreSound (s ∷ rest) → IsRight [] s ls → EndsCommitted ls
    first_ends (start name args g) rest ls sound right =
        record { front = to.Start name args ∷ lines_of_events (start_of g); are = right; shows_none = events_show_none (start_of g) }
    first_ends (change name args g within moves) rest ls sound right = absurd sound
    first_ends (run k) rest ls sound right = absurd sound
    first_ends (finish n) rest ls sound right = absurd sound
    first_ends show rest ls sound right = absurd sound

    parts_shown : (parts : List Part) (stop ys zs : List HistoryLine) (g : Graph) → AreSound (map (λ (p : Part). p.statement) parts) → AreRight parts → list_any is_loud stop ≡ false
        → history ≡ lines_of parts ++ stop → history ≡ ys ++ to.Show g ∷ zs → IsStanding ys
    parts_shown [] stop ys zs g sound right calm are here = absurd sound
    parts_shown (p ∷ ps) stop ys zs g sound right calm are here =
        let ends = first_ends p.statement (map (λ (q : Part). q.statement) ps) p.lines sound right.0 in
        let more_ : lines_of (p ∷ []) ≡ p.lines = append-nil p.lines in
        let line : history ≡ ([] ++ p.lines) ++ (lines_of ps ++ stop) = are ∙ append_assoc p.lines (lines_of ps) stop in
        ⊎_elim
        (λ (w : (z : List HistoryLine) × (p.lines ≡ ys ++ to.Show g ∷ z)). shown_in [] p.lines (lines_of ps ++ stop) ys w.0 g line w.1 (inl ends))
        (λ (w : (z : List HistoryLine) × (lines_of ps ++ stop ≡ z ++ to.Show g ∷ zs) × (ys ≡ p.lines ++ z)).
        subst IsStanding (ap (λ xs. xs ++ w.0) more_ ∙ sym w.2)
        (shown_behind (p ∷ []) ps stop w.0 zs g right.1 calm (are ∙ ap (λ xs. (xs ++ lines_of ps) ++ stop) (sym more_))
        (subst IsStanding (sym more_) (part_stands [] p.lines (lines_of ps ++ stop) line (inl ends))) w.1))
        (parted_at ys (to.Show g) zs p.lines (lines_of ps ++ stop) (sym here ∙ line))

  -- at each show of a history that follows a sound script
  pub standing_at_shows : (history : List HistoryLine) → AreSound statements → Follows statements history → IsRun (filter_map event_of history) → Each (IsLeftAt statements) history
      → (ys zs : List HistoryLine) (g : Graph) → history ≡ ys ++ to.Show g ∷ zs → IsStanding ys
  standing_at_shows history sound f runs left ys zs g here =
      let ports = live_ports (config_after (lines_of f.parts)) in
      let calm : list_any is_loud f.stop ≡ false =
      ap (list_any is_loud) f.stops.are
      ∙ both_none is_loud (map to.Close ports) (map drained_line f.stops.seen) (mapped_none is_loud to.Close (λ p. refl) ports) (mapped_none is_loud drained_line (λ x. refl) f.stops.seen) in
      parts_shown history runs left f.parts f.stop ys zs g (subst AreSound (sym f.statements_are) sound) f.right calm (sym f.history_is) here
