-- The course of a lawful report of row systems.
use Rattle.std.proofs.Common.{◌≡◌, ◌∙◌, ℕ, Bool, true, false, List, [], ◌∷◌, ◌++◌, map, Option, None, refl, sym, ap, subst}
use Rattle.std.specs.Prelude.{All, filter, fold}
use Rattle.std.specs.List.{list_any}
use Rattle.std.proofs.lemmas.Bool.{both_ways}
use Rattle.std.proofs.lemmas.List.{append-nil}
use Rattle.std.proofs.lemmas.List.Elements.{filter-append}
use Rattle.base.specs.Each.{Each, EachAfter}
use Rattle.base.proofs.EachLaws.{each_at, each_joined}
use Rattle.config_graph.specs.Graph.{Graph}
use Rattle.config_graph.specs.declared.kind.Kind.{Kind}
use Rattle.config_graph.specs.declared.kind.Kind.TheVariants.{Sink, Source}
use Rattle.config_graph.specs.declared.node.Made.{Made}
use Rattle.quiesce_laws.specs.Steps.{is_shaping, live_ports}
use Rattle.quiesce_core.specs.Doers.{is_of_change}
use Rattle.config_graph.specs.declared.node.Node.{Node}
use Rattle.quiesce_core.specs.Runs.{IsRun, state_after}
use Rattle.quiesce_core.specs.declared.event.Event.{Event}
use Rattle.quiesce_core.specs.declared.event.Event.TheVariants as event
use Rattle.quiesce_core.specs.State.{Configuration}
use Rattle.quiesce_core.proofs.InductionLaws.{IsNext, always}
use Rattle.quiesce_core.proofs.RunLaws.{fronts_are_runs}
use Rattle.quiesce_laws.specs.Starts.{start_of}
use Rattle.report_types.specs.declared.report.HistoryLine.{HistoryLine}
use Rattle.report_types.specs.declared.report.HistoryLine.TheVariants as to
use Rattle.report_types.specs.declared.report.Report.{Report}
use Rattle.change_spec.specs.Follows.{Follows, IsRight, Part, lines_of}
use Rattle.change_spec.specs.Lawful.{Merge}
use Rattle.change_spec.specs.Members.{Member, events, lines_of_events}
use Rattle.change_spec.specs.Scene.{config_after, drained_line}
use Rattle.change_spec.specs.Statements.{Statement, start, change, run, finish, show}
use Rattle.change_spec.proofs.MemberLaws.{changes_are_lines, events_without_roots}
use Rattle.change_round_laws.specs.SoundStatements.{AreSound, GoOnSoundly}
use Rattle.change_round_laws.proofs.AloneLaws.{alone, changes_run}
use Rattle.change_round_laws.proofs.CommitGraphLaws.{AreRightAfter, CommitsByConfiguration, CommitsLeaveGraphs, EachMayCommit, Fits, begun}
use Rattle.change_round_laws.proofs.FoldLaws.{StatesAreHanded}
use Rattle.change_round_laws.proofs.LineLaws.{changes, changes_both, changes_of_lines}
use Rattle.result_laws.specs.Describing.{Describes}
use Rattle.result_laws.specs.Keeping.{AreRows, KeepEndsFrom}
use Rattle.result_laws.specs.Rows.{IsRow, rows_serve_rows}
use Rattle.result_laws.specs.Coming.{HasFolds}
use Rattle.result_laws.proofs.Course.{CourseAt, CourseNext, Course, RowAt, course_at, course_next}
use Rattle.result_laws.proofs.Ends.{IsMadeWell, MakesWell, last_next, touch_next, touched, touched_more}
use Rattle.result_laws.proofs.Histories.{all_well, closes_makeless, described_has, looks_makeless, makeless, start_kept, start_well}
use Rattle.result_laws.proofs.Making.{Well, calm_well}
use Rattle.result_laws.proofs.Linking.{AllLinked}
use Rattle.result_laws.proofs.PlacedLaws.{opened_at}
use Rattle.result_laws.proofs.Placing.{PlacedCourse, placed_at}
use Rattle.result_laws.proofs.ReopeningLaws.{front_runs, right_after}

module _ (each_may : EachMayCommit) (by_config : CommitsByConfiguration) (leaves : CommitsLeaveGraphs) (statements : List Statement) where
  from_start : (parts : List Part) → statements ≡ map (λ (p : Part). p.statement) parts → AreRightAfter [] parts → AreSound (map (λ (p : Part). p.statement) parts) → IsRun (changes (lines_of parts)) → All (Describes IsRow) statements
      → KeepEndsFrom (record { nodes = []; links = [] }) (map (λ (p : Part). p.statement) parts) → Each Well (changes (lines_of parts))
  from_start [] are right sound goes all ends = tt
  from_start (p ∷ ps) are right sound goes all ends = by p.statement refl right.0 sound ends (front_runs p.lines (lines_of ps) goes) (all_well each_may by_config leaves statements (p.statement ∷ []) p.lines ps)
    where
      rest_type : (s : Statement) → Type 0
      rest_type s = (g : Graph) (made : Made) → statements ≡ (s ∷ []) ++ map (λ (q : Part). q.statement) ps → AreRightAfter p.lines ps → IsRun (changes (p.lines ++ lines_of ps)) → Fits (s ∷ []) p.lines g made
          → GoOnSoundly (map (λ (q : Part). q.statement) ps) g made → IsRow g → All (Describes IsRow) statements → KeepEndsFrom g (map (λ (q : Part). q.statement) ps) → Each Well (changes p.lines) → EachAfter Well (changes p.lines) (changes (lines_of ps))

      by : (s : Statement) → p.statement ≡ s → IsRight [] s p.lines → AreSound (s ∷ map (λ (q : Part). q.statement) ps) → KeepEndsFrom (record { nodes = []; links = [] }) (s ∷ map (λ (q : Part). q.statement) ps) → IsRun (changes p.lines) → rest_type p.statement
          → Each Well (changes (lines_of (p ∷ ps)))
      by (start name args g) is right_so says ends_so goes_so later =
          let rest = map (λ (q : Part). q.statement) ps in
          let all_are = are ∙ ap (λ x. x ∷ rest) is in
          let first = begun each_may by_config leaves statements name args g rest all_are says p.lines right_so in
          let has : IsRow g = described_has each_may by_config leaves statements [] rest (start name args g) all_are all in
          let lines_are : changes p.lines ≡ start_of g =
          ap changes right_so ∙ changes_both (to.Start name args ∷ lines_of_events (start_of g)) (to.Commit ∷ []) ∙ append-nil (changes (lines_of_events (start_of g))) ∙ changes_of_lines (start_of g) ∙ start_kept g in
          let own : Each Well (changes p.lines) = subst (Each Well) (sym lines_are) (start_well g has) in
          subst (Each Well) (sym (changes_both p.lines (lines_of ps)))
          (each_joined Well [] (changes p.lines) (changes (lines_of ps)) own
          (subst rest_type is later first.graph first.made all_are right.1 goes first.fits first.below (subst IsRow (sym first.named) has) all (subst (λ x. KeepEndsFrom x rest) (sym first.named) ends_so) own))
      by (change name args g within moves) is right_so says ends_so goes_so later = absurd says
      by (run k) is right_so says ends_so goes_so later = absurd says
      by (finish n) is right_so says ends_so goes_so later = absurd says
      by show is right_so says ends_so goes_so later = absurd says

  pub history_well : (history : List HistoryLine) → AreSound statements → AreRows statements → Follows statements history → IsRun (changes history) → Each Well (changes history)
  history_well history sound rows f goes =
      let first = lines_of f.parts in
      let both : changes history ≡ changes first ++ changes f.stop = ap changes (sym f.history_is) ∙ changes_both first f.stop in
      let live = live_ports (config_after first) in
      let calm : list_any is_shaping (changes f.stop) ≡ false =
      ap (λ xs. list_any is_shaping (changes xs)) f.stops.are ∙ makeless (map to.Close live) (map drained_line f.stops.seen) (closes_makeless live) (looks_makeless f.stops.seen) in
      subst (Each Well) (sym both)
      (each_joined Well [] (changes first) (changes f.stop)
      (from_start f.parts (sym f.statements_are) (right_after each_may by_config leaves statements IsRow [] f.parts f.right) (subst AreSound (sym f.statements_are) sound) (fronts_are_runs (changes first) (changes f.stop) (subst IsRun both goes)) rows.rows
      (subst (KeepEndsFrom (record { nodes = []; links = [] })) (sym f.statements_are) rows.ends))
      (calm_well (changes first) (changes f.stop) calm))

-- ---- among all events

kept_fold : {A : Type 0} (f : A → Event → A) → ((a : A) (e : Event) → is_of_change e ≡ false → f a e ≡ a) → (a : A) (es : List Event) → fold f a (filter is_of_change es) ≡ fold f a es
kept_fold f calm a [] = refl
kept_fold f calm a (e ∷ es) = by (is_of_change e) refl (kept_fold f calm (f a e) es) (kept_fold f calm a es)
  where
    by : (b : Bool) → is_of_change e ≡ b → fold f (f a e) (filter is_of_change es) ≡ fold f (f a e) es → fold f a (filter is_of_change es) ≡ fold f a es → fold f a (filter is_of_change (e ∷ es)) ≡ fold f (f a e) es
    by true is one two = rw is one
    by false is one two = rw is (two ∙ ap (λ x. fold f x es) (sym (calm a e is)))

touch_nothing : (c : Configuration) (b : Bool) (e : Event) → is_of_change e ≡ false → touch_next c b e ≡ b
touch_nothing c b (event.Make n node from) h = absurd (both_ways true h refl)
touch_nothing c b (event.Link p n x) h = absurd (both_ways true h refl)
touch_nothing c b (event.Unlink p) h = absurd (both_ways true h refl)
touch_nothing c b (event.Remove n) h = absurd (both_ways true h refl)
touch_nothing c b (event.Close p) h = absurd (both_ways true h refl)
touch_nothing c b (event.Reopen p) h = absurd (both_ways true h refl)
touch_nothing c true _ h = refl
touch_nothing c false _ h = refl

last_nothing : (k : Kind) (o : Option ℕ) (e : Event) → is_of_change e ≡ false → last_next k o e ≡ o
last_nothing k o (event.Make n node from) h = absurd (both_ways true h refl)
last_nothing k o _ h = refl

kept_none : (e : Event) → is_of_change e ≡ false → filter is_of_change (e ∷ []) ≡ []
kept_none e h = rw h refl

kept_make : (xs : List Event) (e : Event) → is_of_change e ≡ true → filter is_of_change (e ∷ xs) ≡ e ∷ filter is_of_change xs
kept_make xs e h = rw h refl

-- events of nodes touch nothing
touched_kept : (es : List Event) → IsRun es → touched (filter is_of_change es) ≡ touched es
touched_kept = always (λ xs. touched (filter is_of_change xs) ≡ touched xs) next refl
  where
    next : (before : List Event) (e : Event) → IsNext before e → touched (filter is_of_change before) ≡ touched before → touched (filter is_of_change (before ++ e ∷ [])) ≡ touched (before ++ e ∷ [])
    next before e here earlier = by (is_of_change e) refl
      where
        by : (b : Bool) → is_of_change e ≡ b → touched (filter is_of_change (before ++ e ∷ [])) ≡ touched (before ++ e ∷ [])
        by true changes_ =
            ap touched (filter-append is_of_change before (e ∷ []) ∙ ap (λ xs. filter is_of_change before ++ xs) (kept_make [] e changes_)) ∙ touched_more (filter is_of_change before) e
            ∙ (λ i. touch_next ((alone before here.run).config i) (earlier i) e) ∙ sym (touched_more before e)
        by false of_node =
            ap touched (filter-append is_of_change before (e ∷ []) ∙ ap (λ xs. filter is_of_change before ++ xs) (kept_none e of_node) ∙ append-nil (filter is_of_change before)) ∙ earlier
            ∙ sym (touch_nothing (state_after before).config (touched before) e of_node) ∙ sym (touched_more before e)

module _ (es : List Event) (goes : IsRun es) (each : Each Well (filter is_of_change es)) where
  pub made_among : (before after : List Event) (n : ℕ) (node : Node) (from : Option ℕ) → es ≡ before ++ event.Make n node from ∷ after → IsMadeWell before node from
  made_among before after n node from parts =
      let e = event.Make n node from in
      let split : filter is_of_change es ≡ filter is_of_change before ++ e ∷ filter is_of_change after = ap (filter is_of_change) parts ∙ filter-append is_of_change before (e ∷ after) ∙ ap (λ xs. filter is_of_change before ++ xs) (kept_make after e refl) in
      let w : IsMadeWell (filter is_of_change before) node from = each_at Well (filter is_of_change before) (filter is_of_change after) e (subst (Each Well) split each) in
      record {
        behind = λ of_row. sym (touched_kept before (fronts_are_runs before (e ∷ after) (subst IsRun parts goes))) ∙ w.behind of_row;
        source = λ kind. w.source kind ∙ kept_fold (last_next Source) (last_nothing Source) None before;
        sink = λ kind. w.sink kind ∙ kept_fold (last_next Sink) (last_nothing Sink) None before;
      }

module _ (handed : StatesAreHanded) (each_may : EachMayCommit) (by_config : CommitsByConfiguration) (leaves : CommitsLeaveGraphs) (statements : List Statement) (report : Report) (m : List Member) (sound : AreSound statements) (rows : AreRows statements)
    (follows : Follows statements report.history) (merge : Merge m report) (goes : IsRun (events m)) (folds : HasFolds (events m)) (linked : (before after : List Event) → events m ≡ before ++ after → AllLinked rows_serve_rows (state_after before).config) where
  pub makes : MakesWell (events m)
  makes =
      let changed : filter is_of_change (events m) ≡ changes report.history = changes_are_lines m merge.by_nodes ∙ ap changes merge.history ∙ events_without_roots report.history in
      record {
        made = made_among (events m) goes (subst (Each Well) (sym changed) (history_well each_may by_config leaves statements report.history sound rows follows (subst IsRun changed (changes_run (events m) goes))));
        linked = linked;
      }

  pub opens : (before after : List Event) (p : ℕ) → events m ≡ before ++ event.Reopen p ∷ after → RowAt before
  opens before after p parts =
      let n = opened_at each_may by_config leaves statements IsRow report m sound rows.rows follows merge goes before after p parts in
      record { graph = n.graph; stands = n.stands; is_row = n.has }

  -- at each place of a lawful report of row systems
  pub courses : (before after : List Event) → events m ≡ before ++ after → CourseAt before
  courses = course_at handed (events m) goes folds opens makes

  pub course_onward : (before after : List Event) (e : Event) → events m ≡ before ++ e ∷ after → (past : List ℕ) → Course before past → CourseNext before e past
  course_onward = course_next handed (events m) goes folds opens makes

  pub placed_courses : (before after : List Event) → events m ≡ before ++ after → PlacedCourse before
  placed_courses = placed_at handed (events m) goes folds opens makes
