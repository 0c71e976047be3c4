-- The report of rounds: its history follows the script, the order in which the rounds make events and lines is the one
-- list that is said to be there, and so it is lawful.
use Rattle.std.proofs.Common.{◌≡◌, ◌∙◌, ℕ, zero, suc, ◌+◌, ◌<◌, ◌≤◌, Bool, true, false, cond, not, ◌&&◌, List, [], ◌∷◌, ◌++◌, append_assoc, map, length, Option, Some, None, refl, sym, ap, subst, arith}
use Rattle.std.specs.Prelude.{◌==◌, ⊤, All, filter, filter_map, find, fold, nat_le, nat_lt, option_map, if◌then◌else◌}
use Rattle.std.specs.List.{cons_option, enumerate_from, list_any, range_with_len}
use Rattle.std.specs.Option.{option_map_or}
use Rattle.std.proofs.lemmas.Bool.{and_parts, eqb-true}
use Rattle.std.proofs.lemmas.Grind.{flat_map-append}
use Rattle.std.proofs.lemmas.List.{append-nil}
use Rattle.std.proofs.lemmas.List.Elements.{All-cons, All-nil, filter-append}
use Rattle.std.proofs.lemmas.List.Sums.{fold_push}
use Rattle.base.specs.Each.{Each, EachAfter}
use Rattle.base.proofs.EachLaws.{each_at, each_weaker, each_if}
use Rattle.base.proofs.MapLaws.{map-map}
use Rattle.base.proofs.PlaceLaws.{slice_get-there}
use Rattle.base.proofs.RisingLaws.{places_more}
use Rattle.component_trait.specs.States.{NodeState}
use Rattle.component_trait.specs.Moves as moves
use Rattle.config_graph.specs.Graph.{Graph, ports, target_of}
use Rattle.config_graph.specs.declared.node.Made.{Made}
use Rattle.config_graph.specs.declared.node.Port.{Port}
use Rattle.config_graph.specs.declared.node.Target.{Target}
use Rattle.quiesce_core.specs.declared.event.Event.{Event}
use Rattle.quiesce_core.specs.declared.event.Event.TheVariants as event
use Rattle.quiesce_core.specs.Doers.{is_of_change}
use Rattle.quiesce_core.specs.Legal.{Legal}
use Rattle.quiesce_core.specs.Runs.{IsRun, Steps, done_by, state_after}
use Rattle.quiesce_core.specs.Start.{started}
use Rattle.quiesce_core.specs.State.{Configuration, State, empty, is_live}
use Rattle.quiesce_core.proofs.InductionLaws.{IsNext, always}
use Rattle.quiesce_core.proofs.RunLaws.{effect_config}
use Rattle.quiesce_core.proofs.StepsLaws.{end_is, run_is_steps}
use Rattle.quiesce_laws.specs.Starts.{link_of, make_of, reopen_of, start_of}
use Rattle.quiesce_laws.proofs.StartLaws.{start_path}
use Rattle.node_turn_laws.specs.Round.{is_done}
use Rattle.node_turn_laws.specs.World.{World, nowhere}
use Rattle.node_turn_laws.specs.Reached.{IsReached}
use Rattle.node_turn_laws.proofs.ReachedLaws.{holds_where_reached}
use Rattle.report_types.specs.declared.report.HistoryLine.{HistoryLine}
use Rattle.report_types.specs.declared.report.HistoryLine.TheVariants as to
use Rattle.report_types.specs.declared.report.Last.TheVariants as last
use Rattle.report_types.specs.declared.report.NodeLog.{NodeLog}
use Rattle.report_types.specs.declared.report.Report.{Report}
use Rattle.change_spec.specs.Endings.{moved_to}
use Rattle.change_spec.specs.Follows.{Follows, IsRight, IsStop, Part, lines_of}
use Rattle.change_spec.specs.Lawful.{EndsAs, IsDrainedAt, IsEndedAt, IsEndedOnce, IsFewAt, IsFolded, IsGraphAt, IsGraphDescribed, IsLawfulBy, IsLogIn, IsOfItsKind, IsQuiescentAt, Merge, NumbersInRounds, is_unfinished, unfinished_of}
use Rattle.change_spec.specs.Lawful as lawful
use Rattle.change_spec.specs.Members.{Member, of_history, event_of, events, made_slot}
use Rattle.change_spec.specs.Opening.{fold_of_node}
use Rattle.change_spec.specs.Serial.{IsPlayed, Played, Plays, Serial, is_left_undone, last_of, lines_played, log_of, report_of, unfinished_in, world_after}
use Rattle.change_spec.specs.Statements.{Statement, start, change, run, finish, show, is_finish}
use Rattle.change_spec.proofs.MemberLaws.{changes_are_lines, events_without_roots}
use Rattle.change_round_laws.specs.Courses.{Course, IsToldAt}
use Rattle.change_round_laws.specs.SoundStatements.{AreSound, GoOnSoundly}
use Rattle.change_round_laws.proofs.AloneLaws.{changes_run}
use Rattle.change_round_laws.proofs.CommitGraphLaws.{AreRightAfter, CommitsByConfiguration, CommitsLeaveGraphs, EachMayCommit, Fits, begun, few_nodes, few_ports, onward}
use Rattle.change_round_laws.proofs.CourseLaws.{course_config, course_machine, course_run}
use Rattle.change_round_laws.proofs.FoldLaws.{StatesAreHanded, states_are_folds}
use Rattle.change_round_laws.proofs.GrowthLemmas.{nodes_by, nodes_next}
use Rattle.change_round_laws.proofs.LineLaws.{changes, config_of}
use Rattle.change_round_laws.proofs.PlayLaws.{CommitsRun, plays_by, starts_by, stops_by}

-- the events of a course's lines are a run by themselves
pub course_changes : (h : List HistoryLine) (w : World) (m : List Member) → Course h w m → IsRun (changes h)
course_changes h w m c =
    let all : filter is_of_change (events m) ≡ changes h = changes_are_lines m c.kinds ∙ ap changes c.lines_are ∙ events_without_roots h in
    subst IsRun all (changes_run (events m) (subst IsRun (sym c.events_are) (course_run h w m c)))

-- the start of a sound graph is the change's alone, and a run

kept_mapped : {A : Type 0} (f : A → Event) → ((x : A) → is_of_change (f x) ≡ true) → (xs : List A) → filter is_of_change (map f xs) ≡ map f xs
kept_mapped f h [] = refl
kept_mapped f h (x ∷ xs) = ap (λ b. cond b (f x ∷ filter is_of_change (map f xs)) (filter is_of_change (map f xs))) (h x) ∙ ap (λ es. f x ∷ es) (kept_mapped f h xs)

kept_link : (p : ℕ) (o : Option Target) (es : List Event)
    → filter is_of_change (cons_option (option_map (λ (t : Target). event.Link p t.node t.provide) o) es) ≡ cons_option (option_map (λ (t : Target). event.Link p t.node t.provide) o) (filter is_of_change es)
kept_link p None es = refl
kept_link p (Some t) es = refl

kept_links : (g : Graph) (ps : List (ℕ × Port)) → filter is_of_change (filter_map (link_of g) ps) ≡ filter_map (link_of g) ps
kept_links g [] = refl
kept_links g (q ∷ ps) =
    let o = target_of g.links q.1.node q.1.require in
    kept_link q.0 o (filter_map (link_of g) ps) ∙ ap (cons_option (option_map (λ (t : Target). event.Link q.0 t.node t.provide) o)) (kept_links g ps)

kept_both : (xs ys : List Event) → filter is_of_change xs ≡ xs → filter is_of_change ys ≡ ys → filter is_of_change (xs ++ ys) ≡ xs ++ ys
kept_both xs ys a b = filter-append is_of_change xs ys ∙ (λ i. a i ++ b i)

pub kept_start : (g : Graph) → filter is_of_change (start_of g) ≡ start_of g
kept_start g =
    let nodes = map make_of (enumerate_from 0 g.nodes) in
    let links = filter_map (link_of g) (enumerate_from 0 (ports g.nodes)) in
    let opens = map reopen_of (enumerate_from 0 (ports g.nodes)) in
    kept_both (nodes ++ links) opens (kept_both nodes links (kept_mapped make_of (λ x. refl) (enumerate_from 0 g.nodes)) (kept_links g (enumerate_from 0 (ports g.nodes))))
    (kept_mapped reopen_of (λ x. refl) (enumerate_from 0 (ports g.nodes)))

-- statements that were played from a world on
abbrev pub PlayedAfter : List HistoryLine → World → List Played → Type 0
PlayedAfter h w [] = ⊤
PlayedAfter h w (p ∷ ps) = Plays h w p.statement p.lines p.world × PlayedAfter (h ++ p.lines) p.world ps

pub played_after : (before ps : List Played) → EachAfter IsPlayed before ps → PlayedAfter (lines_played before) (world_after before) ps
played_after before [] each = tt
played_after before (p ∷ ps) each =
    let here : lines_played (before ++ p ∷ []) ≡ lines_played before ++ p.lines = flat_map-append (λ (q : Played). q.lines) before (p ∷ []) ∙ ap (λ xs. lines_played before ++ xs) (append-nil p.lines) in
    let there : world_after (before ++ p ∷ []) ≡ p.world = fold_push (λ (w : World) (q : Played). q.world) nowhere before p in
    (each.0, subst (λ h. PlayedAfter h p.world ps) here (subst (λ w. PlayedAfter (lines_played (before ++ p ∷ [])) w ps) there (played_after (before ++ p ∷ []) ps each.1)))

abbrev part_of : Played → Part
part_of p = record { statement = p.statement; lines = p.lines }

lines_of_parts : (ps : List Played) → lines_of (map part_of ps) ≡ lines_played ps
lines_of_parts [] = refl
lines_of_parts (p ∷ ps) = ap (λ ls. p.lines ++ ls) (lines_of_parts ps)

statements_of : (ps : List Played) → map (λ (p : Part). p.statement) (map part_of ps) ≡ map (λ (p : Played). p.statement) ps
statements_of [] = refl
statements_of (p ∷ ps) = ap (λ ss. p.statement ∷ ss) (statements_of ps)

right_each : (before ps : List Part) → AreRightAfter (lines_of before) ps → EachAfter (λ before (p : Part). IsRight (lines_of before) p.statement p.lines) before ps
right_each before [] right = tt
right_each before (p ∷ ps) right =
    let here : lines_of before ++ p.lines ≡ lines_of (before ++ p ∷ []) = sym (flat_map-append (λ (q : Part). q.lines) before (p ∷ []) ∙ ap (λ xs. lines_of before ++ xs) (append-nil p.lines)) in
    (right.0, right_each (before ++ p ∷ []) ps (subst (λ h. AreRightAfter h ps) here right.1))

-- all that was played goes by
pub record Gone (h : List HistoryLine) (w : World) (ps : List Played) : Type 0 where
  pub right : AreRightAfter h (map part_of ps)
  pub members : List Member
  pub course : Course (h ++ lines_played ps) (fold (λ (u : World) (p : Played). p.world) w ps) members

module _ (each_may : EachMayCommit) (by_config : CommitsByConfiguration) (leaves : CommitsLeaveGraphs) (commits_run : CommitsRun) (statements : List Statement) where
  all_go : (done : List Statement) (h : List HistoryLine) (w : World) (m : List Member) (ps : List Played) (g : Graph) (made : Made) → statements ≡ done ++ map (λ (p : Played). p.statement) ps → PlayedAfter h w ps → Course h w m
      → Fits done h g made → GoOnSoundly (map (λ (p : Played). p.statement) ps) g made → Gone h w ps
  all_go done h w m [] g made parts played c fits says = record { right = tt; members = m; course = subst (λ x. Course x w m) (sym (append-nil h)) c }
  all_go done h w m (p ∷ ps) g made parts played c fits says =
      let rest = map (λ (q : Played). q.statement) ps in
      let here = plays_by commits_run by_config done p.statement h p.lines rest w p.world m g made c fits says played.0 in
      let next = onward each_may by_config leaves statements done p.statement h p.lines rest g made parts here.right (course_changes h w m c) fits says in
      let later = all_go (done ++ p.statement ∷ []) (h ++ p.lines) p.world here.members ps next.graph next.made (parts ∙ sym (append_assoc done (p.statement ∷ []) rest)) played.1 here.course next.fits next.below in
      record {
        right = (here.right, later.right);
        members = later.members;
        course = subst (λ x. Course x (fold (λ (u : World) (q : Played). q.world) p.world ps) later.members) (append_assoc h p.lines (lines_played ps)) later.course;
      }

  pub from_start : (ps : List Played) → statements ≡ map (λ (p : Played). p.statement) ps → PlayedAfter [] nowhere ps → AreSound (map (λ (p : Played). p.statement) ps) → Gone [] nowhere ps
  from_start [] are played sound = absurd sound
  from_start (p ∷ ps) are played sound = by p.statement refl played.0 sound
    where
      none : Course [] nowhere []
      none = record { reached = IsReached.at_start; events_are = refl; lines_are = refl; kinds = All-nil IsOfItsKind; drained = tt; stood_open = tt; told = tt }

      by : (s : Statement) → p.statement ≡ s → Plays [] nowhere s p.lines p.world → AreSound (s ∷ map (λ (q : Played). q.statement) ps) → Gone [] nowhere (p ∷ ps)
      by (start name args g) is plays says =
          let rest = map (λ (q : Played). q.statement) ps in
          let parts = are ∙ ap (λ s. s ∷ rest) is in
          let nodes_fit = few_nodes each_may by_config leaves statements name args g rest parts says in
          let ports_fit = few_ports each_may by_config leaves statements name args g rest parts says in
          let path = start_path g says.graph.sound nodes_fit ports_fit in
          let run_so : IsRun (start_of g) = (run_is_steps (start_of g)).1 (subst (λ s. Steps empty (start_of g) s) (end_is empty (started g) (start_of g) path) path) in
          let here = starts_by name args g p.lines nowhere p.world run_so (kept_start g) none plays in
          let next = begun each_may by_config leaves statements name args g rest parts says p.lines here.right in
          let later = all_go (start name args g ∷ []) p.lines p.world here.members ps next.graph next.made parts played.1 here.course next.fits next.below in
          record { right = (subst (λ s. IsRight [] s p.lines) (sym is) here.right, later.right); members = later.members; course = later.course }
      by (change name args g within moves) is plays says = absurd says
      by (run k) is plays says = absurd says
      by (finish n) is plays says = absurd says
      by show is plays says = absurd says

  -- the whole of a report of rounds
  pub record Whole (report : Report) (serial : Serial statements report) : Type 0 where
    pub follows : Follows statements (lines_played serial.parts ++ serial.stop)
    pub members : List Member
    pub course : Course (lines_played serial.parts ++ serial.stop) serial.world members

  pub whole : (report : Report) → AreSound statements → (serial : Serial statements report) → Whole report serial
  whole report sound serial =
      let ps = serial.parts in
      let gone = from_start ps (sym serial.statements_are) (played_after [] ps serial.played) (subst AreSound (sym serial.statements_are) sound) in
      let stops = stops_by (lines_played ps) serial.stop (world_after ps) serial.world gone.members gone.course serial.stops in
      record {
        follows = record {
          parts = map part_of ps;
          stop = serial.stop;
          statements_are = statements_of ps ∙ serial.statements_are;
          right = right_each [] (map part_of ps) gone.right;
          stops = subst (λ h. IsStop h serial.stop) (sym (lines_of_parts ps)) stops.right;
          history_is = ap (λ h. h ++ serial.stop) (lines_of_parts ps);
        };
        members = stops.members;
        course = stops.course;
      }

-- which slots were made

abbrev made_by : Event → Option ℕ
made_by (event.Make n node from) = Some n
made_by _ = None

made_line : (l : HistoryLine) (es : List Event) → filter_map made_by (cons_option (event_of l) es) ≡ cons_option (made_slot l) (filter_map made_by es)
made_line (to.Make n node from) es = refl
made_line _ es = refl

pub made_lines : (h : List HistoryLine) → filter_map made_by (changes h) ≡ filter_map made_slot h
made_lines [] = refl
made_lines (l ∷ h) = made_line l (changes h) ∙ ap (cons_option (made_slot l)) (made_lines h)

slots_next : (before : List Event) (e : Event) → IsNext before e → filter_map made_by before ≡ range_with_len 0 (length (state_after before).config.slots)
    → filter_map made_by (before ++ e ∷ []) ≡ range_with_len 0 (length (state_after (before ++ e ∷ [])).config.slots)
slots_next before e here so_far =
    let grown : length (state_after (before ++ e ∷ [])).config.slots ≡ length (state_after before).config.slots + nodes_by e =
    ap (λ (s : State). length s.config.slots) here.next ∙ ap (λ (c : Configuration). length c.slots) (effect_config (state_after before) e) ∙ nodes_next (state_after before).config e in
    Rattle.std.proofs.lemmas.List.Elements.filter_map-append made_by before (e ∷ []) ∙ by e here.legal ∙ ap (range_with_len 0) (sym grown)
  where
    by : (d : Event) → Legal (state_after before) d → filter_map made_by before ++ cons_option (made_by d) [] ≡ range_with_len 0 (length (state_after before).config.slots + nodes_by d)
    by (event.Make n node from) l =
        let k = length (state_after before).config.slots in
        let at : n ≡ k = eqb-true n k (and_parts (n == k) (nat_lt n Rattle.config_graph.specs.declared.TheConstants.MAX_NODES) (and_parts (n == k && nat_lt n Rattle.config_graph.specs.declared.TheConstants.MAX_NODES) (nat_le (length (state_after before).config.gates + length (Rattle.config_graph.specs.Kinds.row node.kind).requires_) Rattle.config_graph.specs.declared.TheConstants.MAX_PORTS) l.room).0).0 in
        (λ i. so_far i ++ at i ∷ []) ∙ sym (places_more k)
    by _ l =
        let same : length (state_after before).config.slots ≡ length (state_after before).config.slots + 0 = omega arith in
        append-nil (filter_map made_by before) ∙ so_far ∙ ap (range_with_len 0) same

pub slots_made : (es : List Event) → IsRun es → filter_map made_by es ≡ range_with_len 0 (length (state_after es).config.slots)
slots_made es run_so = always (λ xs. filter_map made_by xs ≡ range_with_len 0 (length (state_after xs).config.slots)) slots_next refl es run_so

all_in_range : {A : Type 0} (P : A → Type 0) (f : ℕ → A) (a n : ℕ) → ((i : ℕ) → a ≤ i → i < a + n → P (f i)) → All P (map f (range_with_len a n))
all_in_range P f a zero h = All-nil P
all_in_range P f a (suc n) h =
    All-cons P (f a) (map f (range_with_len (a + 1) n)) (h a (omega arith) (omega arith)) (all_in_range P f (a + 1) n (λ i low high. h i (omega (arith, low)) (omega (arith, high))))

-- what a log ends with
ends_so : (s : NodeState) (o : Option ℕ) → EndsAs (Some s) o (option_map_or last.Moved o (last.State (moves.numbers s)))
ends_so s None = refl
ends_so s (Some j) = refl

both_or_none : (a b : Bool) → (a && b) ≡ cond a b false
both_or_none true b = refl
both_or_none false b = refl

abbrev QuietInRuns : Type 0
QuietInRuns = (m : List Member) → IsRun (events m) → Each IsQuiescentAt m

abbrev EndsOnceInReports : Type 0
EndsOnceInReports = (statements : List Statement) (report : Report) (m : List Member) → Follows statements report.history → Merge m report → IsRun (events m) → Each IsDrainedAt m → (p k : ℕ) → IsEndedOnce (events m) p k

abbrev CommitsDescribed : List Statement → Type 0
CommitsDescribed statements = (report : Report) (m : List Member) → AreSound statements → Follows statements report.history → Merge m report → IsRun (events m) → (before after : List Member)
    → m ≡ before ++ of_history to.Commit ∷ after → IsGraphDescribed statements before

module _ (quiet : QuietInRuns) (once : EndsOnceInReports) (handed : StatesAreHanded) (statements : List Statement) (described : CommitsDescribed statements) (sound : AreSound statements) (h : List HistoryLine) (w : World) (m : List Member)
    (follows : Follows statements h) (c : Course h w m) where
  slots_are : length w.machine.config.slots ≡ length (state_after (changes h)).config.slots
  slots_are = ap (λ (d : Configuration). length d.slots) (course_config h w m c ∙ sym (config_of h))

  runs : IsRun (events m)
  runs = subst IsRun (sym c.events_are) (course_run h w m c)

  pub merged : Merge m (report_of statements h w)
  merged = record {
    one_log_a_node = map-map (λ (l : NodeLog). l.slot) (log_of h w) (range_with_len 0 (length w.machine.config.slots)) ∙ same_list (range_with_len 0 (length w.machine.config.slots))
        ∙ ap (range_with_len 0) slots_are ∙ sym (slots_made (changes h) (course_changes h w m c)) ∙ made_lines h;
    logs = all_in_range (IsLogIn m) (log_of h w) 0 (length w.machine.config.slots) (λ i low high. ap (done_by i) c.events_are);
    by_nodes = c.kinds;
    history = c.lines_are;
  }
    where
      same_list : (xs : List ℕ) → map (λ n. n) xs ≡ xs
      same_list [] = refl
      same_list (x ∷ xs) = ap (λ ys. x ∷ ys) (same_list xs)

  folded : (n : ℕ) → n < length w.machine.config.slots → IsFolded m h (log_of h w n)
  folded n low =
      let holds = holds_where_reached w c.reached in
      let at = slice_get-there (state_after w.events).config.slots n (subst (λ (s : State). n < length s.config.slots) holds.0 low) in
      let node = holds.1.nodes n at.0 at.1 in
      let told : fold_of_node (events m) n ≡ Some node.state = ap (λ es. fold_of_node es n) c.events_are ∙ sym (states_are_folds handed w c.reached n) ∙ node.is in
      subst (λ o. EndsAs o (moved_to h n) (last_of h w n)) (sym told)
      (subst (λ o. EndsAs (Some node.state) (moved_to h n) (option_map_or last.Moved (moved_to h n) (last.State (option_map_or moves.numbers o [])))) (sym node.is) (ends_so node.state (moved_to h n)))

  left_undone : (n : ℕ) → is_left_undone w n ≡ is_unfinished (events m) n
  left_undone n =
      let holds = holds_where_reached w c.reached in
      let done_so : is_done w n ≡ lawful.is_done (events m) n =
      ap (λ o. option_map_or moves.is_done o false) (states_are_folds handed w c.reached n) ∙ ap (λ es. option_map_or moves.is_done (fold_of_node es n) false) (sym c.events_are) in
      let live_so : is_live w.machine.config n ≡ is_live (state_after (events m)).config n = ap (λ (s : State). is_live s.config n) (course_machine h w m c) in
      (λ i. live_so i && not (done_so i)) ∙ both_or_none (is_live (state_after (events m)).config n) (not (lawful.is_done (events m) n))

  unfinished_so : unfinished_in statements w ≡ unfinished_of statements (events m)
  unfinished_so =
      let tests : ◌≡◌ {A = ℕ → Bool} (is_left_undone w) (is_unfinished (events m)) = λ i. λ n. left_undone n i in
      let many : length w.machine.config.slots ≡ length (state_after (events m)).config.slots = ap (λ (s : State). length s.config.slots) (course_machine h w m c) in
      λ i. if list_any is_finish statements then find (tests i) (range_with_len 0 (many i)) else None

  graphs_at : (before after : List Member) (x : Member) → m ≡ before ++ x ∷ after → IsGraphAt statements before x
  graphs_at before after (of_history to.Commit) parts = described (report_of statements h w) m sound follows merged runs before after parts
  graphs_at before after (of_history (to.Show g)) parts = each_at IsToldAt before after (of_history (to.Show g)) (subst (Each IsToldAt) parts c.told)
  graphs_at before after _ parts = tt

  pub lawful_by : IsLawfulBy statements (report_of statements h w) m
  lawful_by = record {
    merge = merged;
    runs = runs;
    quiescent = quiet m runs;
    ended_once = once statements (report_of statements h w) m follows merged runs c.drained;
    folds = all_in_range (IsFolded m h) (log_of h w) 0 (length w.machine.config.slots) (λ i low high. folded i (omega (arith, high)));
    drained = c.drained;
    stood_open = c.stood_open;
    graphs = each_if (IsGraphAt statements) [] m (λ ys zs x parts. graphs_at ys zs x parts);
    unfinished = unfinished_so;
    status = refl;
  }

  pub numbers : NumbersInRounds m
  numbers = record { ended = each_weaker IsToldAt IsEndedAt [] m ended_if_told c.told; few = each_weaker IsToldAt IsFewAt [] m few_if_told c.told }
    where
      ended_if_told : (before : List Member) (x : Member) → IsToldAt before x → IsEndedAt before x
      ended_if_told before (of_history (to.Run k n)) h = h
      ended_if_told before _ h = tt

      few_if_told : (before : List Member) (x : Member) → IsToldAt before x → IsFewAt before x
      few_if_told before (of_history (to.Finish n r)) h = h
      few_if_told before _ h = tt
