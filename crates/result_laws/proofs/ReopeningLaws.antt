-- At each reopen of a history, and at its end, the graph of the live nodes and links is one that a description names.
use Rattle.std.proofs.Common.{◌≡◌, ◌∙◌, ℕ, Bool, true, false, List, [], ◌∷◌, ◌++◌, append_assoc, map, Option, Some, None, refl, sym, ap, subst, ⊎_elim}
use Rattle.std.specs.Prelude.{⊤, ℤ, All, filter_map, option_map}
use Rattle.std.specs.List.{cons_option, enumerate_from, list_any}
use Rattle.std.proofs.lemmas.Bool.{both_ways, cases_Bool}
use Rattle.std.proofs.lemmas.List.{append-nil}
use Rattle.std.proofs.lemmas.Grind.{flat_map-append}
use Rattle.std.proofs.lemmas.List.Elements.{All-head, filter_map-append}
use Rattle.base.specs.Each.{Each, EachAfter}
use Rattle.base.proofs.EachLaws.{each_joined}
use Rattle.config_graph.specs.Graph.{Graph, ports, target_of}
use Rattle.config_graph.specs.declared.node.Target.{Target}
use Rattle.change_plan.specs.declared.plan_data.Plan.{Plan}
use Rattle.config_graph.proofs.GraphByLaws.{one_graph}
use Rattle.config_graph.specs.declared.node.Made.{Made}
use Rattle.config_graph.specs.declared.node.Port.{Port}
use Rattle.quiesce_laws.specs.Steps.{change_all, is_shaping, live_ports}
use Rattle.quiesce_laws.specs.Work.{link_new, make_new, work_of}
use Rattle.quiesce_laws.proofs.TurningLaws.{SameLinks, same_graph, same_turned}
use Rattle.change_plan_laws.specs.Commit.{commit_events, commit_steps, new_links, ports_to_close, reopened_ports, work}
use Rattle.quiesce_core.specs.Effect.{effect}
use Rattle.quiesce_core.specs.Legal.{Legal}
use Rattle.quiesce_core.specs.Live.{AreLinked, IsGraphOf, IsLiveNode}
use Rattle.quiesce_core.specs.Runs.{IsRun, state_after}
use Rattle.quiesce_core.specs.State.{Configuration, State}
use Rattle.quiesce_core.specs.declared.event.Event.{Event}
use Rattle.quiesce_core.specs.declared.event.Event.TheVariants as event
use Rattle.quiesce_core.proofs.InductionLaws.{along}
use Rattle.quiesce_core.proofs.RunLaws.{fronts_are_runs}
use Rattle.quiesce_core.proofs.TableLaws.{gate_place}
use Rattle.quiesce_laws.specs.Starts.{link_of, make_of, reopen_of, start_of}
use Rattle.report_types.specs.declared.report.HistoryLine.{HistoryLine}
use Rattle.report_types.specs.declared.report.HistoryLine.TheVariants as to
use Rattle.change_spec.specs.Changes.{IsChange, IsCommitted, IsGivenUp, drained_lines, opening_lines, pending_lines, seen_in_all}
use Rattle.change_spec.specs.Follows.{Follows, IsRight, Part, lines_of, start_lines}
use Rattle.change_spec.specs.Members.{is_pending, line_of, lines_of_events}
use Rattle.change_spec.specs.Scene.{Seen, config_after, drained_line, root_line}
use Rattle.change_spec.specs.Statements.{Statement, start, change, run, finish, show}
use Rattle.change_round_laws.specs.SoundStatements.{AreSound, GoOnSoundly}
use Rattle.change_round_laws.proofs.CommitGraphLaws.{AreRightAfter, CommitsByConfiguration, CommitsLeaveGraphs, EachMayCommit, Fits, Onward, begun, onward}
use Rattle.change_round_laws.proofs.LineLaws.{changes, changes_both, config_of, none_of_events}
use Rattle.result_laws.specs.Describing.{Describes}
use Rattle.base.proofs.ListLaws.{all_parts, none_both, any_of_none}

-- ---- lines that shape nothing leave the graph

turned : (c : Configuration) (s : State) (e : Event) → Legal s e → is_shaping e ≡ false → SameLinks c s.config → SameLinks c (effect s e).config
turned c s (event.Close p) l h same = same_turned c s.config p true (gate_place s p l.live) same
turned c s (event.Reopen p) l h same = same_turned c s.config p false (gate_place s p l.live) same
turned c s (event.Make n node from) l h same = absurd (both_ways true h refl)
turned c s (event.Link p n x) l h same = absurd (both_ways true h refl)
turned c s (event.Unlink p) l h same = absurd (both_ways true h refl)
turned c s (event.Remove n) l h same = absurd (both_ways true h refl)
turned c s _ l h same = same

pub links_stay : (es more_ : List Event) → IsRun (es ++ more_) → list_any is_shaping more_ ≡ false → SameLinks (state_after es).config (state_after (es ++ more_)).config
links_stay es more_ goes h =
    along (λ xs. SameLinks (state_after es).config (state_after xs).config) is_shaping
    (λ before e here free same. subst (λ (s : State). SameLinks (state_after es).config s.config) (sym here.next) (turned (state_after es).config (state_after before) e here.legal free same))
    es more_ goes h (record { slots = refl; long = refl; owners = λ q. refl; requirements = λ q. refl; targets = λ q. refl })

back : (c d : Configuration) → SameLinks c d → SameLinks d c
back c d h = record { slots = sym h.slots; long = sym h.long; owners = λ q. sym (h.owners q); requirements = λ q. sym (h.requirements q); targets = λ q. sym (h.targets q) }

-- the configurations before and behind such lines
same_lines : (h xs : List HistoryLine) → IsRun (changes (h ++ xs)) → list_any is_shaping (changes xs) ≡ false → SameLinks (config_after h) (config_after (h ++ xs))
same_lines h xs goes calm =
    let all = changes_both h xs in
    subst (λ c. SameLinks c (config_after (h ++ xs))) (config_of h)
    (subst (λ c. SameLinks (state_after (changes h)).config c) (ap (λ es. (state_after es).config) (sym all) ∙ config_of (h ++ xs))
    (links_stay (changes h) (changes xs) (subst IsRun all goes) calm))

pub graph_on : (h xs : List HistoryLine) (g : Graph) → IsRun (changes (h ++ xs)) → list_any is_shaping (changes xs) ≡ false → IsGraphOf (config_after h) g → IsGraphOf (config_after (h ++ xs)) g
graph_on h xs g goes calm = same_graph (config_after h) (config_after (h ++ xs)) g (same_lines h xs goes calm)

graph_back : (h xs : List HistoryLine) (g : Graph) → IsRun (changes (h ++ xs)) → list_any is_shaping (changes xs) ≡ false → IsGraphOf (config_after (h ++ xs)) g → IsGraphOf (config_after h) g
graph_back h xs g goes calm = same_graph (config_after (h ++ xs)) (config_after h) g (back (config_after h) (config_after (h ++ xs)) (same_lines h xs goes calm))

pub front_runs : (h xs : List HistoryLine) → IsRun (changes (h ++ xs)) → IsRun (changes h)
front_runs h xs goes = fronts_are_runs (changes h) (changes xs) (subst IsRun (changes_both h xs) goes)

-- ---- at each reopen

pub record Named (P : Graph → Type 0) (before : List HistoryLine) : Type 0 where
  pub graph : Graph
  pub has : P graph
  pub stands : IsGraphOf (config_after before) graph

abbrev pub Opens : (Graph → Type 0) → List HistoryLine → HistoryLine → Type 0
Opens P before (to.Reopen p) = Named P before
Opens P before _ = ⊤

abbrev is_reopening : HistoryLine → Bool
is_reopening (to.Reopen p) = true
is_reopening _ = false

free : (P : Graph → Type 0) (before xs : List HistoryLine) → list_any is_reopening xs ≡ false → EachAfter (Opens P) before xs
free P before [] h = tt
free P before (to.Reopen p ∷ xs) h = absurd (both_ways true h refl)
free P before (l ∷ xs) h = (tt, free P (before ++ l ∷ []) xs h)

reopens_are : (P : Graph → Type 0) (h : List HistoryLine) (opened : List ℕ) (g : Graph) → P g → IsRun (changes (h ++ map to.Reopen opened)) → IsGraphOf (config_after h) g → EachAfter (Opens P) h (map to.Reopen opened)
reopens_are P h [] g has goes stands = tt
reopens_are P h (p ∷ opened) g has goes stands =
    let goes' = subst (λ xs. IsRun (changes xs)) (sym (append_assoc h (to.Reopen p ∷ []) (map to.Reopen opened))) goes in (
      record { graph = g; has = has; stands = stands },
      reopens_are P (h ++ to.Reopen p ∷ []) opened g has goes' (graph_on h (to.Reopen p ∷ []) g (front_runs (h ++ to.Reopen p ∷ []) (map to.Reopen opened) goes') refl stands),
    )

-- lines without a reopen, then reopens, then one line more: the graph stands in the middle
three : (P : Graph → Type 0) (h front : List HistoryLine) (opened : List ℕ) (end_ : List HistoryLine) (g : Graph) → P g → list_any is_reopening front ≡ false → list_any is_reopening end_ ≡ false
    → IsRun (changes (h ++ (front ++ (map to.Reopen opened ++ end_)))) → IsGraphOf (config_after (h ++ front)) g → EachAfter (Opens P) h (front ++ (map to.Reopen opened ++ end_))
three P h front opened end_ g has none_ none_' goes stands =
    let goes' = subst (λ xs. IsRun (changes xs)) (sym (append_assoc h front (map to.Reopen opened ++ end_)) ∙ sym (append_assoc (h ++ front) (map to.Reopen opened) end_)) goes in
    each_joined (Opens P) h front (map to.Reopen opened ++ end_) (free P h front none_)
    (each_joined (Opens P) (h ++ front) (map to.Reopen opened) end_ (reopens_are P (h ++ front) opened g has (front_runs ((h ++ front) ++ map to.Reopen opened) end_ goes') stands)
    (free P ((h ++ front) ++ map to.Reopen opened) end_ none_'))

-- ---- events as lines

event_lines_both : (xs ys : List Event) → lines_of_events (xs ++ ys) ≡ lines_of_events xs ++ lines_of_events ys
event_lines_both xs ys = filter_map-append line_of xs ys

reopened_lines : {A : Type 0} (f : A → Event) (port : A → ℕ) (xs : List A) → ((x : A) → f x ≡ event.Reopen (port x)) → lines_of_events (map f xs) ≡ map to.Reopen (map port xs)
reopened_lines f port [] h = refl
reopened_lines f port (x ∷ xs) h = ap (λ e. cons_option (line_of e) (lines_of_events (map f xs))) (h x) ∙ ap (λ ls. to.Reopen (port x) ∷ ls) (reopened_lines f port xs h)

none_in_map : {A : Type 0} (f : A → Event) (xs : List A) → ((x : A) (ls : List HistoryLine) → list_any is_reopening (cons_option (line_of (f x)) ls) ≡ list_any is_reopening ls) → list_any is_reopening (lines_of_events (map f xs)) ≡ false
none_in_map f [] h = refl
none_in_map f (x ∷ xs) h = h x (lines_of_events (map f xs)) ∙ none_in_map f xs h

link_next : (p : ℕ) (o : Option Target) (es : List Event) → list_any is_reopening (lines_of_events (cons_option (option_map (λ (t : Target). event.Link p t.node t.provide) o) es)) ≡ list_any is_reopening (lines_of_events es)
link_next p None es = refl
link_next p (Some t) es = refl

none_in_links : (g : Graph) (xs : List (ℕ × Port)) → list_any is_reopening (lines_of_events (filter_map (link_of g) xs)) ≡ false
none_in_links g [] = refl
none_in_links g (x ∷ xs) = link_next x.0 (target_of g.links x.1.node x.1.require) (filter_map (link_of g) xs) ∙ none_in_links g xs

none_of_both : (xs ys : List Event) → list_any is_reopening (lines_of_events xs) ≡ false → list_any is_reopening (lines_of_events ys) ≡ false → list_any is_reopening (lines_of_events (xs ++ ys)) ≡ false
none_of_both xs ys h k = ap (list_any is_reopening) (event_lines_both xs ys) ∙ none_both is_reopening (lines_of_events xs) (lines_of_events ys) h k

none_in_steps : (old new : Graph) (plan : Plan) (c : Configuration) → list_any is_reopening (lines_of_events (commit_steps old new plan c)) ≡ false
none_in_steps old new plan c =
    let w = work old new plan c in
    none_of_both (work_of w) (map link_new (new_links new plan (change_all c (work_of w))))
    (none_of_both (map event.Unlink w.unlinks) (map event.Remove w.removes ++ map make_new w.makes) (none_in_map event.Unlink w.unlinks (λ x ls. refl))
    (none_of_both (map event.Remove w.removes) (map make_new w.makes) (none_in_map event.Remove w.removes (λ x ls. refl)) (none_in_map make_new w.makes (λ x ls. refl))))
    (none_in_map link_new (new_links new plan (change_all c (work_of w))) (λ x ls. refl))

-- ---- statement by statement

module _ (each_may : EachMayCommit) (by_config : CommitsByConfiguration) (leaves : CommitsLeaveGraphs) (statements : List Statement) (P : Graph → Type 0) where
  -- a statement's lines, with the graph that is named then
  record Opened (done : List Statement) (s : Statement) (h ls : List HistoryLine) (rest : List Statement) (old : Graph) : Type 0 where
    onward : Onward statements done s h ls rest old
    opens : EachAfter (Opens P) h ls
    has : P onward.graph
    behind : Named P (h ++ ls)

  -- lines that shape nothing leave what stands
  named_on : (h ls : List HistoryLine) → IsRun (changes (h ++ ls)) → list_any is_shaping (changes ls) ≡ false → Named P h → Named P (h ++ ls)
  named_on h ls goes calm n = record { graph = n.graph; has = n.has; stands = graph_on h ls n.graph goes calm n.stands }

  quiet_map : {A : Type 0} (t : HistoryLine → Bool) (f : A → HistoryLine) → ((x : A) → t (f x) ≡ false) → (xs : List A) → list_any t (map f xs) ≡ false
  quiet_map t f h xs = any_of_none t f h xs

  -- nothing is shaped by closes, looks, roots and reopens
  calm_map : {A : Type 0} (f : A → HistoryLine) → ((x : A) (es : List Event) → list_any is_shaping (cons_option (Rattle.change_spec.specs.Members.event_of (f x)) es) ≡ list_any is_shaping es) → (xs : List A) → list_any is_shaping (changes (map f xs)) ≡ false
  calm_map f h [] = refl
  calm_map f h (x ∷ xs) = h x (changes (map f xs)) ∙ calm_map f h xs

  calm_both : (xs ys : List HistoryLine) → list_any is_shaping (changes xs) ≡ false → list_any is_shaping (changes ys) ≡ false → list_any is_shaping (changes (xs ++ ys)) ≡ false
  calm_both xs ys h k = ap (list_any is_shaping) (changes_both xs ys) ∙ none_both is_shaping (changes xs) (changes ys) h k

  opened_start : (name : List ℕ) (args : List ℤ) (g : Graph) (ls : List HistoryLine) → ls ≡ start_lines name args g → IsRun (changes ls) → P g → IsGraphOf (config_after ls) g → EachAfter (Opens P) [] ls
  opened_start name args g ls are goes has stands =
      let makes = map make_of (enumerate_from 0 g.nodes) in
      let links = filter_map (link_of g) (enumerate_from 0 (ports g.nodes)) in
      let numbers = map (λ (x : ℕ × Port). x.0) (enumerate_from 0 (ports g.nodes)) in
      let front = to.Start name args ∷ lines_of_events (makes ++ links) in
      let parts : start_lines name args g ≡ front ++ (map to.Reopen numbers ++ to.Commit ∷ []) =
      ap (λ xs. to.Start name args ∷ xs ++ to.Commit ∷ []) (event_lines_both (makes ++ links) (map reopen_of (enumerate_from 0 (ports g.nodes))))
      ∙ ap (λ xs. to.Start name args ∷ (lines_of_events (makes ++ links) ++ xs) ++ to.Commit ∷ []) (reopened_lines reopen_of (λ (x : ℕ × Port). x.0) (enumerate_from 0 (ports g.nodes)) (λ x. refl))
      ∙ ap (λ xs. to.Start name args ∷ xs) (append_assoc (lines_of_events (makes ++ links)) (map to.Reopen numbers) (to.Commit ∷ [])) in
      let whole = are ∙ parts in
      subst (EachAfter (Opens P) []) (sym whole)
      (three P [] front numbers (to.Commit ∷ []) g has (none_of_both makes links (none_in_map make_of (enumerate_from 0 g.nodes) (λ x ls. refl)) (none_in_links g (enumerate_from 0 (ports g.nodes)))) refl
      (subst (λ xs. IsRun (changes xs)) whole goes)
      (graph_back front (map to.Reopen numbers ++ to.Commit ∷ []) g (subst (λ xs. IsRun (changes xs)) whole goes)
      (calm_both (map to.Reopen numbers) (to.Commit ∷ []) (calm_map to.Reopen (λ x es. refl) numbers) refl)
      (subst (λ xs. IsGraphOf (config_after xs) g) whole stands)))

  opened_commit : (h : List HistoryLine) (name : List ℕ) (args : List ℤ) (old new : Graph) (plan : Plan) (looks : List (List Seen)) (ls : List HistoryLine) (c d : Configuration)
      → ls ≡ opening_lines name args old plan c ++ (drained_lines looks ++ (lines_of_events (commit_events old new plan d) ++ to.Commit ∷ []))
      → IsRun (changes (h ++ ls)) → P new → IsGraphOf (config_after (h ++ ls)) new → EachAfter (Opens P) h ls
  opened_commit h name args old new plan looks ls c d are goes has stands =
      let o = opening_lines name args old plan c in
      let steps = lines_of_events (commit_steps old new plan d) in
      let opened = reopened_ports old new plan d in
      let front = o ++ (drained_lines looks ++ steps) in
      let last_ = map to.Reopen opened ++ to.Commit ∷ [] in
      let ev : lines_of_events (commit_events old new plan d) ≡ steps ++ map to.Reopen opened =
      event_lines_both (commit_steps old new plan d) (map event.Reopen opened) ∙ ap (λ xs. steps ++ xs) (reopened_lines event.Reopen (λ p. p) opened (λ p. refl) ∙ ap (map to.Reopen) (same_map opened)) in
      let whole : ls ≡ front ++ last_ =
      are ∙ ap (λ xs. o ++ (drained_lines looks ++ (xs ++ to.Commit ∷ []))) ev ∙ ap (λ xs. o ++ (drained_lines looks ++ xs)) (append_assoc steps (map to.Reopen opened) (to.Commit ∷ []))
      ∙ ap (λ xs. o ++ xs) (sym (append_assoc (drained_lines looks) steps last_)) ∙ sym (append_assoc o (drained_lines looks ++ steps) last_) in
      let none_ : list_any is_reopening front ≡ false =
      none_both is_reopening o (drained_lines looks ++ steps) (any_of_none is_reopening to.Close (λ p. refl) (ports_to_close old plan c))
      (none_both is_reopening (drained_lines looks) steps (any_of_none is_reopening drained_line (λ x. refl) (seen_in_all looks)) (none_in_steps old new plan d)) in
      let goes' = subst (λ xs. IsRun (changes (h ++ xs))) whole goes in
      subst (EachAfter (Opens P) h) (sym whole)
      (three P h front opened (to.Commit ∷ []) new has none_ refl goes'
      (graph_back (h ++ front) last_ new (subst (λ xs. IsRun (changes xs)) (sym (append_assoc h front last_)) goes')
      (calm_both (map to.Reopen opened) (to.Commit ∷ []) (calm_map to.Reopen (λ x es. refl) opened) refl)
      (subst (λ xs. IsGraphOf (config_after xs) new) (sym (append_assoc h front last_)) (subst (λ xs. IsGraphOf (config_after (h ++ xs)) new) whole stands))))
    where
      same_map : (xs : List ℕ) → map (λ p. p) xs ≡ xs
      same_map [] = refl
      same_map (x ∷ xs) = ap (λ ys. x ∷ ys) (same_map xs)

  opened_given_up : (h : List HistoryLine) (name : List ℕ) (args : List ℤ) (old : Graph) (plan : Plan) (within : ℕ) (looks : List (List Seen)) (left : List Seen) (closed : List ℕ) (ls : List HistoryLine) (c : Configuration)
      → ls ≡ opening_lines name args old plan c ++ (drained_lines looks ++ pending_lines within left closed) → IsRun (changes (h ++ ls)) → P old → IsGraphOf (config_after h) old → EachAfter (Opens P) h ls
  opened_given_up h name args old plan within looks left closed ls c are goes has stands =
      let o = opening_lines name args old plan c in
      let middle = drained_lines looks ++ to.Pending within ∷ map root_line left in
      let front = o ++ middle in
      let last_ = map to.Reopen closed ++ to.Abandon ∷ [] in
      let whole : ls ≡ front ++ last_ = are ∙ ap (λ xs. o ++ (drained_lines looks ++ xs)) (append_assoc (to.Pending within ∷ map root_line left) (map to.Reopen closed) (to.Abandon ∷ [])) ∙ ap (λ xs. o ++ xs) (sym (append_assoc (drained_lines looks) (to.Pending within ∷ map root_line left) last_)) ∙ sym (append_assoc o middle last_) in
      let none_ : list_any is_reopening front ≡ false =
      none_both is_reopening o middle (any_of_none is_reopening to.Close (λ p. refl) (ports_to_close old plan c))
      (none_both is_reopening (drained_lines looks) (to.Pending within ∷ map root_line left) (any_of_none is_reopening drained_line (λ x. refl) (seen_in_all looks)) (any_of_none is_reopening root_line (λ x. refl) left)) in
      let calm : list_any is_shaping (changes front) ≡ false =
      calm_both o middle (calm_map to.Close (λ x es. refl) (ports_to_close old plan c))
      (calm_both (drained_lines looks) (to.Pending within ∷ map root_line left) (calm_map drained_line (λ x es. refl) (seen_in_all looks)) (calm_map root_line (λ x es. refl) left)) in
      let goes' = subst (λ xs. IsRun (changes (h ++ xs))) whole goes in
      subst (EachAfter (Opens P) h) (sym whole)
      (three P h front closed (to.Abandon ∷ []) old has none_ refl goes'
      (graph_on h front old (front_runs (h ++ front) last_ (subst (λ xs. IsRun (changes xs)) (sym (append_assoc h front last_)) goes')) calm stands))

  given_up_calm : (name : List ℕ) (args : List ℤ) (old : Graph) (plan : Plan) (within : ℕ) (looks : List (List Seen)) (left : List Seen) (closed : List ℕ) (c : Configuration)
      → list_any is_shaping (changes (opening_lines name args old plan c ++ (drained_lines looks ++ pending_lines within left closed))) ≡ false
  given_up_calm name args old plan within looks left closed c =
      calm_both (opening_lines name args old plan c) (drained_lines looks ++ pending_lines within left closed) (calm_map to.Close (λ x es. refl) (ports_to_close old plan c))
      (calm_both (drained_lines looks) (pending_lines within left closed) (calm_map drained_line (λ x es. refl) (seen_in_all looks))
      (calm_both (to.Pending within ∷ map root_line left ++ map to.Reopen closed) (to.Abandon ∷ [])
      (calm_both (to.Pending within ∷ map root_line left) (map to.Reopen closed) (calm_map root_line (λ x es. refl) left) (calm_map to.Reopen (λ x es. refl) closed)) refl))

  pendless : (e : Event) (ls : List HistoryLine) → list_any is_pending ls ≡ false → list_any is_pending (cons_option (line_of e) ls) ≡ false
  pendless (event.Make n made from) ls h = h
  pendless (event.Link p n x) ls h = h
  pendless (event.Unlink p) ls h = h
  pendless (event.Remove n) ls h = h
  pendless (event.Close p) ls h = h
  pendless (event.Reopen p) ls h = h
  pendless _ ls h = h

  -- the property of the graph of the statement at hand
  described_has : (done rest : List Statement) (s : Statement) → statements ≡ done ++ s ∷ rest → All (Describes P) statements → Describes P s
  described_has done rest s parts all = All-head (Describes P) s rest (all_parts (Describes P) done (s ∷ rest) (subst (All (Describes P)) parts all)).1

  opened_statement : (done : List Statement) (s : Statement) (h ls : List HistoryLine) (rest : List Statement) (g : Graph) (made : Made) → statements ≡ done ++ s ∷ rest → IsRight h s ls → IsRun (changes (h ++ ls))
      → Fits done h g made → GoOnSoundly (s ∷ rest) g made → P g → All (Describes P) statements → Named P h → Opened done s h ls rest g
  opened_statement done (start name args new) h ls rest g made parts right goes fits says has all named = absurd says
  opened_statement done (change name args new within moves) h ls rest g made parts right goes fits says has all named =
      let first = onward each_may by_config leaves statements done (change name args new within moves) h ls rest g made parts right (front_runs h ls goes) fits says in
      let new_has : P new = described_has done rest (change name args new within moves) parts all in
      let both : EachAfter (Opens P) h ls × Named P (h ++ ls) = ⊎_elim
      (λ (skipped : list_any is_pending h ≡ true). (
        subst (EachAfter (Opens P) h) (sym (right.0 skipped)) (free P h (to.Change name args ∷ to.Skipped ∷ []) refl),
        named_on h ls goes (ap (λ xs. list_any is_shaping (changes xs)) (right.0 skipped)) named,
      ))
      (λ (tried : list_any is_pending h ≡ false). tried_opens first new_has tried (right.1 tried))
      (cases_Bool (list_any is_pending h)) in
      record { onward = first; opens = both.0; has = subst P (sym first.named) new_has; behind = both.1 }
    where
      tried_opens : Onward statements done (change name args new within moves) h ls rest g → P new → list_any is_pending h ≡ false → IsChange h name args new within moves ls → EachAfter (Opens P) h ls × Named P (h ++ ls)
      tried_opens first new_has tried w = ⊎_elim
          (λ (e : IsCommitted w.old new w.plan within (config_after (h ++ opening_lines name args w.old w.plan (config_after h))) w.rest).
          let o = opening_lines name args w.old w.plan (config_after h) in
          let d = config_after (h ++ o) in
          let are = w.are ∙ ap (λ xs. o ++ xs) e.are in
          let ev = commit_events w.old new w.plan d in
          let none_ : list_any is_pending (o ++ (drained_lines e.looks ++ (lines_of_events ev ++ to.Commit ∷ []))) ≡ false =
          none_both is_pending o (drained_lines e.looks ++ (lines_of_events ev ++ to.Commit ∷ [])) (any_of_none is_pending to.Close (λ p. refl) (ports_to_close w.old w.plan (config_after h)))
          (none_both is_pending (drained_lines e.looks) (lines_of_events ev ++ to.Commit ∷ []) (any_of_none is_pending drained_line (λ x. refl) (seen_in_all e.looks))
          (none_both is_pending (lines_of_events ev) (to.Commit ∷ []) (none_of_events is_pending pendless ev) refl)) in
          let whole : list_any is_pending (h ++ ls) ≡ false = none_both is_pending h ls tried (ap (list_any is_pending) are ∙ none_) in
          let stands = subst (IsGraphOf (config_after (h ++ ls))) first.named (first.fits.stands whole).graph in
          (opened_commit h name args w.old new w.plan e.looks ls (config_after h) d are goes new_has stands, record { graph = new; has = new_has; stands = stands }))
          (λ (e : IsGivenUp (ports_to_close w.old w.plan (config_after h)) within w.rest).
          let o = opening_lines name args w.old w.plan (config_after h) in
          let one = one_graph (IsLiveNode (config_after h)) (AreLinked (config_after h)) w.old g w.is_old (fits.stands tried).graph in
          let are = w.are ∙ ap (λ xs. o ++ xs) e.are in
          let closed = ports_to_close w.old w.plan (config_after h) in (
            opened_given_up h name args w.old w.plan within e.looks e.left closed ls (config_after h) are goes (subst P (sym one) has) w.is_old,
            named_on h ls goes (ap (λ xs. list_any is_shaping (changes xs)) are ∙ given_up_calm name args w.old w.plan within e.looks e.left closed (config_after h)) named,
          ))
          w.ends
  opened_statement done (run k) h ls rest g made parts right goes fits says has all named =
      let first = onward each_may by_config leaves statements done (run k) h ls rest g made parts right (front_runs h ls goes) fits says in
      record { onward = first; opens = free P h ls (ap (list_any is_reopening) right.are); has = subst P (sym first.named) has; behind = named_on h ls goes (ap (λ xs. list_any is_shaping (changes xs)) right.are) named }
  opened_statement done (finish n) h ls rest g made parts right goes fits says has all named =
      let first = onward each_may by_config leaves statements done (finish n) h ls rest g made parts right (front_runs h ls goes) fits says in
      record { onward = first; opens = free P h ls (ap (list_any is_reopening) right.are); has = subst P (sym first.named) has; behind = named_on h ls goes (ap (λ xs. list_any is_shaping (changes xs)) right.are) named }
  opened_statement done show h ls rest g made parts right goes fits says has all named =
      let first = onward each_may by_config leaves statements done show h ls rest g made parts right (front_runs h ls goes) fits says in
      record { onward = first; opens = free P h ls (ap (list_any is_reopening) right.are); has = subst P (sym first.named) has; behind = named_on h ls goes (ap (λ xs. list_any is_shaping (changes xs)) right.are) named }

  all_opened : (done : List Statement) (h : List HistoryLine) (parts : List Part) (g : Graph) (made : Made) → statements ≡ done ++ map (λ (p : Part). p.statement) parts → AreRightAfter h parts
      → IsRun (changes (h ++ lines_of parts)) → Fits done h g made → GoOnSoundly (map (λ (p : Part). p.statement) parts) g made → P g → All (Describes P) statements → Named P h
      → EachAfter (Opens P) h (lines_of parts) × Named P (h ++ lines_of parts)
  all_opened done h [] g made parts right goes fits says has all named = (tt, subst (Named P) (sym (append-nil h)) named)
  all_opened done h (p ∷ ps) g made parts right goes fits says has all named =
      let goes' = subst (λ xs. IsRun (changes xs)) (sym (append_assoc h p.lines (lines_of ps))) goes in
      let first = opened_statement done p.statement h p.lines (map (λ (q : Part). q.statement) ps) g made parts right.0 (front_runs (h ++ p.lines) (lines_of ps) goes') fits says has all named in
      let later =
      all_opened (done ++ p.statement ∷ []) (h ++ p.lines) ps first.onward.graph first.onward.made (parts ∙ sym (append_assoc done (p.statement ∷ []) (map (λ (q : Part). q.statement) ps)))
      right.1 goes' first.onward.fits first.onward.below first.has all first.behind in
      (each_joined (Opens P) h p.lines (lines_of ps) first.opens later.0, subst (Named P) (append_assoc h p.lines (lines_of ps)) later.1)

  pub right_after : (before parts : List Part) → EachAfter (λ before (p : Part). IsRight (lines_of before) p.statement p.lines) before parts → AreRightAfter (lines_of before) parts
  right_after before [] each = tt
  right_after before (p ∷ ps) each =
      (each.0, subst (λ h. AreRightAfter h ps) (flat_map-append (λ (q : Part). q.lines) before (p ∷ []) ∙ ap (λ xs. lines_of before ++ xs) (append-nil p.lines)) (right_after (before ++ p ∷ []) ps each.1))

  from_start : (parts : List Part) → statements ≡ map (λ (p : Part). p.statement) parts → AreRightAfter [] parts → AreSound (map (λ (p : Part). p.statement) parts) → IsRun (changes (lines_of parts)) → All (Describes P) statements
      → EachAfter (Opens P) [] (lines_of parts) × Named P (lines_of parts)
  from_start [] are right sound goes all = absurd sound
  from_start (p ∷ ps) are right sound goes all = by p.statement refl right.0 sound (front_runs p.lines (lines_of ps) goes) (all_opened (p.statement ∷ []) p.lines ps)
    where
      rest_type : (s : Statement) → Type 0
      rest_type s = (g : Graph) (made : Made) → statements ≡ (s ∷ []) ++ map (λ (q : Part). q.statement) ps → AreRightAfter p.lines ps → IsRun (changes (p.lines ++ lines_of ps)) → Fits (s ∷ []) p.lines g made
          → GoOnSoundly (map (λ (q : Part). q.statement) ps) g made → P g → All (Describes P) statements → Named P p.lines
          → EachAfter (Opens P) p.lines (lines_of ps) × Named P (p.lines ++ lines_of ps)

      by : (s : Statement) → p.statement ≡ s → IsRight [] s p.lines → AreSound (s ∷ map (λ (q : Part). q.statement) ps) → IsRun (changes p.lines) → rest_type p.statement → EachAfter (Opens P) [] (lines_of (p ∷ ps)) × Named P (lines_of (p ∷ ps))
      by (start name args g) is right_so says goes_so later =
          let all_are = are ∙ ap (λ x. x ∷ map (λ (q : Part). q.statement) ps) is in
          let first = begun each_may by_config leaves statements name args g (map (λ (q : Part). q.statement) ps) all_are says p.lines right_so in
          let has : P g = described_has [] (map (λ (q : Part). q.statement) ps) (start name args g) all_are all in
          let stands = subst (IsGraphOf (config_after p.lines)) first.named (first.fits.stands (ap (list_any is_pending) right_so ∙ none_pending name args g)).graph in
          let more_ = subst rest_type is later first.graph first.made all_are right.1 goes first.fits first.below (subst P (sym first.named) has) all (record { graph = g; has = has; stands = stands }) in
          (each_joined (Opens P) [] p.lines (lines_of ps) (opened_start name args g p.lines right_so goes_so has stands) more_.0, more_.1)
        where
          none_pending : (name : List ℕ) (args : List ℤ) (g : Graph) → list_any is_pending (start_lines name args g) ≡ false
          none_pending name args g = none_both is_pending (to.Start name args ∷ lines_of_events (start_of g)) (to.Commit ∷ []) (none_of_events is_pending pendless (start_of g)) refl
      by (change name args g within moves) is right_so says goes_so later = absurd says
      by (run k) is right_so says goes_so later = absurd says
      by (finish n) is right_so says goes_so later = absurd says
      by show is right_so says goes_so later = absurd says

  -- ---- at each reopen of a history that follows the statements, and at its end

  first_opens : (history : List HistoryLine) → AreSound statements → All (Describes P) statements → (f : Follows statements history) → IsRun (changes history) → EachAfter (Opens P) [] (lines_of f.parts) × Named P (lines_of f.parts)
  first_opens history sound all f goes =
      let first = lines_of f.parts in
      let both : changes history ≡ changes first ++ changes f.stop = ap changes (sym f.history_is) ∙ changes_both first f.stop in
      from_start f.parts (sym f.statements_are) (right_after [] f.parts f.right) (subst AreSound (sym f.statements_are) sound) (fronts_are_runs (changes first) (changes f.stop) (subst IsRun both goes)) all

  pub history_ends : (history : List HistoryLine) → AreSound statements → All (Describes P) statements → Follows statements history → IsRun (changes history) → Named P history
  history_ends history sound all f goes =
      let live = live_ports (config_after (lines_of f.parts)) in
      let calm : list_any is_shaping (changes f.stop) ≡ false =
      ap (λ xs. list_any is_shaping (changes xs)) f.stops.are ∙ calm_both (to.Stop ∷ map to.Close live) (map drained_line f.stops.seen) (calm_map to.Close (λ x es. refl) live) (calm_map drained_line (λ x es. refl) f.stops.seen) in
      subst (Named P) f.history_is (named_on (lines_of f.parts) f.stop (subst (λ xs. IsRun (changes xs)) (sym f.history_is) goes) calm (first_opens history sound all f goes).1)

  pub history_opens : (history : List HistoryLine) → AreSound statements → All (Describes P) statements → Follows statements history → IsRun (changes history) → Each (Opens P) history
  history_opens history sound all f goes =
      let first = lines_of f.parts in
      let live = live_ports (config_after first) in
      let none_ : list_any is_reopening f.stop ≡ false =
      ap (list_any is_reopening) f.stops.are ∙ none_both is_reopening (map to.Close live) (map drained_line f.stops.seen) (any_of_none is_reopening to.Close (λ p. refl) live) (any_of_none is_reopening drained_line (λ d. refl) f.stops.seen) in
      subst (Each (Opens P)) f.history_is
      (each_joined (Opens P) [] first f.stop (first_opens history sound all f goes).0 (free P first f.stop none_))
