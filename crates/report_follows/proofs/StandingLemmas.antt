-- What stands behind lines that a reader read: the change's events are a run by themselves, so a commit leaves the graph that was named,
-- with the layout that was listed, and a change that was given up leaves both as they were.
use Rattle.std.proofs.Common.{◌≡◌, ◌∙◌, ℕ, ◌+◌, ◌≤◌, Bool, true, false, cond, List, [], ◌∷◌, ◌++◌, append-nil, append_assoc, filter, map, length, Option, Some, refl, sym, ap, subst, arith}
use Rattle.std.specs.Prelude.{◌↔◌, ℤ, sum_by}
use Rattle.std.specs.List.{cons_option, list_all, list_any, range_with_len}
use Rattle.std.proofs.lemmas.Bool.{and_parts, both_ways, or_right}
use Rattle.std.proofs.lemmas.List.{length-append, length-map}
use Rattle.std.proofs.lemmas.List.Folds.{list_any-append}
use Rattle.std.proofs.lemmas.List.FromFn.{length-range_with_len}
use Rattle.config_graph.specs.Graph.{Graph, IsGraph, ports, requires_at}
use Rattle.config_graph.specs.Sound.{Sound}
use Rattle.config_graph.specs.declared.TheConstants.{MAX_NODES, MAX_PORTS}
use Rattle.config_graph.specs.declared.node.Made.{Made}
use Rattle.change_plan.specs.Differences.{IsGone}
use Rattle.change_plan.specs.Moves.{MayMoveAll}
use Rattle.change_plan.specs.Plans.{IsPlanOf}
use Rattle.change_plan.specs.Refusals.{CanPlan}
use Rattle.change_plan.specs.declared.plan_data.Move.{Move}
use Rattle.change_plan.specs.declared.plan_data.Plan.{Plan}
use Rattle.change_plan.proofs.SelectsLaws.{Selects-one}
use Rattle.quiesce_core.specs.Doers.{is_of_change}
use Rattle.quiesce_core.specs.Live.{IsGraphOf}
use Rattle.quiesce_core.specs.Runs.{IsRun, state_after}
use Rattle.quiesce_core.specs.Start.{started}
use Rattle.quiesce_core.specs.State.{Configuration, State}
use Rattle.quiesce_core.specs.declared.event.Event.{Event}
use Rattle.quiesce_core.specs.declared.event.Event.TheVariants as event
use Rattle.quiesce_core.proofs.GraphLaws.{graph_started}
use Rattle.quiesce_laws.specs.Starts.{start_of}
use Rattle.quiesce_laws.specs.Steps.{change_all}
use Rattle.quiesce_laws.proofs.TurningLaws.{SameLinks, same_graph}
use Rattle.change_plan_laws.specs.Commit.{commit_events, ports_to_close, reopened_ports}
use Rattle.change_plan_laws.specs.Committing.{MayCommit, made_in}
use Rattle.report_types.specs.declared.report.HistoryLine.{HistoryLine}
use Rattle.report_types.specs.declared.report.HistoryLine.TheVariants as to
use Rattle.change_spec.specs.Asked.{Above, CanChange, CanStart, after_change, after_start}
use Rattle.change_spec.specs.Changes.{IsChange, opening_lines, pending_lines}
use Rattle.change_spec.specs.Follows.{IsRight, start_lines}
use Rattle.change_spec.specs.Members.{is_pending, line_of, lines_of_events}
use Rattle.change_spec.specs.Scene.{config_after, drained_line, root_line}
use Rattle.change_spec.specs.Statements as statements
use Rattle.change_spec.specs.declared.steps.Replacement.{Replacement}
use Rattle.change_spec.specs.declared.steps.Start.{Start}
use Rattle.change_spec.proofs.PortLaws.{closed_links, closed_live, same_here}
use Rattle.change_round_laws.proofs.AskedLaws.{asked_are_sound}
use Rattle.change_round_laws.proofs.CommitGraphLaws.{CommitsLeaveGraphs, EachMayCommit}
use Rattle.change_round_laws.proofs.LineLaws.{all_changes, changes, changes_both, changes_of_closes, changes_of_lines, changes_of_looks, changes_of_reopens, changes_of_roots, config_more, config_of, none_of_events}
use Rattle.change_lists.specs.Layouts.{IsLayoutOf, place_in, port_of}
use Rattle.change_lists.specs.Lists.{closed_by, commit_by, place_after, places_after, ports_after, ports_from}
use Rattle.change_lists.specs.declared.layout.Layout.{Layout}
use Rattle.change_lists.proofs.LayoutLaws.{started_layout, same_laid}
use Rattle.change_lists.proofs.ListingLaws.{ports_many}
use Rattle.merge_laws.specs.Reading.{IsChangeSo}
use Rattle.report_follows.specs.Readers.{AllCommitted, IsBehind, IsEndedSo}
use Rattle.report_follows.specs.Testing.{is_tellable}
use Rattle.report_follows.proofs.ExpectedLemmas.{commits_are_tellable, starts_are_tellable}
use Rattle.report_follows.proofs.LayingLemmas.{opened_links}
use Rattle.base.proofs.ListLaws.{none_both, any_of_none}

-- ---- what the laws say that are called

abbrev pub StartsAreReached : Type 0
StartsAreReached = (g : Graph) → Sound g → length g.nodes ≤ MAX_NODES → length (ports g.nodes) ≤ MAX_PORTS → IsRun (start_of g) × (state_after (start_of g) ≡ started g)

abbrev pub CommitsRun : Type 0
CommitsRun = (old new : Graph) (moves : List Move) (plan : Plan) (es : List Event) → MayCommit old new moves plan es → IsRun (es ++ commit_events old new plan (state_after es).config)

abbrev pub TellsClosed : Type 0
TellsClosed = (old new : Graph) (moves : List Move) (plan : Plan) (c : Configuration) (l : Layout) → IsGraph old → IsGraph new → IsPlanOf old new moves plan → IsGraphOf c old → IsLayoutOf l c old
    → ports_to_close old plan c ≡ closed_by l.places.items l.ports.items plan.freeze

abbrev pub TellsEvents : Type 0
TellsEvents = (old new : Graph) (moves : List Move) (plan : Plan) (c : Configuration) (l : Layout) → IsGraph old → IsGraph new → IsPlanOf old new moves plan → IsGraphOf c old → IsLayoutOf l c old
    → commit_events old new plan c ≡ commit_by old new plan l.places.items l.ports.items

abbrev pub TellsLayout : Type 0
TellsLayout = (old new : Graph) (moves : List Move) (plan : Plan) (c : Configuration) (l next : Layout) → IsGraph old → IsGraph new → IsPlanOf old new moves plan → IsGraphOf c old → IsLayoutOf l c old
    → next.places.items ≡ places_after old new plan l.places.items → next.ports.items ≡ ports_after new plan l.places.items l.ports.items
    → IsLayoutOf next (change_all c (commit_events old new plan c)) new

abbrev pub IsReadSoIf : Type 0
IsReadSoIf = (before : List HistoryLine) (name : List ℕ) (args : List ℤ) (old new : Graph) (within : ℕ) (moves : List Move) (plan : Plan) → IsGraphOf (config_after before) old → IsPlanOf old new moves plan
    → (lines : List HistoryLine) → IsChange before name args new within moves lines
    → IsChangeSo name args within (ports_to_close old plan (config_after before)) (commit_events old new plan (config_after (before ++ opening_lines name args old plan (config_after before)))) lines

abbrev pub IsChangeIf : Type 0
IsChangeIf = (before : List HistoryLine) (name : List ℕ) (args : List ℤ) (old new : Graph) (within : ℕ) (moves : List Move) (plan : Plan) → IsGraphOf (config_after before) old → IsPlanOf old new moves plan
    → (lines : List HistoryLine) → MayMoveAll old new moves (length moves)
    → IsChangeSo name args within (ports_to_close old plan (config_after before)) (commit_events old new plan (config_after (before ++ opening_lines name args old plan (config_after before)))) lines
    → IsChange before name args new within moves lines

-- ---- events that have a line

change_if : (e : Event) → is_tellable e ≡ true → is_of_change e ≡ true
change_if (event.Make n made from) h = refl
change_if (event.Link p n x) h = refl
change_if (event.Unlink p) h = refl
change_if (event.Remove n) h = refl
change_if (event.Reopen p) h = refl
change_if _ h = absurd (both_ways false refl h)

tellable_kept : (es : List Event) → list_all is_tellable es ≡ true → filter is_of_change es ≡ es
tellable_kept [] h = refl
tellable_kept (e ∷ es) h =
    let w = and_parts (is_tellable e) (list_all is_tellable es) h in
    ap (λ b. cond b (e ∷ filter is_of_change es) (filter is_of_change es)) (change_if e w.0) ∙ ap (λ xs. e ∷ xs) (tellable_kept es w.1)

pends_none : (es : List Event) → list_any is_pending (lines_of_events es) ≡ false
pends_none es = none_of_events is_pending by es
  where
    by : (e : Event) (ls : List HistoryLine) → list_any is_pending ls ≡ false → list_any is_pending (cons_option (line_of e) ls) ≡ false
    by (event.Make n made from) ls h = h
    by _ ls h = h

-- the events of a commit's lines, and of those of a start
commit_changes : (es : List Event) → list_all is_tellable es ≡ true → changes (lines_of_events es ++ to.Commit ∷ []) ≡ es
commit_changes es fit = changes_both (lines_of_events es) (to.Commit ∷ []) ∙ append-nil (changes (lines_of_events es)) ∙ changes_of_lines es ∙ tellable_kept es fit

-- ---- behind the start

module _ (s : Start) (l : Layout) (can : CanStart s) (places_ : l.places.items ≡ map Some (range_with_len 0 (length s.graph.nodes))) (ports_ : l.ports.items ≡ ports s.graph.nodes)
    (reached : StartsAreReached) where
  abbrev begun : List HistoryLine
  begun = start_lines s.name s.args s.graph

  begun_changes : changes begun ≡ start_of s.graph
  begun_changes = commit_changes (start_of s.graph) (starts_are_tellable s.graph)

  few_nodes : length s.graph.nodes ≤ MAX_NODES
  few_nodes = let fit = can.room.nodes_fit in omega (arith, fit)

  few_ports : length (ports s.graph.nodes) ≤ MAX_PORTS
  few_ports = let fit = can.room.ports_fit in omega (arith, fit)

  begun_config : config_after begun ≡ (started s.graph).config
  begun_config =
      sym (config_of begun) ∙ ap (λ es. (state_after es).config) begun_changes ∙ ap (λ (t : State). t.config) (reached s.graph can.sound few_nodes few_ports).1

  laid : IsLayoutOf l (started s.graph).config s.graph
  laid = started_layout l s.graph can.sound.paths_rise places_ ports_

  so_much : made_in (started s.graph).config ≡ (after_start s).made
  so_much =
      let c = (started s.graph).config in
      let nodes : length c.slots ≡ 0 + length s.graph.nodes =
      omega (arith, sym (length-map c.slots (place_in s.graph)) ∙ ap (λ (xs : List (Option ℕ)). length xs) (sym laid.places_are ∙ places_) ∙ length-map (range_with_len 0 (length s.graph.nodes)) Some ∙ length-range_with_len 0 (length s.graph.nodes)) in
      let all_ports : length c.gates ≡ 0 + length (ports s.graph.nodes) =
      omega (arith, sym (length-map c.gates port_of) ∙ ap (λ (xs : List _). length xs) (sym laid.ports_are ∙ ports_)) in
      λ i. record { nodes = nodes i; ports = all_ports i }

  pub behind_start : IsBehind (after_start s) begun s.graph l false
  behind_start = record {
    gave_up = sym (none_both is_pending (lines_of_events (start_of s.graph)) (to.Commit ∷ []) (pends_none (start_of s.graph)) refl);
    committed = λ _. record { named = refl; made = ap made_in begun_config ∙ so_much; runs = subst IsRun (sym begun_changes) (reached s.graph can.sound few_nodes few_ports).0 };
    is_graph = (asked_are_sound s [] can tt).graph.is_graph;
    graph_is = subst (λ c. IsGraphOf c s.graph) (sym begun_config) (graph_started s.graph can.sound few_nodes few_ports);
    layout_is = subst (λ c. IsLayoutOf l c s.graph) (sym begun_config) laid;
    few_ports = subst (λ n. n ≤ MAX_PORTS) (ap (λ (xs : List _). length xs) (sym ports_)) few_ports;
  }

-- ---- behind a change that is tried

module _ (above : Above) (before : List HistoryLine) (g : Graph) (l : Layout) (c : Replacement) (can : CanChange above c) (b : IsBehind above before g l false) where
  goes : AllCommitted above before g
  goes = b.committed refl

  pub plan_from : IsPlanOf g c.graph c.moves c.plan
  plan_from = subst (λ h. IsPlanOf h c.graph c.moves c.plan) (sym goes.named) can.is_plan

  pub can_from : CanPlan g c.graph c.moves (made_in (config_after before))
  can_from = subst (λ h. CanPlan h c.graph c.moves (made_in (config_after before))) (sym goes.named) (subst (λ m. CanPlan above.graph c.graph c.moves m) (sym goes.made) can.can_plan)

  abbrev closed : List ℕ
  closed = ports_to_close g c.plan (config_after before)

  abbrev opening : List HistoryLine
  opening = opening_lines c.name c.args g c.plan (config_after before)

  abbrev pub mid : Configuration
  mid = config_after (before ++ opening)

  abbrev events : List Event
  events = commit_events g c.graph c.plan mid

  same : SameLinks (config_after before) mid
  same =
      subst (SameLinks (config_after before)) (sym (config_more before opening ∙ ap (change_all (config_after before)) (changes_of_closes closed)))
      (closed_links (config_after before) (config_after before) closed (closed_live g c.plan (config_after before)) (same_here (config_after before)))

  graph_mid : IsGraphOf mid g
  graph_mid = same_graph (config_after before) mid g same b.graph_is

  laid_mid : IsLayoutOf l mid g
  laid_mid = same_laid l (config_after before) mid g same b.layout_is

  kept : filter is_of_change events ≡ events
  kept = tellable_kept events (commits_are_tellable g c.graph c.plan mid)

  -- how much is made with what the plan creates
  created : can.can_plan.wanted.created ≡ c.plan.create
  created = Selects-one (IsGone c.graph above.graph) (range_with_len 0 (length c.graph.nodes)) can.can_plan.wanted.created c.plan.create can.can_plan.wanted.gone can.is_plan.steps.create

  nodes_many : length c.plan.create ≡ can.can_plan.nodes
  nodes_many = ap (λ (js : List ℕ). length js) (sym created) ∙ sym can.can_plan.wanted.nodes_are

  ports_more : sum_by (requires_at c.graph.nodes) c.plan.create ≡ can.can_plan.ports
  ports_more = ap (sum_by (requires_at c.graph.nodes)) (sym created) ∙ sym can.can_plan.wanted.ports_are

  pub places_long : length l.places.items + length c.plan.create ≡ above.made.nodes + can.can_plan.nodes
  places_long =
      omega (
        arith,
        nodes_many,
        ap (λ (xs : List (Option ℕ)). length xs) b.layout_is.places_are ∙ length-map (config_after before).slots (place_in g) ∙ ap (λ (m : Made). m.nodes) goes.made,
      )

  pub ports_long : length (ports_after c.graph c.plan l.places.items l.ports.items) ≡ above.made.ports + can.can_plan.ports
  ports_long =
      omega (
        arith,
        length-append l.ports.items (ports_from c.graph (length l.places.items) c.plan.create),
        ports_many c.graph (length l.places.items) c.plan.create ∙ ports_more,
        ap (λ (xs : List _). length xs) b.layout_is.ports_are ∙ length-map (config_after before).gates port_of ∙ ap (λ (m : Made). m.ports) goes.made,
      )

  module _ (tells_closed : TellsClosed) (tells_events : TellsEvents) where
    pub closed_are : ports_to_close g c.plan (config_after before) ≡ closed_by l.places.items l.ports.items c.plan.freeze
    closed_are = tells_closed g c.graph c.moves c.plan (config_after before) l b.is_graph can.is_graph plan_from b.graph_is b.layout_is

    pub events_are : commit_events g c.graph c.plan mid ≡ commit_by g c.graph c.plan l.places.items l.ports.items
    events_are = tells_events g c.graph c.moves c.plan mid l b.is_graph can.is_graph plan_from graph_mid laid_mid

    pub right_so : IsReadSoIf → IsChangeIf → (lines : List HistoryLine) → IsRight before (statements.change c.name c.args c.graph c.within c.moves) lines
        ↔ IsChangeSo c.name c.args c.within (closed_by l.places.items l.ports.items c.plan.freeze) (commit_by g c.graph c.plan l.places.items l.ports.items) lines
    right_so so change lines = (
      λ right.
          subst (λ es. IsChangeSo c.name c.args c.within (closed_by l.places.items l.ports.items c.plan.freeze) es lines) events_are
          (subst (λ ps. IsChangeSo c.name c.args c.within ps events lines) closed_are
          (so before c.name c.args g c.graph c.within c.moves c.plan b.graph_is plan_from lines (right.1 (sym b.gave_up)))),
      λ x. (
        λ pends. absurd (both_ways (list_any is_pending before) (sym b.gave_up) pends),
        λ _.
            change before c.name c.args g c.graph c.within c.moves c.plan b.graph_is plan_from lines can_from.may_move
            (subst (λ ps. IsChangeSo c.name c.args c.within ps events lines) (sym closed_are)
            (subst (λ es. IsChangeSo c.name c.args c.within (closed_by l.places.items l.ports.items c.plan.freeze) es lines) (sym events_are) x)),
      ),
    )

    pub ended_so : (given_up : Bool) (lines : List HistoryLine) → IsEndedSo given_up c.name c.args c.within (closed_by l.places.items l.ports.items c.plan.freeze) (commit_by g c.graph c.plan l.places.items l.ports.items) lines
        → IsEndedSo given_up c.name c.args c.within closed events lines
    ended_so given_up lines x =
        subst (λ ps. IsEndedSo given_up c.name c.args c.within ps events lines) (sym closed_are)
        (subst (λ es. IsEndedSo given_up c.name c.args c.within (closed_by l.places.items l.ports.items c.plan.freeze) es lines) (sym events_are) x)

  parted : (lines rest : List HistoryLine) → lines ≡ opening ++ rest → before ++ lines ≡ (before ++ opening) ++ rest
  parted lines rest are = ap (λ xs. before ++ xs) are ∙ sym (append_assoc before opening rest)

  config_then : (lines rest : List HistoryLine) (es : List Event) → lines ≡ opening ++ rest → changes rest ≡ es → config_after (before ++ lines) ≡ change_all mid es
  config_then lines rest es are is = ap config_after (parted lines rest are) ∙ config_more (before ++ opening) rest ∙ ap (change_all mid) is

  -- committed
  module _ (each_may : EachMayCommit) (runs_on : CommitsRun) (leaves : CommitsLeaveGraphs) (tells_layout : TellsLayout) (next_ : Layout)
      (next_places : next_.places.items ≡ places_after g c.graph c.plan l.places.items) (next_ports : next_.ports.items ≡ ports_after c.graph c.plan l.places.items l.ports.items)
      (lines : List HistoryLine) (x : IsEndedSo false c.name c.args c.within closed events lines) where
    opened : changes before ++ map event.Close (ports_to_close g c.plan (state_after (changes before)).config) ≡ changes (before ++ opening)
    opened =
        ap (λ d. changes before ++ map event.Close (ports_to_close g c.plan d)) (config_of before)
        ∙ ap (λ es. changes before ++ es) (sym (changes_of_closes closed)) ∙ sym (changes_both before opening)

    change_only : list_all is_of_change (changes before) ≡ true
    change_only = all_pass (changes before) (all_changes before)
      where
        kept_pass : (es : List Event) → list_all is_of_change (filter is_of_change es) ≡ true
        kept_pass [] = refl
        kept_pass (e ∷ es) = one (is_of_change e) refl (kept_pass es)
          where
            one : (t : Bool) → is_of_change e ≡ t → list_all is_of_change (filter is_of_change es) ≡ true → list_all is_of_change (cond t (e ∷ filter is_of_change es) (filter is_of_change es)) ≡ true
            one true e rest = rw e rest
            one false e rest = rest

        all_pass : (es : List Event) → filter is_of_change es ≡ es → list_all is_of_change es ≡ true
        all_pass es h = subst (λ xs. list_all is_of_change xs ≡ true) h (kept_pass es)

    may : MayCommit g c.graph c.moves c.plan (changes (before ++ opening))
    may =
        subst (MayCommit g c.graph c.moves c.plan) opened
        (each_may g c.graph c.moves c.plan (changes before) b.is_graph can.is_graph can.sound plan_from goes.runs change_only
        (subst (λ d. IsGraphOf d g) (sym (config_of before)) b.graph_is) (subst (λ m. CanPlan g c.graph c.moves m) (sym (ap made_in (config_of before))) can_from))

    rest_changes : changes x.rest ≡ events
    rest_changes =
        ap changes x.ends.are ∙ changes_both (map drained_line x.ends.seen) (lines_of_events events ++ to.Commit ∷ [])
        ∙ (λ i. changes_of_looks x.ends.seen i ++ commit_changes events (commits_are_tellable g c.graph c.plan mid) i)

    all_are : changes (before ++ lines) ≡ changes (before ++ opening) ++ events
    all_are = ap changes (parted lines x.rest x.are) ∙ changes_both (before ++ opening) x.rest ∙ ap (λ es. changes (before ++ opening) ++ es) rest_changes

    runs_then : IsRun (changes (before ++ lines))
    runs_then =
        subst IsRun (sym all_are)
        (subst (λ d. IsRun (changes (before ++ opening) ++ commit_events g c.graph c.plan d)) (config_of (before ++ opening)) (runs_on g c.graph c.moves c.plan (changes (before ++ opening)) may))

    left : IsGraphOf (state_after (changes (before ++ opening) ++ events)).config c.graph
    left =
        let k = changes (before ++ opening) in
        let d = (state_after k).config in
        let opens = map event.Reopen (reopened_ports g c.graph c.plan d) in
        subst (λ e. IsGraphOf (state_after (k ++ commit_events g c.graph c.plan e)).config c.graph) (config_of (before ++ opening))
        (leaves g c.graph c.moves c.plan k (commit_events g c.graph c.plan d) opens [] may
        (subst (λ e. filter is_of_change (commit_events g c.graph c.plan e) ≡ commit_events g c.graph c.plan e) (sym (config_of (before ++ opening))) kept) (append-nil opens))

    graph_then : IsGraphOf (config_after (before ++ lines)) c.graph
    graph_then =
        subst (λ d. IsGraphOf d c.graph) (config_of (before ++ lines)) (subst (λ es. IsGraphOf (state_after es).config c.graph) (sym all_are) left)

    laid_then : IsLayoutOf next_ (config_after (before ++ lines)) c.graph
    laid_then =
        subst (λ d. IsLayoutOf next_ d c.graph) (sym (config_then lines x.rest events x.are rest_changes))
        (tells_layout g c.graph c.moves c.plan mid l next_ b.is_graph can.is_graph plan_from graph_mid laid_mid next_places next_ports)

    made_then : made_in (config_after (before ++ lines)) ≡ (after_change above c can).made
    made_then =
        let d = config_after (before ++ lines) in
        let moved = map (place_after g c.graph c.plan.remove) l.places.items in
        let nodes : length d.slots ≡ above.made.nodes + can.can_plan.nodes =
        omega (
          arith,
          sym (length-map d.slots (place_in c.graph)) ∙ ap (λ (xs : List (Option ℕ)). length xs) (sym laid_then.places_are ∙ next_places),
          length-append moved (map Some c.plan.create),
          length-map l.places.items (place_after g c.graph c.plan.remove),
          length-map c.plan.create Some,
          places_long,
        ) in
        let all_ports : length d.gates ≡ above.made.ports + can.can_plan.ports =
        omega (arith, sym (length-map d.gates port_of) ∙ ap (λ (xs : List _). length xs) (sym laid_then.ports_are ∙ next_ports), ports_long) in
        λ i. record { nodes = nodes i; ports = all_ports i }

    no_pending : list_any is_pending (before ++ lines) ≡ false
    no_pending =
        none_both is_pending before lines (sym b.gave_up)
        (ap (list_any is_pending) x.are
        ∙ none_both is_pending opening x.rest (any_of_none is_pending to.Close (λ p. refl) closed)
        (ap (list_any is_pending) x.ends.are
        ∙ none_both is_pending (map drained_line x.ends.seen) (lines_of_events events ++ to.Commit ∷ []) (any_of_none is_pending drained_line (λ d. refl) x.ends.seen)
        (none_both is_pending (lines_of_events events) (to.Commit ∷ []) (pends_none events) refl)))

    pub behind_commit : IsBehind (after_change above c can) (before ++ lines) c.graph next_ false
    behind_commit = record {
      gave_up = sym no_pending;
      committed = λ _. record { named = refl; made = made_then; runs = runs_then };
      is_graph = can.is_graph;
      graph_is = graph_then;
      layout_is = laid_then;
      few_ports = let fit = can.can_plan.room.ports_fit in omega (arith, fit, ports_long, ap (λ (xs : List _). length xs) next_ports);
    }

  -- given up
  module _ (lines : List HistoryLine) (x : IsEndedSo true c.name c.args c.within closed events lines) where
    abbrev pends : List HistoryLine
    pends = pending_lines c.within x.ends.left closed

    reopened : changes x.rest ≡ map event.Reopen closed
    reopened =
        ap changes x.ends.are ∙ changes_both (map drained_line x.ends.seen) pends
        ∙ (λ i. changes_of_looks x.ends.seen i
        ++ (changes_both (map root_line x.ends.left ++ map to.Reopen closed) (to.Abandon ∷ []) ∙ append-nil (changes (map root_line x.ends.left ++ map to.Reopen closed))
        ∙ changes_both (map root_line x.ends.left) (map to.Reopen closed) ∙ (λ j. changes_of_roots x.ends.left j ++ changes_of_reopens closed j)) i)

    same_then : SameLinks (config_after before) (config_after (before ++ lines))
    same_then =
        subst (SameLinks (config_after before)) (sym (config_then lines x.rest (map event.Reopen closed) x.are reopened))
        (opened_links (config_after before) mid closed (closed_live g c.plan (config_after before)) same)

    has_pending : list_any is_pending (before ++ lines) ≡ true
    has_pending =
        ap (list_any is_pending) (parted lines x.rest x.are) ∙ list_any-append is_pending (before ++ opening) x.rest
        ∙ or_right (list_any is_pending (before ++ opening)) (list_any is_pending x.rest)
        (ap (list_any is_pending) x.ends.are ∙ list_any-append is_pending (map drained_line x.ends.seen) pends
        ∙ or_right (list_any is_pending (map drained_line x.ends.seen)) (list_any is_pending pends) refl)

    pub behind_abandon : IsBehind (after_change above c can) (before ++ lines) g l true
    behind_abandon = record {
      gave_up = sym has_pending;
      committed = λ e. absurd (cc e);
      is_graph = b.is_graph;
      graph_is = same_graph (config_after before) (config_after (before ++ lines)) g same_then b.graph_is;
      layout_is = same_laid l (config_after before) (config_after (before ++ lines)) g same_then b.layout_is;
      few_ports = b.few_ports;
    }
