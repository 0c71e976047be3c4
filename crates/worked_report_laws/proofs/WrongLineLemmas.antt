-- Wrong lines of starts, runs and stops, each refuted by one clause alone.
use Rattle.std.proofs.Common.{◌≡◌, ◌∙◌, ℕ, ◌<◌, ◌≤◌, Bool, true, false, cond, List, [], ◌∷◌, ◌++◌, append_assoc, length, map, Option, Some, None, refl, sym, ap, subst, ⊎_elim, arith}
use Rattle.std.specs.Prelude.{◌==◌, codes, drop, find, not, is_none, pos, slice_get, take, if◌then◌else◌, All}
use Rattle.std.specs.List.{list_any, range_with_len}
use Rattle.std.specs.Option.{option_map_or}
use Rattle.std.proofs.lemmas.Bool.{both_ways}
use Rattle.std.proofs.lemmas.List.{append-nil}
use Rattle.std.proofs.lemmas.List.Elements.{All-head}
use Rattle.base.specs.Each.{Each}
use Rattle.base.proofs.EachLaws.{each_at}
use Rattle.base.proofs.MapLaws.{list_any-map}
use Rattle.base.proofs.PlaceLaws.{heads_are}
use Rattle.base.proofs.ListLaws.{all_parts}
use Rattle.base.proofs.CountLaws.{counted_some}
use Rattle.config_graph.specs.Graph.{Graph}
use Rattle.config_graph.specs.declared.kind.Kind.TheVariants as kind
use Rattle.config_graph.proofs.GraphByLaws.{one_graph}
use Rattle.component_trait.specs.Moves as moves
use Rattle.component_trait.specs.States.{NodeState}
use Rattle.component_trait.specs.Tables.{opening}
use Rattle.quiesce_core.specs.declared.event.Event.{Event}
use Rattle.quiesce_core.specs.declared.state.Slot.{Slot}
use Rattle.quiesce_core.specs.Effect.{effect}
use Rattle.quiesce_core.specs.Live.{AreLinked, IsGraphOf, IsLiveNode}
use Rattle.quiesce_core.specs.Runs.{done_by, done_from, is_doer, state_after}
use Rattle.quiesce_core.specs.State.{Configuration, State, empty, is_live, slot}
use Rattle.report_types.specs.declared.report.HistoryLine.{HistoryLine}
use Rattle.report_types.specs.declared.report.HistoryLine.TheVariants as to
use Rattle.report_types.specs.declared.report.Report.{Report}
use Rattle.change_spec.specs.Follows.{AreRight, Follows, IsFinishLine, IsRight, IsStop, Part, lines_of, start_lines}
use Rattle.change_spec.specs.Lawful.{CameToRest, IsFewAt, IsFinishAt, IsGraphAt, IsLogIn, IsOfItsKind, Merge, is_done, is_unfinished, unfinished_of}
use Rattle.change_spec.specs.Members.{Member, by_node, of_history, events, lines, state_at}
use Rattle.change_spec.specs.Scene.{Seen, config_after, drained_line}
use Rattle.change_spec.specs.Serial.{Serial}
use Rattle.change_spec.specs.Statements.{Statement, finish, start}
use Rattle.change_spec.proofs.SerialLaws.{one_serial}
use Rattle.change_spec.proofs.MemberLaws.{at_line, config_of_lines, events_parts, lines_of_nodes, lines_parts}
use Rattle.change_spec.proofs.StandingLaws.{graph_by}
use Rattle.worked_report_laws.specs.Alone.{log_0, report, report_of, script, start_lines as lone_starts, stop_lines as lone_stops}
use Rattle.worked_report_laws.specs.Ran as ran
use Rattle.worked_report_laws.specs.Shown as shown
use Rattle.change_plan_laws.specs.Systems.{line, sink_t, source_at}
use Rattle.worked_report_laws.specs.Systems.{lone, one}
use Rattle.worked_report_laws.specs.WrongLines.{never_reopened, outrun, shown_wrongly, starting, two_sinks, unseen}
use Rattle.worked_report_laws.specs.WrongLogs.{hurried}
use Rattle.worked_report_laws.proofs.SerialLemmas.{alone_is_serial}
use Rattle.worked_report_laws.proofs.StatementLemmas.{after_start}
use Rattle.worked_report_laws.proofs.WrongStateLemmas.{folds_so}

-- the lines of a script's first statement begin the history
pub record FirstLines (s : Statement) (history : List HistoryLine) : Type 0 where
  pub lines : List HistoryLine
  pub right : IsRight [] s lines
  pub rest : List HistoryLine
  pub are : lines ++ rest ≡ history

first_of : (s : Statement) (ss : List Statement) (history : List HistoryLine) (parts : List Part) (stop : List HistoryLine) → map (λ (p : Part). p.statement) parts ≡ s ∷ ss → AreRight parts
    → lines_of parts ++ stop ≡ history → FirstLines s history
first_of s ss history [] stop same right is = absurd (cc same)
first_of s ss history (p ∷ parts) stop same right is =
    record {
      lines = p.lines;
      right = subst (λ x. IsRight [] x p.lines) (heads_are p.statement s (map (λ (q : Part). q.statement) parts) ss same) right.0;
      rest = lines_of parts ++ stop;
      are = sym (append_assoc p.lines (lines_of parts) stop) ∙ is;
    }

pub first_lines : (s : Statement) (ss : List Statement) (history : List HistoryLine) → Follows (s ∷ ss) history → FirstLines s history
first_lines s ss history f = first_of s ss history f.parts f.stop f.statements_are f.right f.history_is

abbrev is_commit_third : List HistoryLine → Bool
is_commit_third (x ∷ y ∷ to.Commit ∷ rest) = true
is_commit_third _ = false

pub not_without_reopening : Follows starting never_reopened → ⊥
not_without_reopening f =
    let w = first_lines (start (codes "Lone") (pos 2 ∷ []) lone) [] never_reopened f in
    both_ways true (sym (ap is_commit_third (ap (λ ls. ls ++ w.rest) (sym w.right) ∙ w.are))) refl

-- another graph is shown than there is
pub not_shown_wrongly : (m : List Member) → Merge m shown_wrongly → Each (IsGraphAt shown.script) m → ⊥
not_shown_wrongly m merge graphs =
    let front = to.Start (codes "One") [] ∷ to.Make 0 sink_t None ∷ to.Commit ∷ [] in
    let w = at_line m front (to.Show two_sinks) (to.Stop ∷ []) merge.history in
    let there : IsGraphOf (state_at w.before).config two_sinks = each_at (IsGraphAt shown.script) w.before w.after (of_history (to.Show two_sinks)) (subst (Each (IsGraphAt shown.script)) w.parts graphs) in
    let kinds = (all_parts IsOfItsKind w.before (of_history (to.Show two_sinks) ∷ w.after) (subst (All IsOfItsKind) w.parts merge.by_nodes)).0 in
    let here : (state_at w.before).config ≡ config_after front = config_of_lines w.before kinds ∙ ap config_after w.lines_before in
    let c = config_after front in
    let same : one ≡ two_sinks = one_graph (IsLiveNode c) (AreLinked c) one two_sinks (graph_by c one refl) (subst (λ d. IsGraphOf d two_sinks) here there) in
    both_ways (length two_sinks.nodes == 1) refl (ap (λ (g : Graph). length g.nodes == 1) (sym same))

-- the lone source begins nothing, so it isn't done

abbrev lone_slot : Slot
lone_slot = record { node = source_at (codes "s") 2; first_port = 0; from = None; live = true }

never_done : (es : List Event) → slot (state_after es).config 0 ≡ Some lone_slot → done_by 0 es ≡ [] → is_done es 0 ≡ false
never_done es there did = ap (λ (o : Option NodeState). option_map_or moves.is_done o false) (folds_so es 0 0 lone_slot [] (opening kind.Source 2) there did refl)

-- it isn't finished, and the report doesn't say so
pub not_called_finished : (m : List Member) → Merge m (report_of 5 None 0) → None ≡ unfinished_of script (events m) → ⊥
not_called_finished m merge h =
    let es = events m in
    let c = config_after (report_of 5 None 0).history in
    let config : (state_after es).config ≡ c = config_of_lines m merge.by_nodes ∙ ap config_after merge.history in
    let done : is_done es 0 ≡ false = never_done es (ap (λ (d : Configuration). slot d 0) config) (All-head (IsLogIn m) log_0 [] merge.logs) in
    let few : unfinished_of script es ≡ find (is_unfinished es) (0 ∷ []) = ap (λ (d : Configuration). find (is_unfinished es) (range_with_len 0 (length d.slots))) config in
    let left : is_unfinished es 0 ≡ true =
    ap (λ (d : Configuration). if is_live d 0 then not (is_done es 0) else false) config ∙ ap (λ b. not b) done in
    both_ways (is_none (unfinished_of script es)) (ap is_none few ∙ ap (λ b. is_none {T = ℕ} (cond b (Some 0) None)) left) (ap is_none (sym h))

-- what a node hasn't done by the end it hasn't done before
none_from : (s : State) (n : ℕ) (es more_ : List Event) → done_from s n (es ++ more_) ≡ [] → done_from s n es ≡ []
none_from s n [] more_ h = refl
none_from s n (e ∷ es) more_ h = by (is_doer s n e) h (none_from (effect s e) n es more_)
  where
    by : (b : Bool) → (if b then e ∷ done_from (effect s e) n (es ++ more_) else done_from (effect s e) n (es ++ more_)) ≡ [] → (done_from (effect s e) n (es ++ more_) ≡ [] → done_from (effect s e) n es ≡ [])
        → (if b then e ∷ done_from (effect s e) n es else done_from (effect s e) n es) ≡ []
    by true k rest = absurd (cc k)
    by false k rest = rest k

-- where the node of a slot does nothing, and isn't done so, nothing comes to rest before a line
pub never_rests : (n : ℕ) (x : Slot) → ((es : List Event) → slot (state_after es).config n ≡ Some x → done_by n es ≡ [] → is_done es n ≡ false) → (starts : List HistoryLine) → is_live (config_after starts) n ≡ true
    → slot (config_after starts) n ≡ Some x → (m before after : List Member) (l : HistoryLine) → m ≡ before ++ of_history l ∷ after → All IsOfItsKind m → done_by n (events m) ≡ []
    → lines before ≡ starts → CameToRest before → ⊥
never_rests n x undone starts live stands m before after l parts kinds did are rest =
    let c = config_after starts in
    let kinds_before = (all_parts IsOfItsKind before (of_history l ∷ after) (subst (All IsOfItsKind) parts kinds)).0 in
    let here : (state_at before).config ≡ c = config_of_lines before kinds_before ∙ ap config_after are in
    let held = rest.nodes n (ap (λ (d : Configuration). is_live d n) here ∙ live) in
    let kinds_front = (all_parts IsOfItsKind held.front (map by_node held.later) (subst (All IsOfItsKind) held.parts kinds_before)).0 in
    let lines_front : lines held.front ≡ starts =
    sym (ap (λ ls. lines held.front ++ ls) (lines_of_nodes held.later) ∙ append-nil (lines held.front)) ∙ sym (ap lines held.parts ∙ lines_parts held.front (map by_node held.later)) ∙ are in
    let there : (state_at held.front).config ≡ c = config_of_lines held.front kinds_front ∙ ap config_after lines_front in
    let left = map by_node held.later ++ of_history l ∷ after in
    let whole : events m ≡ events held.front ++ events left =
    ap events (parts ∙ ap (λ k. k ++ of_history l ∷ after) held.parts ∙ append_assoc held.front (map by_node held.later) (of_history l ∷ after)) ∙ events_parts held.front left in
    let none = none_from empty n (events held.front) (events left) (sym (ap (done_by n) whole) ∙ did) in
    both_ways (is_done (events held.front) n) (undone (events held.front) (ap (λ (d : Configuration). slot d n) there ∙ stands) none) held.held

-- the rounds end with the first one

abbrev pub rounds_in : Option HistoryLine → ℕ
rounds_in (Some (to.Finish n r)) = r
rounds_in _ = 0

pub not_early_in_rounds : Serial script (report_of 3 (Some 0) 8) → ⊥
not_early_in_rounds serial =
    let made : 3 ≡ 1 = ap (λ (r : Report). rounds_in (slice_get r.history 4)) (one_serial script (report_of 3 (Some 0) 8) report serial alone_is_serial) in omega (arith, made)

-- it never comes to rest, so all rounds were made, and not three
pub not_given_up_early : (m : List Member) → Merge m (report_of 3 (Some 0) 8) → Each IsFinishAt m → ⊥
not_given_up_early m merge finishes =
    let w = at_line m lone_starts (to.Finish 5 3) lone_stops merge.history in
    let said : IsFinishAt w.before (of_history (to.Finish 5 3)) = each_at IsFinishAt w.before w.after (of_history (to.Finish 5 3)) (subst (Each IsFinishAt) w.parts finishes) in
    ⊎_elim (λ (all : 3 ≡ 5). absurd (omega (arith, all)))
    (λ (early : (3 < 5) × CameToRest w.before).
    never_rests 0 lone_slot never_done lone_starts refl refl m w.before w.after (to.Finish 5 3) w.parts merge.by_nodes (All-head (IsLogIn m) log_0 [] merge.logs) w.lines_before early.1) said

-- more rounds were made than were allowed
pub not_outrun : (m : List Member) → Merge m outrun → Each IsFewAt m → ⊥
not_outrun m merge finishes =
    let w = at_line m (take 10 hurried.history) (to.Finish 9 10) (drop 11 hurried.history) merge.history in
    let few : 10 ≤ 9 = each_at IsFewAt w.before w.after (of_history (to.Finish 9 10)) (subst (Each IsFewAt) w.parts finishes) in
    omega (arith, few)

-- a port was closed by the stop, and not found drained

abbrev is_sighting : ℕ → HistoryLine → Bool
is_sighting p (to.Drained q k) = q == p
is_sighting p _ = false

pub not_unseen : Follows ran.script unseen → ⊥
not_unseen f =
    let starts = start_lines (codes "Line") (pos 3 ∷ pos 10 ∷ []) (line 10) in
    let w = after_start (codes "Line") (pos 3 ∷ pos 10 ∷ []) (line 10) (finish 100) unseen f in
    let told : IsFinishLine 100 w.lines = w.right in
    let before = starts ++ to.Finish 100 told.rounds ∷ [] in
    let stops : IsStop before w.stop = subst (λ ls. IsStop (starts ++ (ls ++ [])) w.stop) told.are w.stops in
    let seen : list_any (λ (d : Seen). d.port == 0) stops.seen ≡ true = counted_some (λ (d : Seen). d.port == 0) stops.seen (omega (arith, stops.all_seen 0)) in
    let all : before ++ w.stop ≡ unseen = sym (ap (λ ls. (starts ++ (ls ++ [])) ++ w.stop) told.are) ∙ w.are in
    let sighted : list_any (is_sighting 0) w.stop ≡ true =
    ap (list_any (is_sighting 0)) stops.are ∙ list_any-map (is_sighting 0) drained_line stops.seen ∙ seen in
    both_ways (list_any (is_sighting 0) unseen) refl (sym (ap (list_any (is_sighting 0)) all) ∙ sighted)
