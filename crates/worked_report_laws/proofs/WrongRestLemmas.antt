-- A wrong rest: a buffer was empty before the line before, and has an item at each place since.
use Rattle.std.proofs.Common.{◌≡◌, ◌∙◌, ℕ, ◌<◌, ◌≤◌, Bool, true, false, List, [], ◌∷◌, ◌++◌, append_assoc, drop, length, take, Option, Some, None, refl, sym, ap, subst, ⊎_elim, arith, Contains}
use Rattle.std.specs.Prelude.{◌||◌, All, codes, filter_map, map, if◌then◌else◌}
use Rattle.std.specs.List.{count_by, list_any}
use Rattle.std.specs.Option.{option_map_or}
use Rattle.std.proofs.lemmas.Bool.{both_ways, or_right}
use Rattle.std.proofs.lemmas.List.{append-nil, length-append}
use Rattle.std.proofs.lemmas.List.Folds.{list_any-append}
use Rattle.base.specs.Each.{Each}
use Rattle.base.proofs.ContainsLaws.{Contains-here, Contains-there}
use Rattle.base.proofs.EachLaws.{each_at}
use Rattle.base.proofs.MapLaws.{count_by-append}
use Rattle.base.proofs.PlaceLaws.{heads_are, tails_are, parted_at}
use Rattle.component_trait.specs.Moves as moves
use Rattle.component_trait.specs.States.{NodeState}
use Rattle.component_trait.specs.Tables.{opening}
use Rattle.config_graph.specs.declared.kind.Kind.TheVariants as kind
use Rattle.quiesce_core.specs.declared.event.Event.{Event}
use Rattle.quiesce_core.specs.declared.event.Event.TheVariants as event
use Rattle.quiesce_core.specs.declared.state.Slot.{Slot}
use Rattle.quiesce_core.specs.Effect.{effect}
use Rattle.quiesce_core.specs.Runs.{IsRun, done_by, done_from, is_end_of, state_after}
use Rattle.quiesce_core.specs.State.{Configuration, empty, is_live, slot}
use Rattle.quiesce_core.proofs.RunLaws.{fronts_are_runs, done_parts}
use Rattle.quiesce_laws.specs.Events.{is_take_of, ends_transaction}
use Rattle.quiesce_laws.proofs.OrderLaws.{in_order}
use Rattle.report_types.specs.declared.report.HistoryLine.{HistoryLine}
use Rattle.report_types.specs.declared.report.HistoryLine.TheVariants as to
use Rattle.change_spec.specs.Lawful.{CameToRest, EndedSince, IsFinishAt, IsOfItsKind, IsRunAt, Merge, is_done}
use Rattle.change_spec.specs.Members.{Member, by_node, of_history, event_of, events, lines, state_at}
use Rattle.change_spec.specs.Opening.{fold_at}
use Rattle.change_spec.specs.Scene.{config_after}
use Rattle.change_spec.proofs.MemberLaws.{AtLine, at_line, config_of_lines, events_parts, lines_of_nodes, lines_parts}
use Rattle.base.proofs.ListLaws.{count_by-some, all_parts}
use Rattle.worked_report_laws.specs.Filled.{log_0, log_1}
use Rattle.worked_report_laws.specs.Systems.{buffer_at}
use Rattle.worked_report_laws.specs.WrongRuns.{rested_before}
use Rattle.worked_report_laws.proofs.PlaceLemmas.{DoneAt, done_at, passes_there}
use Rattle.worked_report_laws.proofs.WrongLogLemmas.{AreFew, ends_by_sources, few_behind, some_log}
use Rattle.worked_report_laws.proofs.WrongRunLemmas.{behind_line, ends_in}
use Rattle.worked_report_laws.proofs.WrongStateLemmas.{folds_so}

-- an event of a log that is the only one of its sort stands in the part of all events in which there is one
pub placed : (test : Event → Bool) (n : ℕ) (es rest log : List Event) (e : Event) → done_by n (es ++ rest) ≡ log → Contains log e → test e ≡ true → count_by test (es ++ rest) ≤ 1 → 1 ≤ count_by test es → DoneAt n [] es e
placed test n es rest log e did there passes few some_ =
    let w = done_at n (es ++ rest) log e did there in
    ⊎_elim
    (λ (in_front : (z : List Event) × (es ≡ w.before ++ e ∷ z)). record { before = w.before; after = in_front.0; parts = in_front.1; does = w.does })
    (λ (behind : (z : List Event) × (rest ≡ z ++ e ∷ w.after) × (w.before ≡ es ++ z)).
    let own : 1 ≤ count_by test (behind.0 ++ e ∷ w.after) =
    count_by-some test (behind.0 ++ e ∷ w.after) (list_any-append test behind.0 (e ∷ w.after) ∙ or_right (list_any test behind.0) (list_any test (e ∷ w.after)) (ap (λ b. b || list_any test w.after) passes)) in
    let all = count_by-append test es rest in
    let more_ : count_by test rest ≡ count_by test (behind.0 ++ e ∷ w.after) = ap (count_by test) behind.1 in
    absurd (omega (arith, few, some_, own, all, more_)))
    (parted_at w.before e w.after es rest (sym w.parts))

-- so the buffer has taken its item at each place behind one at which a transaction has ended
took_before : (es rest : List Event) → IsRun (es ++ rest) → done_by 0 (es ++ rest) ≡ log_0.events → done_by 1 (es ++ rest) ≡ log_1.events → AreFew (es ++ rest) → 1 ≤ count_by ends_transaction es
    → DoneAt 0 [] es (event.Take 1 1 1)
took_before es rest run did_0 did_1 few some_ =
    let none : count_by ends_transaction (done_by 0 (es ++ rest)) ≡ 0 = ap (count_by ends_transaction) did_0 in
    let one : count_by ends_transaction (done_by 1 (es ++ rest)) ≡ 1 = ap (count_by ends_transaction) did_1 in
    let ended = placed ends_transaction 1 es rest log_1.events (event.End 1 1 1) did_1 (Contains-there (event.Begin 1 1 1) (event.End 1 1 1) (event.End 1 1 1 ∷ []) (Contains-here (event.End 1 1 1) [])) refl
    (omega (arith, few, none, one)) some_ in
    let so : list_any (is_end_of 1 1) es ≡ true =
    ap (list_any (is_end_of 1 1)) ended.parts ∙ list_any-append (is_end_of 1 1) ended.before (event.End 1 1 1 ∷ ended.after) ∙ or_right (list_any (is_end_of 1 1) ended.before) true refl in
    let front = in_order es 1 1 (fronts_are_runs es rest run) in
    let whole = in_order (es ++ rest) 1 1 run in
    let taken : 1 ≤ count_by (is_take_of 1 1) es = omega (arith, front.given, front.ended, count_by-some (is_end_of 1 1) es so) in
    let once : count_by (is_take_of 1 1) (es ++ rest) ≤ 1 = omega (arith, whole.taken, whole.begun) in
    placed (is_take_of 1 1) 0 es rest log_0.events (event.Take 1 1 1) did_0 (Contains-here (event.Take 1 1 1) (event.Give 1 1 1 ∷ [])) refl once taken

-- with some events of its log done, and the first of them at least, it has an item

abbrev buffer_b : Slot
buffer_b = record { node = buffer_at (codes "b") 1; first_port = 0; from = None; live = true }

abbrev is_done_by : List Event → Bool
is_done_by log = option_map_or moves.is_done (fold_at buffer_b log (opening kind.Buffer 1)) false

done_with : (es log : List Event) → slot (state_after es).config 0 ≡ Some buffer_b → done_by 0 es ≡ log → is_done es 0 ≡ is_done_by log
done_with es log there did = ap (λ (o : Option NodeState). option_map_or moves.is_done o false) (folds_so es 0 0 buffer_b log (opening kind.Buffer 1) there did refl)

-- a front of its log, with an event in it
undone_front : (log rest : List Event) → log ++ rest ≡ log_0.events → 1 ≤ length log → is_done_by log ≡ false
undone_front [] rest is some_ = absurd (omega (arith, some_))
undone_front (a ∷ []) rest is some_ = ap (λ e. is_done_by (e ∷ [])) (heads_are a (event.Take 1 1 1) rest (event.Give 1 1 1 ∷ []) is)
undone_front (a ∷ (b ∷ [])) rest is some_ =
    let first = heads_are a (event.Take 1 1 1) (b ∷ rest) (event.Give 1 1 1 ∷ []) is in
    let second = heads_are b (event.Give 1 1 1) rest [] (tails_are a (event.Take 1 1 1) (b ∷ rest) (event.Give 1 1 1 ∷ []) is) in
    (λ i. is_done_by (first i ∷ second i ∷ []))
undone_front (a ∷ (b ∷ (c ∷ log))) rest is some_ = let n : length (a ∷ (b ∷ (c ∷ (log ++ rest)))) ≡ 2 = ap length is in absurd (omega (arith, n))

-- it isn't done at a place behind one at which it took its item
undone_behind : (es more_ rest : List Event) → done_by 0 ((es ++ more_) ++ rest) ≡ log_0.events → DoneAt 0 [] es (event.Take 1 1 1) → slot (state_after (es ++ more_)).config 0 ≡ Some buffer_b
    → is_done (es ++ more_) 0 ≡ false
undone_behind es more_ rest did w there =
    let front = es ++ more_ in
    let later = w.after ++ more_ in
    let parts : front ≡ w.before ++ event.Take 1 1 1 ∷ later = ap (λ xs. xs ++ more_) w.parts ∙ append_assoc w.before (event.Take 1 1 1 ∷ w.after) more_ in
    let s = state_after w.before in
    let behind : done_from s 0 (event.Take 1 1 1 ∷ later) ≡ event.Take 1 1 1 ∷ done_from (effect s (event.Take 1 1 1)) 0 later =
    ap (λ b. if b then event.Take 1 1 1 ∷ done_from (effect s (event.Take 1 1 1)) 0 later else done_from (effect s (event.Take 1 1 1)) 0 later) w.does in
    let log : done_by 0 front ≡ done_by 0 w.before ++ event.Take 1 1 1 ∷ done_from (effect s (event.Take 1 1 1)) 0 later =
    ap (done_by 0) parts ∙ done_parts empty 0 w.before (event.Take 1 1 1 ∷ later) ∙ ap (λ xs. done_by 0 w.before ++ xs) behind in
    let long = ap length log ∙ length-append (done_by 0 w.before) (event.Take 1 1 1 ∷ done_from (effect s (event.Take 1 1 1)) 0 later) in
    done_with front (done_by 0 front) there refl
    ∙ undone_front (done_by 0 front) (done_from (state_after front) 0 rest) (sym (done_parts empty 0 front rest) ∙ did) (omega (arith, long))

abbrev until_run : List HistoryLine
until_run = take 10 rested_before.history

pub not_rested_before : (m : List Member) → Merge m rested_before → IsRun (events m) → Each IsRunAt m → Each IsFinishAt m → ⊥
not_rested_before m merge run runs finishes =
    let line_ = to.Finish 10 0 in
    let w = at_line m until_run line_ (drop 11 rested_before.history) merge.history in
    let said : IsFinishAt w.before (of_history line_) =
    each_at IsFinishAt w.before w.after (of_history line_) (subst (Each IsFinishAt) w.parts finishes) in
    ⊎_elim (λ (all : 0 ≡ 10). absurd (omega (arith, all)))
    (λ (early : (0 < 10) × CameToRest w.before). by w early.1) said
  where
    by : (w : AtLine m until_run (to.Finish 10 0)) → CameToRest w.before → ⊥
    by w rest =
        let finishing = of_history (to.Finish 10 0) in
        let running = of_history (to.Run 1 1) in
        let c = config_after until_run in
        let kinds = (all_parts IsOfItsKind w.before (finishing ∷ w.after) (subst (All IsOfItsKind) w.parts merge.by_nodes)).0 in
        let here : (state_at w.before).config ≡ c = config_of_lines w.before kinds ∙ ap config_after w.lines_before in
        let held = rest.nodes 0 (ap (λ (d : Configuration). is_live d 0) here) in
        let v = at_line w.before (take 9 rested_before.history) (to.Run 1 1) [] w.lines_before in
        let z = behind_line v.before v.after held.front (to.Run 1 1) held.later (sym v.parts ∙ held.parts) in
        let whole : m ≡ v.before ++ running ∷ (v.after ++ finishing ∷ w.after) =
        w.parts ∙ ap (λ k. k ++ finishing ∷ w.after) v.parts ∙ append_assoc v.before (running ∷ v.after) (finishing ∷ w.after) in
        let ended : EndedSince v.before 1 =
        (each_at IsRunAt v.before (v.after ++ finishing ∷ w.after) running (subst (Each IsRunAt) whole runs)).0 in
        let es = events v.before in
        let tail = events (v.after ++ finishing ∷ w.after) in
        let all : events m ≡ es ++ tail = ap events whole ∙ events_parts v.before (running ∷ (v.after ++ finishing ∷ w.after)) in
        let did_0 : done_by 0 (events m) ≡ log_0.events = merge.logs 0 some_log (omega arith) in
        let did_1 : done_by 1 (events m) ≡ log_1.events = merge.logs 1 some_log (omega arith) in
        let few : AreFew (events m) = few_behind (events m) run
        (λ before after is. passes_there ends_by_sources (filter_map event_of rested_before.history) refl m merge.by_nodes (ap (filter_map event_of) merge.history) before after is)
        [] (events m) refl (omega arith) in
        let some_ : 1 ≤ count_by ends_transaction es = omega (arith, ends_in v.before 1 ended) in
        let took = took_before es tail (subst IsRun all run) (ap (done_by 0) (sym all) ∙ did_0) (ap (done_by 1) (sym all) ∙ did_1) (subst AreFew all few) some_ in
        let in_front : events held.front ≡ es ++ events z.0 = ap events z.1 ∙ events_parts v.before (running ∷ z.0) in
        let left = map by_node held.later ++ finishing ∷ w.after in
        let split : events m ≡ (es ++ events z.0) ++ events left =
        ap events (w.parts ∙ ap (λ k. k ++ finishing ∷ w.after) held.parts ∙ append_assoc held.front (map by_node held.later) (finishing ∷ w.after)) ∙ events_parts held.front left ∙ ap (λ xs. xs ++ events left) in_front in
        let kinds_front = (all_parts IsOfItsKind held.front (map by_node held.later) (subst (All IsOfItsKind) held.parts kinds)).0 in
        let lines_front : lines held.front ≡ until_run =
        sym (ap (λ ls. lines held.front ++ ls) (lines_of_nodes held.later) ∙ append-nil (lines held.front)) ∙ sym (ap lines held.parts ∙ lines_parts held.front (map by_node held.later)) ∙ w.lines_before in
        let there : slot (state_at held.front).config 0 ≡ Some buffer_b = ap (λ (d : Configuration). slot d 0) (config_of_lines held.front kinds_front ∙ ap config_after lines_front) in
        let undone : is_done (es ++ events z.0) 0 ≡ false =
        undone_behind es (events z.0) (events left) (ap (done_by 0) (sym split) ∙ did_0) took (subst (λ xs. slot (state_after xs).config 0 ≡ Some buffer_b) in_front there) in
        both_ways (is_done (events held.front) 0) (ap (λ xs. is_done xs 0) in_front ∙ undone) held.held
