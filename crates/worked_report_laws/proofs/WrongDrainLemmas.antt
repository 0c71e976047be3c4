-- A wrong drain: a port is said to be drained, and its root ends later.
use Rattle.std.proofs.Common.{◌≡◌, ◌∙◌, ℕ, ◌≤◌, true, false, cond, not, ◌&&◌, List, [], ◌∷◌, ◌++◌, append_assoc, drop, take, refl, sym, ap, subst, ⊎_elim, arith}
use Rattle.std.specs.Prelude.{filter_map}
use Rattle.std.specs.List.{count_by, list_any}
use Rattle.std.proofs.lemmas.Bool.{both_ways, cases_Bool, or_right}
use Rattle.std.proofs.lemmas.List.Folds.{list_any-append}
use Rattle.base.specs.Each.{Each}
use Rattle.base.proofs.ContainsLaws.{Contains-here, any_if, any_of}
use Rattle.base.proofs.EachLaws.{each_at}
use Rattle.base.proofs.MapLaws.{count_by-append}
use Rattle.quiesce_core.specs.declared.event.Event.{Event}
use Rattle.quiesce_core.specs.declared.event.Event.TheVariants as event
use Rattle.quiesce_core.specs.Runs.{IsRun, done_by, is_begin_of, is_end_of, state_after}
use Rattle.quiesce_core.specs.State.{exchange}
use Rattle.quiesce_core.proofs.RunLaws.{fronts_are_runs}
use Rattle.quiesce_laws.specs.Events.{is_root_of, ends_transaction}
use Rattle.quiesce_laws.specs.Roots.{has_root, is_open_root_after}
use Rattle.quiesce_laws.proofs.OrderLaws.{begun_count, in_order, was_begun}
use Rattle.report_types.specs.declared.report.HistoryLine.TheVariants as to
use Rattle.change_spec.specs.Lawful.{EndedSince, IsDrainedAt, IsEndedAt, Merge}
use Rattle.change_spec.specs.Members.{Member, of_history, event_of, events, lines, without_roots}
use Rattle.change_spec.proofs.MemberLaws.{at_line, events_parts, lines_parts}
use Rattle.base.proofs.ListLaws.{count_by-some}
use Rattle.worked_report_laws.specs.WrongLooks.{hasty}
use Rattle.worked_report_laws.proofs.PlaceLemmas.{passes_there}
use Rattle.worked_report_laws.proofs.WrongLogLemmas.{AreFew, ends_by_sources, few_behind, some_log}
use Rattle.worked_report_laws.proofs.WrongLookLemmas.{drained_passed}
use Rattle.worked_report_laws.proofs.WrongRestLemmas.{placed}
use Rattle.worked_report_laws.proofs.WrongRunLemmas.{behind_line, ends_in}

abbrev log_of_a : List Event
log_of_a = event.Begin 0 1 1 ∷ event.End 0 1 1 ∷ []

-- where none ended, this one didn't
an_end : (p k : ℕ) (e : Event) → is_end_of p k e ≡ true → ends_transaction e ≡ true
an_end p k (event.End q j v) h = refl
an_end p k _ h = absurd (both_ways false refl h)

none_ended : (es : List Event) (p k : ℕ) → count_by ends_transaction es ≡ 0 → list_any (is_end_of p k) es ≡ false
none_ended es p k none = ⊎_elim
    (λ (h : list_any (is_end_of p k) es ≡ true).
    let w = any_of (is_end_of p k) es h in
    let some_ = count_by-some ends_transaction es (any_if ends_transaction es w.0 w.1 (an_end p k w.0 w.2)) in
    absurd (omega (arith, none, some_)))
    (λ (h : list_any (is_end_of p k) es ≡ false). h)
    (cases_Bool (list_any (is_end_of p k) es))

-- a root was begun that didn't end
begun_and_open : (es rest : List Event) → IsRun (es ++ rest) → done_by 0 (es ++ rest) ≡ log_of_a → (exchange (state_after es) 0).serial ≡ 1 → count_by ends_transaction es ≡ 0
    → is_open_root_after es 0 1 ≡ true
begun_and_open es rest run did serial none =
    let begun : count_by (is_begin_of 0 1) es ≡ 1 = begun_count es 0 1 (fronts_are_runs es rest run) ∙ ap (λ n. cond (was_begun n 1) 1 0) serial in
    let once : count_by (is_begin_of 0 1) (es ++ rest) ≤ 1 = (in_order (es ++ rest) 0 1 run).begun in
    let w = placed (is_begin_of 0 1) 0 es rest log_of_a (event.Begin 0 1 1) did (Contains-here (event.Begin 0 1 1) (event.End 0 1 1 ∷ [])) refl once (omega (arith, begun)) in
    let root : list_any (is_root_of 0 1) es ≡ true =
    ap (list_any (is_root_of 0 1)) w.parts ∙ list_any-append (is_root_of 0 1) w.before (event.Begin 0 1 1 ∷ w.after) ∙ or_right (list_any (is_root_of 0 1) w.before) true refl in
    (λ i. root i && not (none_ended es 0 1 none i))

abbrev OpenRootsAreSeen : Type 0
OpenRootsAreSeen = (es : List Event) (p k : ℕ) → IsRun es → is_open_root_after es p k ≡ has_root (state_after es) p k

pub not_hasty : OpenRootsAreSeen → (m : List Member) → Merge m hasty → IsRun (events m) → Each IsEndedAt m → Each IsDrainedAt m → ⊥
not_hasty seen m merge run runs drained =
    let told = without_roots hasty.history in
    let sight = of_history (to.Drained 0 1) in
    let running = of_history (to.Run 2 2) in
    let w = at_line m (take 13 told) (to.Drained 0 1) (drop 14 told) merge.history in
    let said = each_at IsDrainedAt w.before w.after sight (subst (Each IsDrainedAt) w.parts drained) in
    let parted : lines m ≡ take 13 told ++ to.Drained 0 1 ∷ lines w.after =
    ap lines w.parts ∙ lines_parts w.before (sight ∷ w.after) ∙ ap (λ ls. ls ++ to.Drained 0 1 ∷ lines w.after) w.lines_before in
    let later : lines w.after ≡ drop 14 told = sym (ap (drop 14) parted) ∙ ap (drop 14) merge.history in
    let v = at_line w.after (take 4 (drop 14 told)) (to.Run 2 2) (drop 19 told) later in
    let front = w.before ++ sight ∷ v.before in
    let whole : m ≡ front ++ running ∷ v.after =
    w.parts ∙ ap (λ k. w.before ++ sight ∷ k) v.parts ∙ sym (append_assoc w.before (sight ∷ v.before) (running ∷ v.after)) in
    let ended : EndedSince front 2 = each_at IsEndedAt front v.after running (subst (Each IsEndedAt) whole runs) in
    let behind = behind_line w.before v.before ended.front (to.Drained 0 1) ended.later ended.parts in
    let es = events w.before in
    let rest = events w.after in
    let all : events m ≡ es ++ rest = ap events w.parts ∙ events_parts w.before (sight ∷ w.after) in
    let few : AreFew (events m) = few_behind (events m) run
    (λ before after is. passes_there ends_by_sources (filter_map event_of told) refl m merge.by_nodes (ap (filter_map event_of) merge.history) before after is)
    [] (events m) refl (omega arith) in
    let did : done_by 0 (events m) ≡ log_of_a = merge.logs 0 some_log (omega arith) in
    let a : count_by ends_transaction (done_by 0 (events m)) ≡ 1 = ap (count_by ends_transaction) did in
    let b : count_by ends_transaction (done_by 1 (events m)) ≡ 1 = ap (count_by ends_transaction) (merge.logs 1 some_log (omega arith)) in
    let in_all = ap (count_by ends_transaction) (ap events whole ∙ events_parts front (running ∷ v.after)) ∙ count_by-append ends_transaction (events front) (events v.after) in
    let in_front = ap (count_by ends_transaction) (ap events behind.1 ∙ events_parts w.before (sight ∷ behind.0)) ∙ count_by-append ends_transaction es (events behind.0) in
    let none : count_by ends_transaction es ≡ 0 = omega (arith, few, a, b, in_all, in_front, ends_in front 2 ended) in
    let run_so : IsRun (es ++ rest) = subst IsRun all run in
    let open_ = begun_and_open es rest run_so (ap (done_by 0) (sym all) ∙ did) said.1 none in
    both_ways (has_root (state_after es) 0 1) (drained_passed (state_after es) 0 1 said.0 said.1).none (sym (seen es 0 1 (fronts_are_runs es rest run_so)) ∙ open_)
