-- Wrong serials of ports, and a root that ended before the last port was closed.
use Rattle.std.proofs.Common.{◌≡◌, ◌∙◌, ℕ, ◌+◌, ◌≤◌, Bool, true, false, not, ◌&&◌, ◌||◌, cond, List, [], ◌∷◌, ◌++◌, append_assoc, drop, length, take, refl, sym, ap, subst, ⊎_elim, arith}
use Rattle.std.specs.Prelude.{◌==◌, is_some, nat_lt, if◌then◌else◌}
use Rattle.std.specs.List.{count_by, list_any}
use Rattle.std.proofs.lemmas.Bool.{and_parts, both_ways, eqb-true, not-true, or_cases, or_left, or_right}
use Rattle.std.proofs.lemmas.List.{append-nil, length-append}
use Rattle.std.proofs.lemmas.List.Folds.{list_any-append}
use Rattle.std.proofs.Math.Seq.{drop-append_seam, take-append_seam}
use Rattle.base.specs.Each.{Each}
use Rattle.base.proofs.EachLaws.{each_at}
use Rattle.base.proofs.MapLaws.{count_by-append}
use Rattle.base.proofs.RangeLaws.{all_in_range}
use Rattle.quiesce_word.specs.Phases.{is_idle}
use Rattle.quiesce_core.specs.Effect.{effect}
use Rattle.quiesce_core.specs.Runs.{IsRun, done_by, done_from, is_begin_of, is_doer, is_end_of, state_after}
use Rattle.quiesce_core.specs.State.{State, empty, exchange}
use Rattle.quiesce_core.specs.declared.event.Event.{Event}
use Rattle.quiesce_core.specs.declared.event.Event.TheVariants as event
use Rattle.quiesce_core.specs.declared.state.Exchange.{Exchange}
use Rattle.quiesce_core.proofs.RunLaws.{fronts_are_runs, done_parts}
use Rattle.quiesce_laws.specs.Events.{is_take_of}
use Rattle.quiesce_laws.specs.Roots.{has_root}
use Rattle.quiesce_laws.proofs.OrderLaws.{begun_count, ended_count, in_order, was_begun}
use Rattle.report_types.specs.declared.report.HistoryLine.{HistoryLine}
use Rattle.report_types.specs.declared.report.HistoryLine.TheVariants as to
use Rattle.change_spec.specs.Lawful.{IsDrainedAt, Merge, StoodOpenWhereSaid}
use Rattle.change_spec.specs.Members.{Member, of_history, events, is_close, lines, state_at, without_roots}
use Rattle.change_spec.specs.Roots.{StoodSinceClose}
use Rattle.change_spec.proofs.StoodLaws.{stood_since}
use Rattle.change_spec.proofs.MemberLaws.{at_line, events_parts, lines_parts}
use Rattle.base.proofs.ListLaws.{count_by-some}
use Rattle.base.proofs.BoolLaws.{then_so}
use Rattle.base.proofs.PlaceLaws.{parted_at}
use Rattle.worked_report_laws.specs.WrongSerials.{ahead, between, late, log_of_a}
use Rattle.worked_report_laws.proofs.PlaceLemmas.{DoneAt}
use Rattle.worked_report_laws.proofs.WrongChangeLemmas.{any_left, any_right}
use Rattle.worked_report_laws.proofs.WrongLogLemmas.{some_log}
use Rattle.worked_report_laws.proofs.WrongRestLemmas.{placed}

-- a port that had come to a serial has no lower one later
fallen : (xs ys : List Event) (p k j : ℕ) → IsRun (xs ++ ys) → (exchange (state_after xs) p).serial ≡ k → (exchange (state_after (xs ++ ys)) p).serial ≡ j
    → was_begun k k ≡ true → was_begun j k ≡ false → ⊥
fallen xs ys p k j run high low begun none =
    let a = begun_count xs p k (fronts_are_runs xs ys run) ∙ ap (λ n. cond (was_begun n k) 1 0) high ∙ ap (λ b. cond b 1 0) begun in
    let b = begun_count (xs ++ ys) p k run ∙ ap (λ n. cond (was_begun n k) 1 0) low ∙ ap (λ b. cond b 1 0) none in
    let all = count_by-append (is_begin_of p k) xs ys in
    omega (arith, a, b, all)

pub not_late : (m : List Member) → Merge m late → IsRun (events m) → Each IsDrainedAt m → ⊥
not_late m merge run drained =
    let told = without_roots late.history in
    let sight = of_history (to.Drained 0 4) in
    let last_ = of_history (to.Drained 0 3) in
    let w = at_line m (take 13 told) (to.Drained 0 4) (drop 14 told) merge.history in
    let said = each_at IsDrainedAt w.before w.after sight (subst (Each IsDrainedAt) w.parts drained) in
    let parted : lines m ≡ take 13 told ++ to.Drained 0 4 ∷ lines w.after =
    ap lines w.parts ∙ lines_parts w.before (sight ∷ w.after) ∙ ap (λ ls. ls ++ to.Drained 0 4 ∷ lines w.after) w.lines_before in
    let later : lines w.after ≡ drop 14 told = sym (ap (drop 14) parted) ∙ ap (drop 14) merge.history in
    let v = at_line w.after (take 8 (drop 14 told)) (to.Drained 0 3) (drop 23 told) later in
    let front = w.before ++ sight ∷ v.before in
    let whole : m ≡ front ++ last_ ∷ v.after =
    w.parts ∙ ap (λ k. w.before ++ sight ∷ k) v.parts ∙ sym (append_assoc w.before (sight ∷ v.before) (last_ ∷ v.after)) in
    let at_last = each_at IsDrainedAt front v.after last_ (subst (Each IsDrainedAt) whole drained) in
    let split : events front ≡ events w.before ++ events v.before = events_parts w.before (sight ∷ v.before) in
    let run_so : IsRun (events front) = fronts_are_runs (events front) (events (last_ ∷ v.after)) (subst IsRun (ap events whole ∙ events_parts front (last_ ∷ v.after)) run) in
    fallen (events w.before) (events v.before) 0 4 3 (subst IsRun split run_so) said.1 (ap (λ es. (exchange (state_after es) 0).serial) (sym split) ∙ at_last.1) refl refl

-- an open root has the port's serial, and the port isn't idle

abbrev is_root : ℕ → Exchange → Bool
is_root k x = (not (is_idle x.phase) && not (is_some x.within)) && x.serial == k

serial_of : (k : ℕ) (x : Exchange) → is_root k x ≡ true → x.serial ≡ k
serial_of k x h = eqb-true x.serial k (and_parts (not (is_idle x.phase) && not (is_some x.within)) (x.serial == k) h).1

busy_with : (k : ℕ) (x : Exchange) → is_root k x ≡ true → is_idle x.phase ≡ false
busy_with k x h =
    not-true (is_idle x.phase) (and_parts (not (is_idle x.phase)) (not (is_some x.within)) (and_parts (not (is_idle x.phase) && not (is_some x.within)) (x.serial == k) h).0).0

-- the parts of a list of members about a close that a root stood open from
since_close : (m : List Member) (before : List HistoryLine) (p k : ℕ) (s : StoodSinceClose m before p k) → m ≡ (s.front ++ of_history (to.Close p) ∷ []) ++ (s.since ++ s.rest)
since_close m before p k s =
    s.parts ∙ append_assoc s.front (of_history (to.Close p) ∷ s.since) s.rest ∙ sym (append_assoc s.front (of_history (to.Close p) ∷ []) (s.since ++ s.rest))

-- and the lines up to where it is told
lines_since : (m : List Member) (before : List HistoryLine) (p k : ℕ) (s : StoodSinceClose m before p k)
    → (lines (s.front ++ of_history (to.Close p) ∷ []) ++ lines s.since) ++ s.later ≡ without_roots before
lines_since m before p k s =
    ap (λ ls. ls ++ s.later) (sym (lines_parts (s.front ++ of_history (to.Close p) ∷ []) s.since) ∙ ap lines (append_assoc s.front (of_history (to.Close p) ∷ []) s.since)) ∙ s.place

-- a root that is open with a serial to which the port hasn't come at the stop

abbrev is_sight : HistoryLine → Bool
is_sight (to.Drained p k) = true
is_sight _ = false

stood_ahead : (m : List Member) → Merge m ahead → IsRun (events m) → Each IsDrainedAt m → StoodSinceClose m (take 15 ahead.history) 0 2 → ⊥
stood_ahead m merge run drained s =
    let told = take 15 ahead.history in
    let front = s.front ++ of_history (to.Close 0) ∷ [] in
    let tail = s.since ++ s.rest in
    let sight = of_history (to.Drained 0 1) in
    let high : (exchange (state_at front) 0).serial ≡ 2 = serial_of 2 (exchange (state_at front) 0) (s.stood [] s.since refl) in
    let w = at_line m (take 20 (without_roots ahead.history)) (to.Drained 0 1) (to.Drained 1 1 ∷ []) merge.history in
    let said = each_at IsDrainedAt w.before w.after sight (subst (Each IsDrainedAt) w.parts drained) in
    let run_so : IsRun (events w.before) = fronts_are_runs (events w.before) (events (sight ∷ w.after)) (subst IsRun (ap events w.parts ∙ events_parts w.before (sight ∷ w.after)) run) in
    ⊎_elim
    (λ (there : (z : List Member) × (front ≡ w.before ++ sight ∷ z)).
    let any : list_any is_sight (lines front) ≡ true =
    ap (λ k. list_any is_sight (lines k)) there.1 ∙ ap (list_any is_sight) (lines_parts w.before (sight ∷ there.0)) ∙ any_right is_sight (lines w.before) (to.Drained 0 1 ∷ lines there.0) refl in
    both_ways (list_any is_sight told) refl
    (sym (ap (list_any is_sight) (lines_since m told 0 2 s)) ∙ any_left is_sight (lines front ++ lines s.since) s.later (any_left is_sight (lines front) (lines s.since) any)))
    (λ (behind : (z : List Member) × (tail ≡ z ++ sight ∷ w.after) × (w.before ≡ front ++ z)).
    let split : events w.before ≡ events front ++ events behind.0 = ap events behind.2 ∙ events_parts front behind.0 in
    fallen (events front) (events behind.0) 0 2 1 (subst IsRun split run_so) high (ap (λ es. (exchange (state_after es) 0).serial) (sym split) ∙ said.1) refl refl)
    (parted_at w.before sight w.after front tail (sym w.parts ∙ since_close m told 0 2 s))

pub not_ahead : (m : List Member) → Merge m ahead → IsRun (events m) → Each IsDrainedAt m → Each (StoodOpenWhereSaid m) ahead.history → ⊥
not_ahead m merge run drained stood =
    stood_ahead m merge run drained (stood_since m (take 15 ahead.history) 0 2 run merge.by_nodes (each_at (StoodOpenWhereSaid m) (take 15 ahead.history) (drop 16 ahead.history) (to.Root 0 2) stood))

-- a root that ended before the last port was closed

any_done : (test : Event → Bool) (s : State) (n : ℕ) (es : List Event) → list_any test (done_from s n es) ≡ true → list_any test es ≡ true
any_done test s n [] h = h
any_done test s n (e ∷ es) h = by (is_doer s n e) h (any_done test (effect s e) n es)
  where
    by : (b : Bool) → list_any test (if b then e ∷ done_from (effect s e) n es else done_from (effect s e) n es) ≡ true
        → (list_any test (done_from (effect s e) n es) ≡ true → list_any test es ≡ true) → (test e || list_any test es) ≡ true
    by true k later = ⊎_elim (λ (here : test e ≡ true). or_left (test e) (list_any test es) here)
        (λ (behind : list_any test (done_from (effect s e) n es) ≡ true). or_right (test e) (list_any test es) (later behind))
        (or_cases (test e) (list_any test (done_from (effect s e) n es)) k)
    by false k later = or_right (test e) (list_any test es) (later k)

-- what a node did is in its log
did_there : (test : Event → Bool) (n : ℕ) (es : List Event) (e : Event) → DoneAt n [] es e → test e ≡ true → list_any test (done_by n es) ≡ true
did_there test n es e w passes =
    let s = state_after w.before in
    let behind : done_from s n (e ∷ w.after) ≡ e ∷ done_from (effect s e) n w.after =
    ap (λ b. if b then e ∷ done_from (effect s e) n w.after else done_from (effect s e) n w.after) w.does in
    let log : done_by n es ≡ done_by n w.before ++ e ∷ done_from (effect s e) n w.after =
    ap (done_by n) w.parts ∙ done_parts empty n w.before (e ∷ w.after) ∙ ap (λ xs. done_by n w.before ++ xs) behind in
    ap (list_any test) log ∙ list_any-append test (done_by n w.before) (e ∷ done_from (effect s e) n w.after)
    ∙ or_right (list_any test (done_by n w.before)) (test e || list_any test (done_from (effect s e) n w.after))
    (or_left (test e) (list_any test (done_from (effect s e) n w.after)) passes)

-- the buffer ended its transaction before it took its second item
abbrev ended_first : ℕ → Bool
ended_first j = not (list_any (is_take_of 1 2) (take j log_of_a.events)) || list_any (is_end_of 0 1) (take j log_of_a.events)

ended_before : (es rest : List Event) → IsRun (es ++ rest) → done_by 0 (es ++ rest) ≡ log_of_a.events → (exchange (state_after es) 1).serial ≡ 3 → list_any (is_end_of 0 1) es ≡ true
ended_before es rest run did serial =
    let ended : count_by (is_end_of 1 2) es ≡ 1 =
    ended_count es 1 2 (fronts_are_runs es rest run) ∙ ap (λ n. cond (nat_lt 2 n || (2 == n && is_idle (exchange (state_after es) 1).phase)) 1 0) serial in
    let front = in_order es 1 2 (fronts_are_runs es rest run) in
    let whole = in_order (es ++ rest) 1 2 run in
    let taken : 1 ≤ count_by (is_take_of 1 2) es = omega (arith, front.given, front.ended, ended) in
    let once : count_by (is_take_of 1 2) (es ++ rest) ≤ 1 = omega (arith, whole.taken, whole.begun) in
    let w = placed (is_take_of 1 2) 0 es rest log_of_a.events (event.Take 1 2 2) did (4, omega arith, refl) refl once taken in
    let own = done_by 0 es in
    let others = done_from (state_after es) 0 rest in
    let log : own ++ others ≡ log_of_a.events = sym (done_parts empty 0 es rest) ∙ did in
    let n : length own + length others ≡ 8 = sym (length-append own others) ∙ ap length log in
    let is : take (length own) log_of_a.events ≡ own = ap (take (length own)) (sym log) ∙ take-append_seam own others in
    let took : list_any (is_take_of 1 2) (take (length own) log_of_a.events) ≡ true =
    ap (list_any (is_take_of 1 2)) is ∙ did_there (is_take_of 1 2) 0 es (event.Take 1 2 2) w refl in
    let so = then_so (list_any (is_take_of 1 2) (take (length own) log_of_a.events)) (list_any (is_end_of 0 1) (take (length own) log_of_a.events))
    (all_in_range ended_first 0 9 (length own) refl (omega arith) (omega (arith, n))) took in
    any_done (is_end_of 0 1) empty 0 es (ap (list_any (is_end_of 0 1)) (sym is) ∙ so)

-- the port of the source is closed once in the lines up to there, and before the place at which the root is said to be open

abbrev told : List HistoryLine
told = take 14 between.history

abbrev is_last_close : HistoryLine → Bool
is_last_close (to.Close p) = p == 1
is_last_close _ = false

abbrev is_behind : ℕ → Bool
is_behind j = list_any is_close (drop j told) || list_any is_last_close (take j told)

closed_in : (a b : List HistoryLine) → a ++ b ≡ told → list_any is_close b ≡ false → list_any is_last_close a ≡ true
closed_in a b whole none =
    let n : length a + length b ≡ 14 = sym (length-append a b) ∙ ap length whole in
    let later : drop (length a) told ≡ b = ap (drop (length a)) (sym whole) ∙ drop-append_seam a b in
    let sooner : take (length a) told ≡ a = ap (take (length a)) (sym whole) ∙ take-append_seam a b in
    ⊎_elim (λ (e : list_any is_close (drop (length a) told) ≡ true). absurd (both_ways (list_any is_close b) none (ap (list_any is_close) (sym later) ∙ e)))
    (λ (e : list_any is_last_close (take (length a) told) ≡ true). ap (list_any is_last_close) (sym sooner) ∙ e)
    (or_cases (list_any is_close (drop (length a) told)) (list_any is_last_close (take (length a) told)) (all_in_range is_behind 0 15 (length a) refl (omega arith) (omega (arith, n))))

stood_between : (m : List Member) → Merge m between → IsRun (events m) → StoodSinceClose m told 0 1 → StoodSinceClose m (take 15 between.history) 1 3 → ⊥
stood_between m merge run s t =
    let close = of_history (to.Close 1) in
    let front = s.front ++ of_history (to.Close 0) ∷ s.since in
    let shut = t.front ++ close ∷ [] in
    let tail = t.since ++ t.rest in
    let parts : m ≡ shut ++ tail = since_close m (take 15 between.history) 1 3 t in
    let all : events m ≡ events shut ++ events tail = ap events parts ∙ events_parts shut tail in
    let serial : (exchange (state_at shut) 1).serial ≡ 3 = serial_of 3 (exchange (state_at shut) 1) (t.stood [] t.since refl) in
    let ended : list_any (is_end_of 0 1) (events shut) ≡ true =
    ended_before (events shut) (events tail) (subst IsRun all run) (ap (done_by 0) (sym all) ∙ merge.logs 0 some_log (omega arith)) serial in
    let closed : list_any is_last_close (lines front) ≡ true = closed_in (lines front) s.later s.place s.behind_closes in
    ⊎_elim
    (λ (there : (z : List Member) × (front ≡ t.front ++ close ∷ z)).
    let split : events front ≡ events shut ++ events there.0 =
    ap events (there.1 ∙ sym (append_assoc t.front (close ∷ []) there.0)) ∙ events_parts shut there.0 in
    open_still front (events s.rest) (ap events s.parts ∙ events_parts front s.rest) (s.stood s.since [] (sym (append-nil s.since)))
    (ap (list_any (is_end_of 0 1)) split ∙ list_any-append (is_end_of 0 1) (events shut) (events there.0) ∙ or_left (list_any (is_end_of 0 1) (events shut)) (list_any (is_end_of 0 1) (events there.0)) ended))
    (λ (behind : (z : List Member) × (s.rest ≡ z ++ close ∷ tail) × (t.front ≡ front ++ z)).
    let closes : List HistoryLine → ℕ = count_by is_last_close in
    let once = ap closes (sym (lines_since m (take 15 between.history) 1 3 t)) in
    let a = count_by-append is_last_close (lines shut ++ lines t.since) t.later in
    let b = count_by-append is_last_close (lines shut) (lines t.since) in
    let c = ap closes (lines_parts t.front (close ∷ [])) ∙ count_by-append is_last_close (lines t.front) (to.Close 1 ∷ []) in
    let d = ap closes (ap lines behind.2 ∙ lines_parts front behind.0) ∙ count_by-append is_last_close (lines front) (lines behind.0) in
    let some_ : 1 ≤ count_by is_last_close (lines front) = count_by-some is_last_close (lines front) closed in
    let one : count_by is_last_close told ≡ 1 = refl in
    let own : count_by is_last_close (to.Close 1 ∷ []) ≡ 1 = refl in
    omega (arith, once, a, b, c, d, some_, one, own))
    (parted_at t.front close tail front s.rest (sym (parts ∙ append_assoc t.front (close ∷ []) tail) ∙ s.parts))
  where
    open_still : (front : List Member) (rest : List Event) → events m ≡ events front ++ rest → has_root (state_at front) 0 1 ≡ true → list_any (is_end_of 0 1) (events front) ≡ true → ⊥
    open_still front rest is open_ ended =
        let x = exchange (state_at front) 0 in
        let serial : x.serial ≡ 1 = serial_of 1 x open_ in
        let busy : is_idle x.phase ≡ false = busy_with 1 x open_ in
        let none : count_by (is_end_of 0 1) (events front) ≡ 0 =
        ended_count (events front) 0 1 (fronts_are_runs (events front) rest (subst IsRun is run)) ∙ (λ i. cond (nat_lt 1 (serial i) || (1 == serial i && busy i)) 1 0) in
        omega (arith, none, count_by-some (is_end_of 0 1) (events front) ended)

pub not_between : (m : List Member) → Merge m between → IsRun (events m) → Each (StoodOpenWhereSaid m) between.history → ⊥
not_between m merge run stood =
    stood_between m merge run (stood_since m told 0 1 run merge.by_nodes (each_at (StoodOpenWhereSaid m) told (drop 15 between.history) (to.Root 0 1) stood))
    (stood_since m (take 15 between.history) 1 3 run merge.by_nodes (each_at (StoodOpenWhereSaid m) (take 15 between.history) (drop 16 between.history) (to.Root 1 3) stood))
