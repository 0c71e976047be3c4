-- Wrong tellings of looks: a port is drained with a serial that it had before, and a root is open that had ended.
use Rattle.std.proofs.Common.{◌≡◌, ◌∙◌, ℕ, ◌+◌, ◌≤◌, Bool, true, false, not, ◌&&◌, ◌||◌, List, [], ◌∷◌, ◌++◌, append_assoc, drop, length, take, Some, refl, sym, ap, subst, inl, inr, ⊎_elim, arith}
use Rattle.std.specs.Prelude.{◌==◌, ◌⊎◌, All, filter_map, is_some}
use Rattle.std.specs.List.{cons_option, list_any}
use Rattle.std.proofs.Math.Bool.{and-false}
use Rattle.std.proofs.lemmas.Bool.{and_parts, both_ways, eqb-true, ne_eqb, not-true, or_cases, or_parts, or_right}
use Rattle.std.proofs.lemmas.List.{length-append}
use Rattle.std.proofs.lemmas.List.Folds.{list_any-append}
use Rattle.std.proofs.Math.Seq.{drop-append_seam, take-append_seam}
use Rattle.base.specs.Each.{Each}
use Rattle.base.proofs.EachLaws.{each_at}
use Rattle.base.proofs.PlaceLaws.{tails_are, parted_at}
use Rattle.base.proofs.RangeLaws.{all_in_range}
use Rattle.base.proofs.BoolLaws.{then_so}
use Rattle.base.proofs.ListLaws.{all_parts}
use Rattle.quiesce_word.specs.Phases.{is_idle}
use Rattle.quiesce_core.specs.Effect.{effect}
use Rattle.quiesce_core.specs.Runs.{IsRun, done_by, is_begin_of, state_after}
use Rattle.quiesce_core.specs.State.{State, exchange, gate}
use Rattle.quiesce_core.specs.declared.event.Event.{Event}
use Rattle.quiesce_core.specs.declared.event.Event.TheVariants as event
use Rattle.quiesce_core.specs.declared.state.Exchange.{Exchange}
use Rattle.quiesce_core.proofs.InductionLaws.{IsNext, along, none_barred, place, unbarred}
use Rattle.quiesce_core.proofs.RunLaws.{fronts_are_runs}
use Rattle.quiesce_laws.specs.Drained.{is_drained}
use Rattle.quiesce_laws.specs.Events.{reopens}
use Rattle.quiesce_laws.specs.Roots.{has_root}
use Rattle.quiesce_laws.proofs.DrainingLaws.{no_node_reopens}
use Rattle.quiesce_laws.proofs.ExchangeLaws.{PortStep, stays, begins, calls, ends, port_step}
use Rattle.quiesce_core.proofs.PortEventLaws.{next_serial}
use Rattle.quiesce_laws.proofs.RootLaws.{closed_stays, has_no_root}
use Rattle.report_types.specs.declared.report.HistoryLine.{HistoryLine}
use Rattle.report_types.specs.declared.report.HistoryLine.TheVariants as to
use Rattle.change_spec.specs.Lawful.{IsDrainedAt, IsOfItsKind, Merge, StoodOpenWhereSaid}
use Rattle.change_spec.specs.Members.{Member, of_history, event_of, events, is_close, lines, state_at}
use Rattle.change_spec.specs.Roots.{StoodSinceClose}
use Rattle.change_spec.proofs.StoodLaws.{stood_since}
use Rattle.change_spec.proofs.MemberLaws.{at_line, events_parts, line_there, lines_parts, none_happens}
use Rattle.worked_report_laws.specs.WrongLooks.{early, outdated}
use Rattle.worked_report_laws.proofs.PlaceLemmas.{done_at}
use Rattle.worked_report_laws.proofs.WrongLogLemmas.{begun_before, log_of_s, some_log}

-- the third transaction begins before the port is found drained, since the port is closed then

pub not_early : (m : List Member) → Merge m early → IsRun (events m) → Each IsDrainedAt m → ⊥
not_early m merge run drained =
    let front = take 14 early.history in
    let w = at_line m front (to.Drained 1 2) [] merge.history in
    let said = each_at IsDrainedAt w.before w.after (of_history (to.Drained 1 2)) (subst (Each IsDrainedAt) w.parts drained) in
    let parted : lines m ≡ front ++ to.Drained 1 2 ∷ lines w.after =
    ap lines w.parts ∙ lines_parts w.before (of_history (to.Drained 1 2) ∷ w.after) ∙ ap (λ ls. ls ++ to.Drained 1 2 ∷ lines w.after) w.lines_before in
    let nothing : lines w.after ≡ [] = sym (ap (drop 15) parted) ∙ ap (drop 15) merge.history in
    let kinds = (all_parts IsOfItsKind (w.before ++ of_history (to.Drained 1 2) ∷ []) w.after
    (subst (All IsOfItsKind) (w.parts ∙ sym (append_assoc w.before (of_history (to.Drained 1 2) ∷ []) w.after)) merge.by_nodes)).1 in
    let none : list_any (reopens 1) (events w.after) ≡ false =
    none_happens (reopens 1) (no_node_reopens 1) w.after kinds (ap (λ ls. list_any (reopens 1) (filter_map event_of ls)) nothing) in
    let whole : events m ≡ events w.before ++ events w.after = ap events w.parts ∙ events_parts w.before (of_history (to.Drained 1 2) ∷ w.after) in
    let did : done_by 1 (events m) ≡ log_of_s = merge.logs 1 some_log (omega arith) in
    let b = done_at 1 (events m) log_of_s (event.Begin 1 3 3) did (4, omega arith, refl) in
    by (events w.before) (events w.after) b.before b.after said.0 said.1 none (subst IsRun whole run) (subst IsRun b.parts run)
    (parted_at b.before (event.Begin 1 3 3) b.after (events w.before) (events w.after) (sym b.parts ∙ whole))
  where
    by : (xs ys x y : List Event) → is_drained (state_after xs) 1 ≡ true → (exchange (state_after xs) 1).serial ≡ 2 → list_any (reopens 1) ys ≡ false → IsRun (xs ++ ys)
        → IsRun (x ++ event.Begin 1 3 3 ∷ y)
        → ((z : List Event) × (xs ≡ x ++ event.Begin 1 3 3 ∷ z)) ⊎ ((z : List Event) × (ys ≡ z ++ event.Begin 1 3 3 ∷ y) × (x ≡ xs ++ z)) → ⊥
    by xs ys x y shut serial none run begins_ (inl (z, is)) =
        let begun : list_any (is_begin_of 1 3) xs ≡ true =
        ap (list_any (is_begin_of 1 3)) is ∙ list_any-append (is_begin_of 1 3) x (event.Begin 1 3 3 ∷ z) ∙ or_right (list_any (is_begin_of 1 3) x) true refl in
        omega (arith, begun_before xs (fronts_are_runs xs ys run) begun, serial)
    by xs ys x y shut serial none run begins_ (inr (z, is, front)) =
        let here = place x y (event.Begin 1 3 3) begins_ in
        let free : list_any (reopens 1) z ≡ false =
        (or_parts (list_any (reopens 1) z) (list_any (reopens 1) (event.Begin 1 3 3 ∷ y)) (sym (list_any-append (reopens 1) z (event.Begin 1 3 3 ∷ y)) ∙ ap (list_any (reopens 1)) (sym is) ∙ none)).0 in
        let stays_shut : (gate (state_after (xs ++ z)).config 1).closed ≡ true =
        closed_stays xs z 1 (subst IsRun front here.run) free (and_parts (gate (state_after xs).config 1).closed _ shut).0 in
        both_ways (gate (state_after x).config 1).closed (not-true (gate (state_after x).config 1).closed here.legal.opened)
        (ap (λ es. (gate (state_after es).config 1).closed) front ∙ stays_shut)

-- a root that a port hasn't, though it has come to that serial, it never has again

pub record HasPassed (s : State) (p k : ℕ) : Type 0 where
  pub low : k ≤ (exchange s p).serial
  pub none : has_root s p k ≡ false

abbrev is_root : ℕ → Exchange → Bool
is_root k x = (not (is_idle x.phase) && not (is_some x.within)) && x.serial == k

other_root : (k j : ℕ) (x : Exchange) → is_idle x.phase ≡ false → x.serial ≡ j → (j ≡ k → ⊥) → is_root k x ≡ false
other_root k j x busy serial apart =
    ap (λ b. (not b && not (is_some x.within)) && x.serial == k) busy
    ∙ ap (λ n. not (is_some x.within) && n == k) serial
    ∙ ap (λ b. not (is_some x.within) && b) (ne_eqb j k apart) ∙ and-false (not (is_some x.within))

same_root : (k : ℕ) (x y : Exchange) → y.serial ≡ x.serial → y.within ≡ x.within → is_idle y.phase ≡ is_idle x.phase → is_root k y ≡ is_root k x
same_root k x y serial within idle =
    ap (λ b. (not b && not (is_some y.within)) && y.serial == k) idle
    ∙ ap (λ o. (not (is_idle x.phase) && not (is_some o)) && y.serial == k) within
    ∙ ap (λ n. (not (is_idle x.phase) && not (is_some x.within)) && n == k) serial

passed_next : (p k : ℕ) (xs : List Event) (e : Event) → IsNext xs e → HasPassed (state_after xs) p k → HasPassed (state_after (xs ++ e ∷ [])) p k
passed_next p k xs e here h =
    let s = state_after xs in
    subst (λ t. HasPassed t p k) (sym here.next) (by (exchange (effect s e) p) refl (port_step s e here.well here.traffic here.legal p))
  where
    later : (y : Exchange) (j : ℕ) → exchange (effect (state_after xs) e) p ≡ y → is_idle y.phase ≡ false → y.serial ≡ j → j ≡ (exchange (state_after xs) p).serial + 1
        → HasPassed (effect (state_after xs) e) p k
    later y j is busy serial next =
        let low = h.low in
        let up : (exchange (effect (state_after xs) e) p).serial ≡ j = ap (λ (x : Exchange). x.serial) is ∙ serial in
        record { low = omega (arith, low, up, next); none = ap (is_root k) is ∙ other_root k j y busy serial (λ same. omega (arith, low, next, same)) }

    by : (y : Exchange) → exchange (effect (state_after xs) e) p ≡ y → PortStep (state_after xs) e p y → HasPassed (effect (state_after xs) e) p k
    by y is (stays off serial within idle) =
        let low = h.low in
        let up = ap (λ (x : Exchange). x.serial) is in
        record { low = omega (arith, low, up, serial); none = ap (is_root k) is ∙ same_root k (exchange (state_after xs) p) y serial within idle ∙ h.none }
    by y is (begins j v same may to_) =
        later y j is (ap (λ (x : Exchange). is_idle x.phase) to_) (ap (λ (x : Exchange). x.serial) to_) (next_serial (state_after xs) p j may.next_serial)
    by y is (calls j v u same may served to_) =
        later y j is (ap (λ (x : Exchange). is_idle x.phase) to_) (ap (λ (x : Exchange). x.serial) to_) (next_serial (state_after xs) p j may.next_serial)
    by y is (ends j v same may to_) =
        let low = h.low in
        let up = ap (λ (x : Exchange). x.serial) (is ∙ to_) in
        record { low = omega (arith, low, up); none = ap (is_root k) (is ∙ to_) }

passed_on : (before es : List Event) (p k : ℕ) → IsRun (before ++ es) → HasPassed (state_after before) p k → HasPassed (state_after (before ++ es)) p k
passed_on before es p k run h =
    along (λ xs. HasPassed (state_after xs) p k) unbarred (λ xs e here free kept. passed_next p k xs e here kept) before es run (none_barred es) h

pub drained_passed : (s : State) (p k : ℕ) → is_drained s p ≡ true → (exchange s p).serial ≡ k → HasPassed s p k
drained_passed s p k h serial =
    record { low = omega (arith, serial); none = by (has_root s p k) refl }
  where
    by : (b : Bool) → has_root s p k ≡ b → b ≡ false
    by true e = absurd (has_no_root (exchange s p) k (and_parts (gate s.config p).closed _ h).1 e)
    by false e = refl

-- the lines up to the one that says it

abbrev told : List HistoryLine
told = take 29 outdated.history

abbrev begins_so : List HistoryLine → Bool
begins_so (to.Close p ∷ ls) = p == 1
begins_so _ = false

abbrev reopens_1 : HistoryLine → Bool
reopens_1 (to.Reopen p) = p == 1
reopens_1 _ = false

reopening_is : (l : HistoryLine) → reopens_1 l ≡ true → event_of l ≡ Some (event.Reopen 1)
reopening_is (to.Reopen p) h = ap (λ q. Some (event.Reopen q)) (eqb-true p 1 h)
reopening_is _ h = absurd (both_ways false refl h)

reopened_in : (m : List Member) → list_any reopens_1 (lines m) ≡ true → list_any (reopens 1) (events m) ≡ true
reopened_in m h =
    let w = line_there reopens_1 m h in
    ap (list_any (reopens 1)) (ap events w.parts ∙ events_parts w.before (of_history w.line ∷ w.after) ∙ ap (λ o. events w.before ++ cons_option o (events w.after)) (reopening_is w.line w.passes))
    ∙ list_any-append (reopens 1) (events w.before) (event.Reopen 1 ∷ events w.after) ∙ or_right (list_any (reopens 1) (events w.before)) true refl

-- the close is one of the two
abbrev is_one_of_two : ℕ → Bool
is_one_of_two j = not (begins_so (drop j told)) || (j == 12 || j == 25)

-- behind the first, up to a place behind all closes, the port is reopened
abbrev is_reopened : ℕ → Bool
is_reopened j = list_any is_close (drop j (drop 13 told)) || list_any reopens_1 (take j (drop 13 told))

stood_outdated : (m : List Member) → Merge m outdated → IsRun (events m) → Each IsDrainedAt m → StoodSinceClose m told 1 1 → ⊥
stood_outdated m merge run drained s =
    let f = lines s.front in
    let since = lines s.since in
    let close = to.Close 1 in
    let whole : f ++ (close ∷ (since ++ s.later)) ≡ told =
    sym (append_assoc f (close ∷ since) s.later) ∙ ap (λ ls. ls ++ s.later) (sym (lines_parts s.front (of_history close ∷ s.since))) ∙ s.place in
    let n : length f + length (close ∷ (since ++ s.later)) ≡ 29 = sym (length-append f (close ∷ (since ++ s.later))) ∙ ap length whole in
    let dropped : drop (length f) told ≡ close ∷ (since ++ s.later) = ap (drop (length f)) (sym whole) ∙ drop-append_seam f (close ∷ (since ++ s.later)) in
    let taken : take (length f) told ≡ f = ap (take (length f)) (sym whole) ∙ take-append_seam f (close ∷ (since ++ s.later)) in
    let here : (length f == 12 || length f == 25) ≡ true =
    then_so (begins_so (drop (length f) told)) (length f == 12 || length f == 25)
    (all_in_range is_one_of_two 0 29 (length f) refl (omega arith) (omega (arith, n))) (ap begins_so dropped) in
    ⊎_elim (λ (e : (length f == 12) ≡ true). first (eqb-true (length f) 12 e) dropped) (λ (e : (length f == 25) ≡ true). second (eqb-true (length f) 25 e) taken) (or_cases (length f == 12) (length f == 25) here)
  where
    first : length (lines s.front) ≡ 12 → drop (length (lines s.front)) told ≡ to.Close 1 ∷ (lines s.since ++ s.later) → ⊥
    first at dropped =
        let since = lines s.since in
        let rest : since ++ s.later ≡ drop 13 told =
        tails_are (to.Close 1) (to.Close 1) (since ++ s.later) (drop 13 told) (sym dropped ∙ ap (λ j. drop j told) at) in
        let n : length since + length s.later ≡ 16 = sym (length-append since s.later) ∙ ap length rest in
        let later : drop (length since) (drop 13 told) ≡ s.later = ap (drop (length since)) (sym rest) ∙ drop-append_seam since s.later in
        let sooner : take (length since) (drop 13 told) ≡ since = ap (take (length since)) (sym rest) ∙ take-append_seam since s.later in
        ⊎_elim
        (λ (e : list_any is_close (drop (length since) (drop 13 told)) ≡ true). both_ways (list_any is_close s.later) s.behind_closes (ap (list_any is_close) (sym later) ∙ e))
        (λ (e : list_any reopens_1 (take (length since) (drop 13 told)) ≡ true).
        both_ways (list_any (reopens 1) (events s.since)) s.not_reopened (reopened_in s.since (ap (list_any reopens_1) (sym sooner) ∙ e)))
        (or_cases (list_any is_close (drop (length since) (drop 13 told))) (list_any reopens_1 (take (length since) (drop 13 told)))
        (all_in_range is_reopened 0 17 (length since) refl (omega arith) (omega (arith, n))))

    second : length (lines s.front) ≡ 25 → take (length (lines s.front)) told ≡ lines s.front → ⊥
    second at taken =
        let front : lines s.front ≡ take 14 told ++ to.Drained 1 1 ∷ drop 15 (take 25 told) = sym taken ∙ ap (λ j. take j told) at in
        let w = at_line s.front (take 14 told) (to.Drained 1 1) (drop 15 (take 25 told)) front in
        let tail = of_history (to.Close 1) ∷ s.since in
        let is : m ≡ w.before ++ of_history (to.Drained 1 1) ∷ (w.after ++ (tail ++ s.rest)) =
        s.parts ∙ append_assoc s.front tail s.rest ∙ ap (λ ks. ks ++ (tail ++ s.rest)) w.parts ∙ append_assoc w.before (of_history (to.Drained 1 1) ∷ w.after) (tail ++ s.rest) in
        let said = each_at IsDrainedAt w.before (w.after ++ (tail ++ s.rest)) (of_history (to.Drained 1 1)) (subst (Each IsDrainedAt) is drained) in
        let until : events (s.front ++ of_history (to.Close 1) ∷ []) ≡ events w.before ++ (events w.after ++ event.Close 1 ∷ []) =
        events_parts s.front (of_history (to.Close 1) ∷ [])
        ∙ ap (λ es. es ++ event.Close 1 ∷ []) (ap events w.parts ∙ events_parts w.before (of_history (to.Drained 1 1) ∷ w.after))
        ∙ append_assoc (events w.before) (events w.after) (event.Close 1 ∷ []) in
        let parts : m ≡ (s.front ++ of_history (to.Close 1) ∷ []) ++ (s.since ++ s.rest) =
        s.parts ∙ append_assoc s.front tail s.rest ∙ sym (append_assoc s.front (of_history (to.Close 1) ∷ []) (s.since ++ s.rest)) in
        let run_so : IsRun (events (s.front ++ of_history (to.Close 1) ∷ [])) =
        fronts_are_runs (events (s.front ++ of_history (to.Close 1) ∷ [])) (events (s.since ++ s.rest)) (subst IsRun (ap events parts ∙ events_parts (s.front ++ of_history (to.Close 1) ∷ []) (s.since ++ s.rest)) run) in
        let passed = passed_on (events w.before) (events w.after ++ event.Close 1 ∷ []) 1 1 (subst IsRun until run_so) (drained_passed (state_at w.before) 1 1 said.0 said.1) in
        both_ways (has_root (state_at (s.front ++ of_history (to.Close 1) ∷ [])) 1 1) (ap (λ es. has_root (state_after es) 1 1) until ∙ passed.none) (s.stood [] s.since refl)

pub not_outdated : (m : List Member) → Merge m outdated → IsRun (events m) → Each IsDrainedAt m → Each (StoodOpenWhereSaid m) outdated.history → ⊥
not_outdated m merge run drained stood =
    stood_outdated m merge run drained (stood_since m told 1 1 run merge.by_nodes (each_at (StoodOpenWhereSaid m) told (drop 30 outdated.history) (to.Root 1 1) stood))
