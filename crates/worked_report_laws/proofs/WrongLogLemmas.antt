-- Wrong logs: two sinks have each other's, a map takes what wasn't sent, and more is said to have ended than did.
use Rattle.std.proofs.Common.{◌≡◌, ◌∙◌, ℕ, ◌+◌, ◌≤◌, Bool, true, false, not, ◌||◌, cond, List, [], ◌∷◌, ◌++◌, append_assoc, length, map, take, refl, sym, ap, subst, inl, inr, arith}
use Rattle.std.specs.Prelude.{◌==◌, ◌⊎◌, filter_map, nat_le, nat_lt, option_map}
use Rattle.std.specs.List.{count_by, list_all, list_any, range_with_len}
use Rattle.std.specs.Option.{option_map_or}
use Rattle.std.proofs.lemmas.Bool.{and_parts, both_ways, leb-true, ltb-true, or_left, or_right}
use Rattle.std.proofs.lemmas.List.{append-nil}
use Rattle.std.proofs.lemmas.List.Folds.{list_any-append}
use Rattle.std.proofs.lemmas.List.Sums.{sum_by-cons}
use Rattle.base.specs.Each.{Each}
use Rattle.base.proofs.ContainsLaws.{Contains-here}
use Rattle.base.proofs.EachLaws.{each_at}
use Rattle.base.proofs.MapLaws.{count_by-append}
use Rattle.base.proofs.PlaceLaws.{heads_are, parted_at}
use Rattle.base.proofs.RangeLaws.{all_in_range}
use Rattle.config_graph.specs.declared.node.Target.{Target}
use Rattle.quiesce_core.specs.Legal.{Legal}
use Rattle.quiesce_core.specs.Rules.{is_live_port}
use Rattle.quiesce_core.specs.Runs.{IsRun, done_by, is_begin_of, is_doer, state_after}
use Rattle.quiesce_core.specs.State.{Configuration, State, exchange, owner, target}
use Rattle.quiesce_core.specs.declared.event.Event.{Event}
use Rattle.quiesce_core.specs.declared.event.Event.TheVariants as event
use Rattle.quiesce_core.proofs.CarryLaws.{takes_carry_begins}
use Rattle.quiesce_core.proofs.InductionLaws.{place}
use Rattle.quiesce_core.proofs.RunLaws.{done_by_more, fronts_are_runs}
use Rattle.quiesce_laws.specs.Events.{is_take_of, ends_transaction}
use Rattle.quiesce_core.proofs.PortEventLaws.{next_serial}
use Rattle.quiesce_laws.proofs.OrderLaws.{begun_count, in_order, was_begun}
use Rattle.report_types.specs.declared.report.HistoryLine.TheVariants as to
use Rattle.report_types.specs.declared.report.Last.TheVariants as last
use Rattle.report_types.specs.declared.report.NodeLog.{NodeLog}
use Rattle.change_spec.specs.Lawful.{EndedSince, IsEndedAt, Merge}
use Rattle.change_spec.specs.Members.{Member, by_node, of_history, event_of, events}
use Rattle.change_spec.proofs.MemberLaws.{at_line, events_of_nodes, events_parts}
use Rattle.base.proofs.ListLaws.{count_by-some}
use Rattle.base.proofs.CountLaws.{counted_some}
use Rattle.worked_report_laws.specs.WrongLogs.{altered, hurried, swapped}
use Rattle.worked_report_laws.proofs.PlaceLemmas.{done_at, passes_there}

-- two sinks: port 1 never leads to the first

abbrev leads_elsewhere : Configuration → Bool
leads_elsewhere c = not (option_map_or (λ n. n == 2) (option_map (λ (t : Target). t.node) (target c 1)) false)

abbrev log_of_t : List Event
log_of_t = event.Take 1 1 1 ∷ event.Give 1 1 1 ∷ []

abbrev pub some_log : NodeLog
some_log = record { slot = 0; events = []; last = last.State [] }

never : (b : Bool) → not b ≡ true → b ≡ true → ⊥
never true h e = both_ways false refl h
never false h e = both_ways false refl e

pub not_swapped : (m : List Member) → Merge m swapped → ⊥
not_swapped m merge =
    let did : done_by 2 (events m) ≡ log_of_t = merge.logs 2 some_log (omega arith) in
    let w = done_at 2 (events m) log_of_t (event.Take 1 1 1) did (Contains-here (event.Take 1 1 1) (event.Give 1 1 1 ∷ [])) in
    let c = (state_after w.before).config in
    let there : leads_elsewhere c ≡ true =
    passes_there leads_elsewhere (filter_map event_of swapped.history) refl m merge.by_nodes (ap (filter_map event_of) merge.history) w.before (event.Take 1 1 1 ∷ w.after) w.parts in
    never (option_map_or (λ n. n == 2) (option_map (λ (t : Target). t.node) (target c 1)) false) there w.does

-- a map takes another value than its source sent

abbrev log_of_m : List Event
log_of_m =
    event.Take 1 1 1 ∷ event.Call 0 1 11 ∷ event.End 0 1 1 ∷ event.Give 1 1 1 ∷ event.Take 1 2 2 ∷ event.Call 0 2 12 ∷ event.End 0 2 1
    ∷ event.Give 1 2 1 ∷ event.Take 1 3 4 ∷ event.Call 0 3 14 ∷ event.End 0 3 1 ∷ event.Give 1 3 1 ∷ []

abbrev pub log_of_s : List Event
log_of_s = event.Begin 1 1 1 ∷ event.End 1 1 1 ∷ event.Begin 1 2 2 ∷ event.End 1 2 1 ∷ event.Begin 1 3 3 ∷ event.End 1 3 1 ∷ []

-- where the third transaction was begun the serial is 3 at least
pub begun_high : (n : ℕ) → 1 ≤ cond (was_begun n 3) 1 0 → 3 ≤ n
begun_high n h = by (nat_le 3 n) refl h
  where
    by : (b : Bool) → nat_le 3 n ≡ b → 1 ≤ cond b 1 0 → 3 ≤ n
    by true e k = leb-true 3 n e
    by false e k = absurd (omega (arith, k))

pub begun_before : (es : List Event) → IsRun es → list_any (is_begin_of 1 3) es ≡ true → 3 ≤ (exchange (state_after es) 1).serial
begun_before es run h =
    begun_high (exchange (state_after es) 1).serial (subst (λ n. 1 ≤ n) (begun_count es 1 3 run) (count_by-some (is_begin_of 1 3) es h))

-- it isn't taken before it was begun
not_before : (x z after : List Event) (v : ℕ) → IsRun ((x ++ event.Take 1 3 v ∷ z) ++ event.Begin 1 3 3 ∷ after) → ⊥
not_before x z after v run =
    let front = x ++ event.Take 1 3 v ∷ [] in
    let split : front ++ z ≡ x ++ event.Take 1 3 v ∷ z = append_assoc x (event.Take 1 3 v ∷ []) z in
    let before = x ++ event.Take 1 3 v ∷ z in
    let here = place before after (event.Begin 1 3 3) run in
    let front_run : IsRun front = fronts_are_runs front z (subst IsRun (sym split) here.run) in
    let order = in_order front 1 3 front_run in
    let taken : list_any (is_take_of 1 3) front ≡ true = list_any-append (is_take_of 1 3) x (event.Take 1 3 v ∷ []) ∙ or_right (list_any (is_take_of 1 3) x) true refl in
    let some_ : 1 ≤ count_by (is_begin_of 1 3) front = omega (arith, order.taken, count_by-some (is_take_of 1 3) front taken) in
    let begun : list_any (is_begin_of 1 3) before ≡ true =
    ap (list_any (is_begin_of 1 3)) (sym split) ∙ list_any-append (is_begin_of 1 3) front z
    ∙ or_left (list_any (is_begin_of 1 3) front) (list_any (is_begin_of 1 3) z) (counted_some (is_begin_of 1 3) front some_) in
    let high = begun_before before here.run begun in
    let next = next_serial (state_after before) 1 3 here.legal.next_serial in
    omega (arith, high, next)

abbrev is_take : Event → Bool
is_take (event.Take p k v) = true
is_take _ = false

pub not_altered : (m : List Member) → Merge m altered → IsRun (events m) → ⊥
not_altered m merge run =
    let begin = event.Begin 1 3 3 in
    let take_ = event.Take 1 3 4 in
    let did_m : done_by 0 (events m) ≡ log_of_m = merge.logs 0 some_log (omega arith) in
    let did_s : done_by 1 (events m) ≡ log_of_s = merge.logs 1 some_log (omega arith) in
    let a = done_at 1 (events m) log_of_s begin did_s (4, omega arith, refl) in
    let t = done_at 0 (events m) log_of_m take_ did_m (8, omega arith, refl) in
    by a.before a.after t.before t.after (parted_at a.before begin a.after t.before (take_ ∷ t.after) (sym a.parts ∙ t.parts)) (subst IsRun t.parts run) (subst IsRun a.parts run)
  where
    by : (x y b a : List Event) → ((z : List Event) × (b ≡ x ++ event.Begin 1 3 3 ∷ z)) ⊎ ((z : List Event) × (event.Take 1 3 4 ∷ a ≡ z ++ event.Begin 1 3 3 ∷ y) × (x ≡ b ++ z))
        → IsRun (b ++ event.Take 1 3 4 ∷ a) → IsRun (x ++ event.Begin 1 3 3 ∷ y) → ⊥
    by x y b a (inl (z, is)) taken begun =
        let same : 4 ≡ 3 = takes_carry_begins x z a 1 3 3 4 (subst (λ xs. IsRun (xs ++ event.Take 1 3 4 ∷ a)) is taken) in omega (arith, same)
    by x y b a (inr ([], is, front)) taken begun = both_ways true (ap is_take (heads_are (event.Take 1 3 4) (event.Begin 1 3 3) a y is)) refl
    by x y b a (inr (f ∷ z, is, front)) taken begun =
        let first : f ≡ event.Take 1 3 4 = sym (heads_are (event.Take 1 3 4) f a (z ++ event.Begin 1 3 3 ∷ y) is) in
        not_before b z y 4 (subst (λ g. IsRun ((b ++ g ∷ z) ++ event.Begin 1 3 3 ∷ y)) first (subst (λ xs. IsRun (xs ++ event.Begin 1 3 3 ∷ y)) front begun))

-- more is said to have ended than did: each end is in the log of one of the two sources

abbrev pub ends_by_sources : Configuration → Bool
ends_by_sources c = list_all (λ p. owner c p == 0 || owner c p == 1) (range_with_len 0 (length c.gates))

owned : (c : Configuration) (p : ℕ) → ends_by_sources c ≡ true → is_live_port c p ≡ true → (owner c p == 0 || owner c p == 1) ≡ true
owned c p h live =
    let low = ltb-true p (length c.gates) (and_parts (nat_lt p (length c.gates)) _ live).0 in
    all_in_range (λ q. owner c q == 0 || owner c q == 1) 0 (length c.gates) p h (omega arith) (omega (arith, low))

done_by_one : (s : State) (e : Event) → ends_by_sources s.config ≡ true → Legal s e → ends_transaction e ≡ true → (is_doer s 0 e || is_doer s 1 e) ≡ true
done_by_one s (event.End p k v) h l is = owned s.config p h l.live
done_by_one s _ h l is = absurd (both_ways false refl is)

-- the ends of what was done are not more than those of two nodes
abbrev pub AreFew : List Event → Type 0
AreFew es = count_by ends_transaction es ≤ count_by ends_transaction (done_by 0 es) + count_by ends_transaction (done_by 1 es)

one_more : (n : ℕ) (es : List Event) (e : Event) → count_by ends_transaction (done_by n (es ++ e ∷ [])) ≡ count_by ends_transaction (done_by n es) + count_by ends_transaction (cond (is_doer (state_after es) n e) (e ∷ []) [])
one_more n es e = ap (count_by ends_transaction) (done_by_more n es e) ∙ count_by-append ends_transaction (done_by n es) (cond (is_doer (state_after es) n e) (e ∷ []) [])

few_more : (es : List Event) (e : Event) → ((ends_transaction e ≡ true) → (is_doer (state_after es) 0 e || is_doer (state_after es) 1 e) ≡ true) → AreFew es → AreFew (es ++ e ∷ [])
few_more es e does few =
    let s = state_after es in
    let whole = count_by-append ends_transaction es (e ∷ []) in
    by (ends_transaction e) (is_doer s 0 e) (is_doer s 1 e) refl does (one_more 0 es e) (one_more 1 es e) whole
  where
    one : (b : Bool) → ends_transaction e ≡ b → count_by ends_transaction (e ∷ []) ≡ cond b 1 0
    one b h = sum_by-cons (λ x. cond (ends_transaction x) 1 0) e [] ∙ ap (λ c. cond c 1 0 + 0) h ∙ flat b
      where
        flat : (c : Bool) → cond c 1 0 + 0 ≡ cond c 1 0
        flat true = omega arith
        flat false = omega arith

    by : (b d0 d1 : Bool) → ends_transaction e ≡ b → (b ≡ true → (d0 || d1) ≡ true)
        → count_by ends_transaction (done_by 0 (es ++ e ∷ [])) ≡ count_by ends_transaction (done_by 0 es) + count_by ends_transaction (cond d0 (e ∷ []) [])
        → count_by ends_transaction (done_by 1 (es ++ e ∷ [])) ≡ count_by ends_transaction (done_by 1 es) + count_by ends_transaction (cond d1 (e ∷ []) [])
        → count_by ends_transaction (es ++ e ∷ []) ≡ count_by ends_transaction es + count_by ends_transaction (e ∷ []) → AreFew (es ++ e ∷ [])
    by false d0 d1 h does a b w = omega (arith, few, a, b, w, one false h)
    by true true d1 h does a b w = omega (arith, few, a, b, w, one true h)
    by true false true h does a b w = omega (arith, few, a, b, w, one true h)
    by true false false h does a b w = absurd (both_ways false refl (does refl))

pub few_behind : (whole : List Event) → IsRun whole → ((before after : List Event) → whole ≡ before ++ after → ends_by_sources (state_after before).config ≡ true)
    → (xs es : List Event) → whole ≡ xs ++ es → AreFew xs → AreFew (xs ++ es)
few_behind whole run there xs [] is few = subst AreFew (sym (append-nil xs)) few
few_behind whole run there xs (e ∷ es) is few =
    let here = place xs es e (subst IsRun is run) in
    subst AreFew (append_assoc xs (e ∷ []) es)
    (few_behind whole run there (xs ++ e ∷ []) es (is ∙ sym (append_assoc xs (e ∷ []) es))
    (few_more xs e (λ ends. done_by_one (state_after xs) e (there xs (e ∷ es) is) here.legal ends) few))

pub not_hurried : (m : List Member) → Merge m hurried → IsRun (events m) → Each IsEndedAt m → ⊥
not_hurried m merge run each =
    let w = at_line m (take 10 hurried.history) (to.Run 1 3) (to.Stop ∷ to.Close 0 ∷ to.Close 1 ∷ to.Drained 0 1 ∷ to.Drained 1 1 ∷ []) merge.history in
    let said : EndedSince w.before 3 = each_at IsEndedAt w.before w.after (of_history (to.Run 1 3)) (subst (Each IsEndedAt) w.parts each) in
    let few : AreFew (events m) = few_behind (events m) run
    (λ before after is. passes_there ends_by_sources (filter_map event_of hurried.history) refl m merge.by_nodes (ap (filter_map event_of) merge.history) before after is)
    [] (events m) refl (omega arith) in
    let did_a : done_by 0 (events m) ≡ event.Begin 0 1 1 ∷ event.End 0 1 1 ∷ [] = merge.logs 0 some_log (omega arith) in
    let did_b : done_by 1 (events m) ≡ event.Begin 1 1 1 ∷ event.End 1 1 1 ∷ [] = merge.logs 1 some_log (omega arith) in
    let a : count_by ends_transaction (done_by 0 (events m)) ≡ 1 = ap (count_by ends_transaction) did_a in
    let b : count_by ends_transaction (done_by 1 (events m)) ≡ 1 = ap (count_by ends_transaction) did_b in
    let front : events w.before ≡ events said.front ++ said.later = ap events said.parts ∙ events_parts said.front (map by_node said.later) ∙ ap (λ xs. events said.front ++ xs) (events_of_nodes said.later) in
    let in_front = ap (count_by ends_transaction) front ∙ count_by-append ends_transaction (events said.front) said.later in
    let in_all = ap (count_by ends_transaction) (ap events w.parts ∙ events_parts w.before (of_history (to.Run 1 3) ∷ w.after)) ∙ count_by-append ends_transaction (events w.before) (events (of_history (to.Run 1 3) ∷ w.after)) in
    omega (arith, said.enough, few, a, b, in_front, in_all)
