-- The events of a transaction stand in the logs of the two nodes that it engages.
use Rattle.std.proofs.Common.{◌≡◌, ◌∙◌, ℕ, zero, suc, ◌+◌, ◌<◌, ◌≤◌, Bool, true, false, cond, ◌||◌, List, [], ◌∷◌, ◌++◌, length, map, Some, refl, sym, ap, subst, ⊎_elim, arith}
use Rattle.std.specs.Prelude.{◌==◌, filter, nat_lt}
use Rattle.std.specs.List.{count_by, list_any, range_with_len}
use Rattle.std.proofs.lemmas.Bool.{and_parts, both_ways, cases_eq, eq-eqb, eqb-true, or_left, or_right}
use Rattle.std.proofs.lemmas.Option.{slice_get_within}
use Rattle.base.proofs.MapLaws.{list_any-map}
use Rattle.base.proofs.OptionLaws.{option_map_some}
use Rattle.config_graph.specs.declared.node.Target.{Target}
use Rattle.quiesce_core.specs.Doers.{is_of_change}
use Rattle.quiesce_core.specs.Legal.{Legal}
use Rattle.quiesce_core.specs.Rules.{is_live_port}
use Rattle.quiesce_core.specs.Runs.{Begun, IsRun, done_by, initiator, is_begin_of, is_end_of, state_after, target_at_begin}
use Rattle.quiesce_core.specs.State.{Configuration, State, is_live, owner, slot, target}
use Rattle.quiesce_core.specs.declared.event.Event.{Event}
use Rattle.quiesce_core.specs.declared.event.Event.TheVariants as event
use Rattle.quiesce_core.proofs.EngagedLaws.{targets_are_engaged}
use Rattle.quiesce_core.proofs.InductionLaws.{place}
use Rattle.quiesce_core.proofs.TableLaws.{live_made}
use Rattle.quiesce_laws.specs.Events.{is_ask_of, is_give_of, is_hear_of, is_more_of, is_of_initiator, is_of_target, is_take_of}
use Rattle.quiesce_laws.proofs.ExtensionLaws.{extends_further}
use Rattle.report_types.specs.declared.report.NodeLog.{NodeLog}
use Rattle.report_types.specs.declared.report.Report.{Report}
use Rattle.change_spec.specs.Lawful.{EndsOnce, IsLawfulBy, IsLogIn, Merge}
use Rattle.change_spec.specs.Members.{Member, events}
use Rattle.change_spec.specs.Statements.{Statement}
use Rattle.change_spec.proofs.MemberLaws.{changes_are_lines, config_of_lines, events_without_roots}
use Rattle.change_round_laws.specs.Engaged.{HasItsPart, HasLog, IsInTwoLogs, in_log}
use Rattle.change_round_laws.proofs.AloneLaws.{changes_run}
use Rattle.change_round_laws.proofs.LineLaws.{changes, config_of}
use Rattle.change_round_laws.proofs.RoundLaws.{made_lines, slots_made}

-- ---- an event that passes has its place

record Place (test : Event → Bool) (es : List Event) : Type 0 where
  before : List Event
  here : Event
  after : List Event
  parts : es ≡ before ++ here ∷ after
  passes : test here ≡ true

place_of : (test : Event → Bool) (es : List Event) → list_any test es ≡ true → Place test es
place_of test [] h = absurd (both_ways false refl h)
place_of test (e ∷ es) h = by (test e) refl h (place_of test es)
  where
    by : (b : Bool) → test e ≡ b → (b || list_any test es) ≡ true → (list_any test es ≡ true → Place test es) → Place test (e ∷ es)
    by true passes h later = record { before = []; here = e; after = es; parts = refl; passes = passes }
    by false fails h later = let w = later h in record { before = e ∷ w.before; here = w.here; after = w.after; parts = ap (λ xs. e ∷ xs) w.parts; passes = w.passes }

begun_at : (es : List Event) (p k : ℕ) → list_any (is_begin_of p k) es ≡ true → Begun es p k
begun_at es p k h = let w = place_of (is_begin_of p k) es h in record { before = w.before; event = w.here; after = w.after; parts = w.parts; begins = w.passes }

-- ---- both nodes were made

live_at_begin : (s : State) (e : Event) (p k : ℕ) → Legal s e → is_begin_of p k e ≡ true → is_live_port s.config p ≡ true
live_at_begin s (event.Begin q j v) p k l h = ap (is_live_port s.config) (sym (eqb-true q p (and_parts (q == p) (j == k) h).0)) ∙ l.live
live_at_begin s (event.Call q j v) p k l h = ap (is_live_port s.config) (sym (eqb-true q p (and_parts (q == p) (j == k) h).0)) ∙ l.live
live_at_begin s _ p k l h = absurd (both_ways false refl h)

-- what was made is there later
made_later : (es more_ : List Event) (n : ℕ) → IsRun (es ++ more_) → n < length (state_after es).config.slots → n < length (state_after (es ++ more_)).config.slots
made_later es more_ n run made =
    let there = Rattle.base.proofs.PlaceLaws.slice_get-there (state_after es).config.slots n made in
    let later = (extends_further es more_ run).nodes n there.0 there.1 in
    slice_get_within (state_after (es ++ more_)).config.slots n later.now later.there

module _ (es : List Event) (p k : ℕ) (b : Begun es p k) (run : IsRun es) where
  run_split : IsRun (b.before ++ b.event ∷ b.after)
  run_split = subst IsRun b.parts run

  by_end : (n : ℕ) → n < length (state_after b.before).config.slots → n < length (state_after es).config.slots
  by_end n low = subst (λ xs. n < length (state_after xs).config.slots) (sym b.parts) (made_later b.before (b.event ∷ b.after) n run_split low)

  initiator_made : initiator es p k b < length (state_after es).config.slots
  initiator_made =
      let here = place b.before b.after b.event run_split in
      let s = state_after b.before in
      let live = and_parts (nat_lt p (length s.config.gates)) (is_live s.config (owner s.config p)) (live_at_begin s b.event p k here.legal b.begins) in
      by_end (owner s.config p) (live_made s.config (owner s.config p) live.1)

  target_made : (n : ℕ) → target_at_begin es p k b ≡ Some n → n < length (state_after es).config.slots
  target_made n is =
      let here = place b.before b.after b.event run_split in
      let s = state_after b.before in
      let t = option_map_some (λ (t : Target). t.node) (target s.config p) n is in
      let live = (here.well.sound.targets p t.0 t.1).live in
      by_end n (subst (λ i. i < length s.config.slots) t.2 (live_made s.config t.0.node live))

-- ---- the logs are those of the slots that were made

slots_of_logs : (m : List Member) (report : Report) → Merge m report → IsRun (events m) → map (λ (l : NodeLog). l.slot) report.logs ≡ range_with_len 0 (length (state_after (events m)).config.slots)
slots_of_logs m report merge run =
    let h = report.history in
    let all : filter is_of_change (events m) ≡ changes h = changes_are_lines m merge.by_nodes ∙ ap changes merge.history ∙ events_without_roots h in
    let run_so : IsRun (changes h) = subst IsRun all (changes_run (events m) run) in
    let same : (state_after (changes h)).config ≡ (state_after (events m)).config =
    sym (config_of_lines m merge.by_nodes ∙ config_told m report merge) in
    merge.one_log_a_node ∙ sym (made_lines h) ∙ slots_made (changes h) run_so ∙ ap (λ (c : Configuration). range_with_len 0 (length c.slots)) same
  where
    config_told : (m : List Member) (report : Report) (merge : Merge m report) → Rattle.change_spec.specs.Scene.config_after (Rattle.change_spec.specs.Members.lines m) ≡ (state_after (changes report.history)).config
    config_told m report merge =
        ap Rattle.change_spec.specs.Scene.config_after merge.history
        ∙ ap (Rattle.quiesce_laws.specs.Steps.change_all Rattle.quiesce_core.specs.State.empty.config) (events_without_roots report.history) ∙ sym (config_of report.history)

in_range : (n a i : ℕ) → a ≤ i → i < a + n → list_any (λ k. k == i) (range_with_len a n) ≡ true
in_range zero a i low high = absurd (omega (arith, low, high))
in_range (suc n) a i low high = ⊎_elim
    (λ (here : a ≡ i). or_left (a == i) (list_any (λ k. k == i) (range_with_len (a + 1) n)) (eq-eqb a i here))
    (λ (other : a ≡ i → ⊥). or_right (a == i) (list_any (λ k. k == i) (range_with_len (a + 1) n)) (in_range n (a + 1) i (omega (arith, low, other)) (omega (arith, high))))
    (cases_eq a i)

has_log : (m : List Member) (report : Report) → Merge m report → IsRun (events m) → (n : ℕ) → n < length (state_after (events m)).config.slots → HasLog report n
has_log m report merge run n made =
    sym (list_any-map (λ k. k == n) (λ (l : NodeLog). l.slot) report.logs)
    ∙ ap (list_any (λ k. k == n)) (slots_of_logs m report merge run) ∙ in_range (length (state_after (events m)).config.slots) 0 n (omega arith) (omega (arith, made))

-- ---- how often the events stand in a log

abbrev OfInitiator : Type 0
OfInitiator = (es : List Event) (p k : ℕ) (b : Begun es p k) (n : ℕ) (test : Event → Bool) → IsRun es
    → ((e : Event) → test e ≡ true → (is_begin_of p k e || is_of_initiator p k e) ≡ true)
    → count_by test (done_by n es) ≡ cond (initiator es p k b == n) (count_by test es) 0

abbrev OfTarget : Type 0
OfTarget = (es : List Event) (p k : ℕ) (b : Begun es p k) (m n : ℕ) (test : Event → Bool) → IsRun es → target_at_begin es p k b ≡ Some m
    → ((e : Event) → test e ≡ true → is_of_target p k e ≡ true)
    → count_by test (done_by n es) ≡ cond (m == n) (count_by test es) 0

begins_so : (p k : ℕ) (e : Event) → is_begin_of p k e ≡ true → (is_begin_of p k e || is_of_initiator p k e) ≡ true
begins_so p k e h = or_left (is_begin_of p k e) (is_of_initiator p k e) h

ends_so : (p k : ℕ) (e : Event) → is_end_of p k e ≡ true → (is_begin_of p k e || is_of_initiator p k e) ≡ true
ends_so p k (event.End q j v) h = h
ends_so p k _ h = absurd (both_ways false refl h)

asks_so : (p k : ℕ) (e : Event) → is_ask_of p k e ≡ true → (is_begin_of p k e || is_of_initiator p k e) ≡ true
asks_so p k (event.Ask q j v) h = h
asks_so p k _ h = absurd (both_ways false refl h)

takes_so : (p k : ℕ) (e : Event) → is_take_of p k e ≡ true → is_of_target p k e ≡ true
takes_so p k (event.Take q j v) h = h
takes_so p k _ h = absurd (both_ways false refl h)

gives_so : (p k : ℕ) (e : Event) → is_give_of p k e ≡ true → is_of_target p k e ≡ true
gives_so p k (event.Give q j v) h = h
gives_so p k _ h = absurd (both_ways false refl h)

replies_so : (p k : ℕ) (e : Event) → is_more_of p k e ≡ true → is_of_target p k e ≡ true
replies_so p k (event.More q j v) h = h
replies_so p k _ h = absurd (both_ways false refl h)

hears_so : (p k : ℕ) (e : Event) → is_hear_of p k e ≡ true → is_of_target p k e ≡ true
hears_so p k (event.Hear q j v) h = h
hears_so p k _ h = absurd (both_ways false refl h)

module _ (by_initiator : OfInitiator) (by_target : OfTarget) (m : List Member) (report : Report) (merge : Merge m report) (run : IsRun (events m)) (p k : ℕ) (once : EndsOnce (events m) p k) (b : Begun (events m) p k)
    (to : ℕ) (leads : target_at_begin (events m) p k b ≡ Some to) where
  abbrev es : List Event
  es = events m

  abbrev own : ℕ
  own = initiator es p k b

  abbrev replies : ℕ
  replies = count_by (is_more_of p k) es

  sent : (l : NodeLog) → IsLogIn m l → (test : Event → Bool) (many : ℕ) → ((e : Event) → test e ≡ true → (is_begin_of p k e || is_of_initiator p k e) ≡ true) → count_by test es ≡ many
      → count_by test l.events ≡ in_log own l many
  sent l is test many so all = ap (count_by test) (sym is) ∙ by_initiator es p k b l.slot test run so ∙ ap (λ c. cond (own == l.slot) c 0) all

  met : (l : NodeLog) → IsLogIn m l → (test : Event → Bool) (many : ℕ) → ((e : Event) → test e ≡ true → is_of_target p k e ≡ true) → count_by test es ≡ many
      → count_by test l.events ≡ in_log to l many
  met l is test many so all = ap (count_by test) (sym is) ∙ by_target es p k b to l.slot test run leads so ∙ ap (λ c. cond (to == l.slot) c 0) all

  its_part : (l : NodeLog) → IsLogIn m l → HasItsPart own to replies p k l
  its_part l is = record {
    begun = sent l is (is_begin_of p k) 1 (begins_so p k) once.begun;
    asked = sent l is (is_ask_of p k) replies (asks_so p k) once.asked;
    ended = sent l is (is_end_of p k) 1 (ends_so p k) once.ended;
    taken = met l is (is_take_of p k) 1 (takes_so p k) once.taken;
    replied = met l is (is_more_of p k) replies (replies_so p k) refl;
    heard = met l is (is_hear_of p k) replies (hears_so p k) once.heard;
    given = met l is (is_give_of p k) 1 (gives_so p k) once.given;
  }

  in_two : IsInTwoLogs m report p k
  in_two = record {
    begun = b;
    target = to;
    leads = leads;
    replies = replies;
    of_initiator = has_log m report merge run own (initiator_made es p k b run);
    of_target = has_log m report merge run to (target_made es p k b run to leads);
    logs = λ i d low. its_part _ (merge.logs i d low);
  }

pub in_two_logs : OfInitiator → OfTarget → (statements : List Statement) (report : Report) (m : List Member) → IsLawfulBy statements report m → (p k : ℕ) → list_any (is_begin_of p k) (events m) ≡ true → IsInTwoLogs m report p k
in_two_logs by_initiator by_target statements report m by p k h =
    let b = begun_at (events m) p k h in
    let t = targets_are_engaged (events m) p k b by.runs in
    in_two by_initiator by_target m report by.merge by.runs p k (by.ended_once p k h) b t.0 t.1
