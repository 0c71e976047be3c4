-- A stop comes to an end in rounds: behind the first round each moves while a transaction is open, none begins, and as many events are
-- left as what is open has.
use Rattle.std.proofs.Common.{◌≡◌, ◌∙◌, ℕ, zero, suc, ◌+◌, ◌≤◌, Bool, true, false, not, ◌&&◌, ◌||◌, List, [], ◌∷◌, ◌++◌, length, map, refl, sym, ap, subst, ⊎_elim, inl, arith}
use Rattle.std.specs.Prelude.{◌==◌, All, is_some}
use Rattle.std.specs.List.{count_by, list_any}
use Rattle.std.proofs.lemmas.Bool.{both_ways, cases_Bool, not-true}
use Rattle.std.proofs.lemmas.List.{length-append}
use Rattle.std.proofs.lemmas.List.Elements.{All-head, All-tail}
use Rattle.base.proofs.MapLaws.{count_by-append}
use Rattle.quiesce_laws.specs.Lists.{In}
use Rattle.quiesce_laws.specs.Advances.{is_advance, is_begin}
use Rattle.quiesce_word.specs.Phases.{is_idle}
use Rattle.quiesce_core.specs.Doers.{is_of_change}
use Rattle.quiesce_core.specs.Rest.{rest}
use Rattle.quiesce_core.specs.Runs.{IsRun, state_after}
use Rattle.quiesce_core.specs.State.{exchange, gate}
use Rattle.quiesce_core.specs.declared.event.Event.{Event}
use Rattle.quiesce_core.specs.declared.event.Event.TheVariants as event
use Rattle.quiesce_laws.specs.Drained.{is_drained}
use Rattle.node_turn_laws.specs.Posted.{ArePosted}
use Rattle.node_turn_laws.proofs.PostedLaws.{posted_behind_round}
use Rattle.node_turn_laws.specs.Reached.{IsReached}
use Rattle.node_turn_laws.specs.Round.{after_rounds, round, stands_still}
use Rattle.node_turn_laws.specs.World.{World}
use Rattle.report_types.specs.declared.report.HistoryLine.{HistoryLine}
use Rattle.report_types.specs.declared.report.HistoryLine.TheVariants as to
use Rattle.change_spec.specs.Lawful.{IsOfItsKind}
use Rattle.change_spec.specs.Members.{Member, by_node, of_history, lines_of_events}
use Rattle.quiesce_laws.specs.Steps.{live_ports}
use Rattle.quiesce_laws.proofs.GateLaws.{live_listed}
use Rattle.change_spec.specs.Serial.{after_changes, looks_after}
use Rattle.change_spec.proofs.MemberLaws.{events_of_nodes, events_parts}
use Rattle.base.proofs.ListLaws.{count_by-some, all_parts}
use Rattle.change_round_laws.specs.Courses.{Course}
use Rattle.change_round_laws.specs.Existing.{StopsEnd}
use Rattle.change_round_laws.proofs.ClosingLaws.{shut, shut_at}
use Rattle.change_round_laws.proofs.CourseLaws.{course_run, with_rounds}
use Rattle.change_round_laws.proofs.EndingRoundLaws.{rounds_long, some_or_none}
use Rattle.change_round_laws.proofs.LookLaws.{looked}
use Rattle.change_round_laws.proofs.BeginLemmas.{rounds_begin_none}
use Rattle.change_round_laws.proofs.CourseLemmas.{course_of, members_of}

-- what node_turn_laws and quiesce_laws say
abbrev pub StillIsIdle : Type 0
StillIsIdle = (w : World) (allowed : Bool) → IsReached w → ArePosted w → (round allowed w).moved ≡ false → (p : ℕ) → is_idle (exchange w.machine p).phase ≡ true

abbrev pub RestBounds : Type 0
RestBounds = (es more_ : List Event) → IsRun (es ++ more_) → list_any is_begin more_ ≡ false → count_by is_advance more_ ≤ rest (state_after es)

-- events of nodes among which nothing begins are all of what is open

advance_or_begin : (e : Event) → is_of_change e ≡ false → count_by is_advance (e ∷ []) + count_by is_begin (e ∷ []) ≡ 1
advance_or_begin (event.Begin p k v) h = refl
advance_or_begin (event.Call p k v) h = refl
advance_or_begin (event.Take p k v) h = refl
advance_or_begin (event.Give p k v) h = refl
advance_or_begin (event.End p k v) h = refl
advance_or_begin (event.More p k v) h = refl
advance_or_begin (event.Ask p k v) h = refl
advance_or_begin (event.Hear p k v) h = refl
advance_or_begin (event.Miss p) h = refl
advance_or_begin (event.Close p) h = absurd (both_ways true h refl)
advance_or_begin (event.Reopen p) h = absurd (both_ways true h refl)
advance_or_begin (event.Make n node from) h = absurd (both_ways true h refl)
advance_or_begin (event.Link p n x) h = absurd (both_ways true h refl)
advance_or_begin (event.Unlink p) h = absurd (both_ways true h refl)
advance_or_begin (event.Remove n) h = absurd (both_ways true h refl)

advances_or_begins : (es : List Event) → All IsOfItsKind (map by_node es) → count_by is_advance es + count_by is_begin es ≡ length es
advances_or_begins [] h = refl
advances_or_begins (e ∷ es) h =
    let here = advance_or_begin e (All-head IsOfItsKind (by_node e) (map by_node es) h) in
    let later = advances_or_begins es (All-tail IsOfItsKind (by_node e) (map by_node es) h) in
    omega (arith, here, later, count_by-append is_advance (e ∷ []) es, count_by-append is_begin (e ∷ []) es)

none_begins : (es : List Event) → count_by is_begin es ≡ 0 → list_any is_begin es ≡ false
none_begins es none = ⊎_elim
    (λ (h : list_any is_begin es ≡ true). let some_ = count_by-some is_begin es h in absurd (omega (arith, none, some_)))
    (λ (h : list_any is_begin es ≡ false). h)
    (cases_Bool (list_any is_begin es))

-- rounds behind the first

abbrev behind_first : World → ℕ → World
behind_first w i = after_rounds false w (suc i)

same_rounds : (w : World) (i : ℕ) → after_rounds false (after_rounds false w 1) i ≡ after_rounds false w (suc i)
same_rounds w zero = refl
same_rounds w (suc i) = ap (λ v. (round false v).world) (same_rounds w i)

module _ (rest_bounds : RestBounds) (history : List HistoryLine) (w : World) (m : List Member) (c : Course history w m) where
  -- so many events may come at most
  abbrev bound : World → ℕ
  bound u = rest (state_after u.events)

  few_events : (j : ℕ) → length (after_rounds false w j).events ≤ length w.events + rest (state_after w.events)
  few_events j =
      let v = after_rounds false w j in
      let went = with_rounds history false w m j c in
      let es = went.later in
      let whole : v.events ≡ w.events ++ es =
      sym went.course.events_are ∙ events_parts m (map by_node es) ∙ (λ i. c.events_are i ++ events_of_nodes es i) in
      let kinds = (all_parts IsOfItsKind m (map by_node es) went.course.kinds).1 in
      let none : count_by is_begin es ≡ 0 =
      let before = rounds_begin_none w j in let all = ap (count_by is_begin) whole ∙ count_by-append is_begin w.events es in omega (arith, before, all) in
      let run : IsRun (w.events ++ es) = subst IsRun whole (course_run history v (m ++ map by_node es) went.course) in
      let few = rest_bounds w.events es run (none_begins es none) in
      let parts = advances_or_begins es kinds in
      let long = ap (λ (xs : List Event). length xs) whole ∙ length-append w.events es in
      omega (arith, few, parts, none, long)

-- a round behind the first moves nothing

abbrev is_still : World → ℕ → Bool
is_still w i = not (round false (behind_first w i)).moved

still_behind : (w : World) (n : ℕ) → ((i : ℕ) → i ≤ n → is_still w i ≡ false) → (i : ℕ) → i ≤ suc n → stands_still false (after_rounds false w 1) i ≡ false
still_behind w n h zero low = refl
still_behind w n h (suc i) low = ap (λ v. not (round false v).moved) (same_rounds w i) ∙ h i (omega (arith, low))

stands : RestBounds → (history : List HistoryLine) (w : World) (m : List Member) → Course history w m → (i : ℕ) × (is_still w i ≡ true)
stands rest_bounds history w m c =
    let first = with_rounds history false w m 1 c in
    let u = after_rounds false w 1 in
    let n = rest (state_after u.events) in
    ⊎_elim
    (λ (found : (i : ℕ) × (is_still w i ≡ true)). found)
    (λ (none : (i : ℕ) → i ≤ n → is_still w i ≡ false).
    let long = rounds_long false u (suc n) (still_behind w n none) in
    let few = few_events rest_bounds history u (m ++ map by_node first.later) first.course (suc n) in
    absurd (omega (arith, long, few)))
    (some_or_none (is_still w) n)

none_in : (xs : List ℕ) → ((p : ℕ) → In xs p → ⊥) → (length xs == 0) ≡ true
none_in [] h = refl
none_in (x ∷ xs) h = absurd (h x (inl refl))

pub stops_end : StillIsIdle → RestBounds → StopsEnd
stops_end still_is_idle rest_bounds w r =
    let ports = live_ports w.machine.config in
    let c = course_of w r in
    let live = live_listed w.machine.config in
    let history = lines_of_events w.events in
    let m = members_of w.events in
    let waiting = after_changes w (map event.Close ports) in
    let shut_so = shut history w m c ports live in
    let found = stands rest_bounds (history ++ map to.Close ports) waiting (m ++ map of_history (map to.Close ports)) shut_so in
    let j = suc found.0 in
    let v = after_rounds false waiting j in
    let l = looked (history ++ map to.Close ports) waiting (m ++ map of_history (map to.Close ports)) ports j shut_so in
    let before = with_rounds (history ++ map to.Close ports) false waiting (m ++ map of_history (map to.Close ports)) found.0 shut_so in
    let posted : ArePosted v = posted_behind_round (after_rounds false waiting found.0) false before.course.reached in
    let idle = still_is_idle v false l.course.reached posted (not-true (round false v).moved found.1) in (
      j,
      none_in (looks_after waiting ports j).left
          (λ p i.
          let closed : (gate v.machine.config p).closed ≡ true = ap (λ d. (gate d p).closed) l.config ∙ shut_at history w m c ports live p (l.listed p i) in
          let drained : is_drained v.machine p ≡ true = (λ k. closed k && (idle p k || is_some (exchange v.machine p).within)) in
          both_ways (is_drained v.machine p) (l.undrained p i) drained),
    )
