-- A root that stands open at a closed port stood open since the port's last close.
use Rattle.std.proofs.Common.{◌≡◌, ◌∙◌, ◌⊎◌, inl, inr, ℕ, ◌<◌, Bool, true, false, not, ◌&&◌, ◌||◌, cond, List, [], ◌∷◌, ◌++◌, append_assoc, length, Option, Some, None, refl, sym, ap, subst, ⊎_elim, arith}
use Rattle.std.specs.Prelude.{◌==◌, ◌+◌, nat_le, nat_lt, is_some, All}
use Rattle.std.specs.List.{cons_option, list_any}
use Rattle.std.proofs.lemmas.Bool.{and_from, and_parts, both_ways, cases_Bool, eqb-true, leb-true, not-true, not_from_false}
use Rattle.std.proofs.lemmas.List.{append-nil}
use Rattle.std.proofs.lemmas.List.Elements.{All-head}
use Rattle.std.proofs.lemmas.Option.{same_Some}
use Rattle.base.proofs.PlaceLaws.{heads_are, tails_are}
use Rattle.base.proofs.ListLaws.{all_parts, none_both}
use Rattle.config_graph.specs.Kinds.{row}
use Rattle.quiesce_word.specs.Phases.{is_idle}
use Rattle.quiesce_core.specs.Alters.{gate_next}
use Rattle.quiesce_core.specs.Doers.{is_of_change}
use Rattle.quiesce_core.specs.Effect.{effect}
use Rattle.quiesce_core.specs.Legal.{Legal}
use Rattle.quiesce_core.specs.Runs.{IsRun, state_after}
use Rattle.quiesce_core.specs.State.{State, exchange, gate}
use Rattle.quiesce_core.specs.Traffic.{IsConsistent}
use Rattle.quiesce_core.specs.WellFormed.{IsWellFormed}
use Rattle.quiesce_core.specs.declared.event.Event.{Event}
use Rattle.quiesce_core.specs.declared.event.Event.TheVariants as event
use Rattle.quiesce_core.specs.declared.state.Exchange.{Exchange}
use Rattle.quiesce_core.specs.declared.state.Gate.{Gate}
use Rattle.quiesce_core.proofs.AlterLaws.{reconfigured}
use Rattle.quiesce_core.proofs.InductionLaws.{IsNext, always, place}
use Rattle.quiesce_core.proofs.RunLaws.{fronts_are_runs}
use Rattle.quiesce_core.proofs.StabilityLaws.{busy_is_live}
use Rattle.quiesce_core.proofs.TableLaws.{gate_place}
use Rattle.quiesce_laws.specs.Events.{reopens}
use Rattle.quiesce_laws.specs.Roots.{has_root}
use Rattle.quiesce_laws.proofs.ExchangeLaws.{PortStep, begins, calls, ends, port_step, stays}
use Rattle.quiesce_laws.proofs.RootLaws.{closed_stays, root_since, closed_by, root_parts}
use Rattle.report_types.specs.declared.report.HistoryLine.{HistoryLine}
use Rattle.report_types.specs.declared.report.HistoryLine.TheVariants as to
use Rattle.change_spec.specs.Lawful.{IsOfItsKind, StoodOpen}
use Rattle.change_spec.specs.Members.{Member, by_node, of_history, event_in, event_of, events, lines}
use Rattle.change_spec.specs.Roots.{StoodSinceClose}
use Rattle.change_spec.proofs.MemberLaws.{events_parts}

-- ---- the last close of a port

record LastClose (es : List Event) (p : ℕ) : Type 0 where
  before : List Event
  after : List Event
  parts : es ≡ before ++ event.Close p ∷ after
  kept : list_any (reopens p) after ≡ false

-- a port that was made is closed after an event where it was so before, or by this event
record WasClosed (s : State) (e : Event) (p : ℕ) : Type 0 where
  before : (gate s.config p).closed ≡ true
  kept : reopens p e ≡ false

was_closed : (s : State) (e : Event) (p : ℕ) → Legal s e → p < length s.config.gates → (gate (effect s e).config p).closed ≡ true → (e ≡ event.Close p) ⊎ WasClosed s e p
was_closed s e p l made shut = by e (sym (ap (λ (g : Gate). g.closed) ((reconfigured s e l).gates p)) ∙ shut)
  where
    still : (e : Event) → reopens p e ≡ false → (gate s.config p).closed ≡ true → (e ≡ event.Close p) ⊎ WasClosed s e p
    still e free before = inr (record { before = before; kept = free })

    old : (b : Bool) (g h : Gate) → b ≡ false → (cond b g h).closed ≡ true → h.closed ≡ true
    old true g h off shut = absurd (both_ways true off refl)
    old false g h off shut = shut

    -- the gate is written, and closed as it was
    same : (b : Bool) (g h : Gate) → g.closed ≡ h.closed → (cond b g h).closed ≡ true → h.closed ≡ true
    same true g h is shut = sym is ∙ shut
    same false g h is shut = shut

    by : (e : Event) → (gate_next s.config p e).closed ≡ true → (e ≡ event.Close p) ⊎ WasClosed s e p
    by (event.Close q) h = ⊎_elim
        (λ (here : (q == p) ≡ true). inl (ap event.Close (eqb-true q p here)))
        (λ (off : (q == p) ≡ false). still (event.Close q) refl (old (q == p) _ (gate s.config p) off h))
        (cases_Bool (q == p))
    by (event.Reopen q) h = ⊎_elim
        (λ (here : (q == p) ≡ true). absurd (both_ways false refl (sym (ap (λ b. (cond b (record (gate s.config p) { closed = false }) (gate s.config p)).closed) here) ∙ h)))
        (λ (off : (q == p) ≡ false). still (event.Reopen q) off (old (q == p) _ (gate s.config p) off h))
        (cases_Bool (q == p))
    by (event.Make n node from) h = ⊎_elim
        (λ (new : (nat_le (length s.config.gates) p && nat_lt p (length s.config.gates + length (row node.kind).requires_)) ≡ true).
        let high = leb-true (length s.config.gates) p (and_parts (nat_le (length s.config.gates) p) (nat_lt p (length s.config.gates + length (row node.kind).requires_)) new).0 in
        absurd (omega (arith, made, high)))
        (λ (off : (nat_le (length s.config.gates) p && nat_lt p (length s.config.gates + length (row node.kind).requires_)) ≡ false).
        still (event.Make n node from) refl (old (nat_le (length s.config.gates) p && nat_lt p (length s.config.gates + length (row node.kind).requires_)) _ (gate s.config p) off h))
        (cases_Bool (nat_le (length s.config.gates) p && nat_lt p (length s.config.gates + length (row node.kind).requires_)))
    by (event.Link q n x) h = still (event.Link q n x) refl (same (q == p) _ (gate s.config p) refl h)
    by (event.Unlink q) h = still (event.Unlink q) refl (same (q == p) _ (gate s.config p) refl h)
    by (event.Remove n) h = still (event.Remove n) refl h
    by (event.Begin q k v) h = still (event.Begin q k v) refl h
    by (event.Call q k v) h = still (event.Call q k v) refl h
    by (event.Miss q) h = still (event.Miss q) refl h
    by (event.Take q k v) h = still (event.Take q k v) refl h
    by (event.Give q k v) h = still (event.Give q k v) refl h
    by (event.End q k v) h = still (event.End q k v) refl h
    by (event.More q k v) h = still (event.More q k v) refl h
    by (event.Ask q k v) h = still (event.Ask q k v) refl h
    by (event.Hear q k v) h = still (event.Hear q k v) refl h

-- a root at a port that is closed then was there before
root_was : (s : State) (e : Event) (p k : ℕ) → IsWellFormed s → IsConsistent s → Legal s e → (gate (effect s e).config p).closed ≡ true → has_root (effect s e) p k ≡ true → has_root s p k ≡ true
root_was s e p k w c l shut h = by (port_step s e w c l p)
  where
    by : PortStep s e p (exchange (effect s e) p) → has_root s p k ≡ true
    by (stays off serial within idle) =
        let r = root_parts k (exchange (effect s e) p) h in
        let x = exchange s p in
        and_from (not (is_idle x.phase) && not (is_some x.within)) (x.serial == k)
        (and_from (not (is_idle x.phase)) (not (is_some x.within)) (not_from_false (is_idle x.phase) (sym idle ∙ r.busy)) (not_from_false (is_some x.within) (ap is_some (sym within) ∙ r.alone)))
        (ap (λ i. i == k) (sym serial) ∙ r.serial)
    by (begins j v is may y) =
        let closed : (gate s.config p).closed ≡ true = sym (ap (λ f. (gate (effect s f).config p).closed) is) ∙ shut in
        absurd (both_ways (gate s.config p).closed (not-true (gate s.config p).closed may.opened) closed)
    by (calls j v u is may served y) =
        absurd (both_ways (is_some (exchange (effect s e) p).within) (root_parts k (exchange (effect s e) p) h).alone (ap (λ (x : Exchange). is_some x.within) y))
    by (ends j v is may y) = absurd (both_ways (is_idle (exchange (effect s e) p).phase) (root_parts k (exchange (effect s e) p) h).busy (ap (λ (x : Exchange). is_idle x.phase) y))

module _ (p k : ℕ) where
  abbrev HasLastClose : List Event → Type 0
  HasLastClose es = has_root (state_after es) p k ≡ true → (gate (state_after es).config p).closed ≡ true → LastClose es p

  one_more : (xs : List Event) (e : Event) → reopens p e ≡ false → LastClose xs p → LastClose (xs ++ e ∷ []) p
  one_more xs e free w = record {
    before = w.before;
    after = w.after ++ e ∷ [];
    parts = ap (λ z. z ++ e ∷ []) w.parts ∙ append_assoc w.before (event.Close p ∷ w.after) (e ∷ []);
    kept = none_both (reopens p) w.after (e ∷ []) w.kept (ap (λ b. b || false) free);
  }

  next : (xs : List Event) (e : Event) → IsNext xs e → HasLastClose xs → HasLastClose (xs ++ e ∷ [])
  next xs e here so_far root shut =
      let s = state_after xs in
      let root_then : has_root (effect s e) p k ≡ true = ap (λ (t : State). has_root t p k) (sym here.next) ∙ root in
      let shut_then : (gate (effect s e).config p).closed ≡ true = ap (λ (t : State). (gate t.config p).closed) (sym here.next) ∙ shut in
      let was = root_was s e p k here.well here.traffic here.legal shut_then root_then in
      let made = gate_place s p (busy_is_live s p here.traffic (root_parts k (exchange s p) was).busy) in
      ⊎_elim
      (λ (is : e ≡ event.Close p).
      let w : LastClose (xs ++ e ∷ []) p = record { before = xs; after = []; parts = ap (λ x. xs ++ x ∷ []) is; kept = refl } in w)
      (λ (w : WasClosed s e p). one_more xs e w.kept (so_far was w.before))
      (was_closed s e p here.legal made shut_then)

  last_close : (es : List Event) → IsRun es → HasLastClose es
  last_close es run = always HasLastClose next (λ root shut. absurd (both_ways false refl root)) es run

-- ---- the member that an event is

record AtEvent (m : List Member) (b : List Event) (e : Event) (a : List Event) : Type 0 where
  front : List Member
  here : Member
  back : List Member
  parts : m ≡ front ++ here ∷ back
  before : events front ≡ b
  is : event_in here ≡ Some e
  after : events back ≡ a

at_event : (m : List Member) (b : List Event) (e : Event) (a : List Event) → events m ≡ b ++ e ∷ a → AtEvent m b e a
at_event [] [] e a h = absurd (cc h)
at_event [] (y ∷ b) e a h = absurd (cc h)
at_event (x ∷ m) b e a h = by (event_in x) refl b h (λ c. at_event m c e a)
  where
    further : (b c : List Event) → cons_option (event_in x) c ≡ b → AtEvent m c e a → AtEvent (x ∷ m) b e a
    further b c is w = record { front = x ∷ w.front; here = w.here; back = w.back; parts = ap (λ z. x ∷ z) w.parts; before = ap (cons_option (event_in x)) w.before ∙ is; is = w.is; after = w.after }

    by : (o : Option Event) → event_in x ≡ o → (b : List Event) → cons_option o (events m) ≡ b ++ e ∷ a → ((c : List Event) → events m ≡ c ++ e ∷ a → AtEvent m c e a) → AtEvent (x ∷ m) b e a
    by None is b h rest = further b b (ap (λ o. cons_option o b) is) (rest b h)
    by (Some y) is [] h rest =
        record { front = []; here = x; back = m; parts = refl; before = refl; is = is ∙ ap Some (heads_are y e (events m) a h); after = tails_are y e (events m) a h }
    by (Some y) is (z ∷ b) h rest =
        further (z ∷ b) b (ap (λ o. cons_option o b) is ∙ ap (λ w. w ∷ b) (heads_are y z (events m) (b ++ e ∷ a) h)) (rest b (tails_are y z (events m) (b ++ e ∷ a) h))

-- a close is a line
close_line : (l : HistoryLine) (p : ℕ) → event_of l ≡ Some (event.Close p) → l ≡ to.Close p
close_line (to.Close q) p h = ap to.Close (same_close q p (same_Some (event.Close q) (event.Close p) h))
  where
    same_close : (q p : ℕ) → event.Close q ≡ event.Close p → q ≡ p
    same_close q p h = cc h
close_line (to.Make n made from) p h = absurd (cc h)
close_line (to.Link q n x) p h = absurd (cc h)
close_line (to.Unlink q) p h = absurd (cc h)
close_line (to.Remove n) p h = absurd (cc h)
close_line (to.Reopen q) p h = absurd (cc h)
close_line _ p h = absurd (cc h)

close_member : (x : Member) (p : ℕ) → IsOfItsKind x → event_in x ≡ Some (event.Close p) → x ≡ of_history (to.Close p)
close_member (by_node e) p kind is =
    absurd (both_ways (is_of_change e) kind (ap is_of_change (same_Some e (event.Close p) is)))
close_member (of_history l) p kind is = ap of_history (close_line l p is)

-- ---- both ways

module _ (m : List Member) (before : List HistoryLine) (p k : ℕ) (run : IsRun (events m)) where
  pub stood_since : All IsOfItsKind m → StoodOpen m before p k → StoodSinceClose m before p k
  stood_since kinds s =
      let run_front = fronts_are_runs (events s.front) (events s.rest) (subst IsRun (ap events s.parts ∙ events_parts s.front s.rest) run) in
      let c = last_close p k (events s.front) run_front s.open_there s.closed_there in
      let w = at_event s.front c.before (event.Close p) c.after c.parts in
      let all = all_parts IsOfItsKind s.front s.rest (subst (All IsOfItsKind) s.parts kinds) in
      let here = (all_parts IsOfItsKind w.front (w.here ∷ w.back) (subst (All IsOfItsKind) w.parts all.0)).1 in
      let is = close_member w.here p (All-head IsOfItsKind w.here w.back here) w.is in
      let front_is : s.front ≡ w.front ++ of_history (to.Close p) ∷ w.back = w.parts ∙ ap (λ x. w.front ++ x ∷ w.back) is in
      let free : list_any (reopens p) (events w.back) ≡ false = ap (list_any (reopens p)) w.after ∙ c.kept in
      record {
        front = w.front;
        since = w.back;
        rest = s.rest;
        later = s.later;
        parts = s.parts ∙ ap (λ z. z ++ s.rest) front_is;
        place = ap (λ z. lines z ++ s.later) (sym front_is) ∙ s.place;
        behind_closes = s.behind_closes;
        not_reopened = free;
        stood = λ x y e.
            let split : events s.front ≡ (events w.front ++ event.Close p ∷ events x) ++ events y =
            ap events (front_is ∙ ap (λ z. w.front ++ of_history (to.Close p) ∷ z) e) ∙ events_parts w.front (of_history (to.Close p) ∷ (x ++ y))
            ∙ ap (λ es. events w.front ++ event.Close p ∷ es) (events_parts x y) ∙ sym (append_assoc (events w.front) (event.Close p ∷ events x) (events y)) in
            let none : list_any (reopens p) (events x ++ events y) ≡ false = ap (list_any (reopens p)) (sym (events_parts x y) ∙ ap events (sym e)) ∙ free in
            ap (λ es. has_root (state_after es) p k) (events_parts w.front (of_history (to.Close p) ∷ x))
            ∙ root_since (events w.front) (events x) (events y) p k (subst IsRun split run_front) none (ap (λ es. has_root (state_after es) p k) (sym split) ∙ s.open_there);
      }

  pub stands_open : StoodSinceClose m before p k → StoodOpen m before p k
  stands_open s =
      let shut = of_history (to.Close p) in
      let front = s.front ++ shut ∷ s.since in
      let run_front = fronts_are_runs (events front) (events s.rest) (subst IsRun (ap events s.parts ∙ events_parts front s.rest) run) in
      let split : events front ≡ (events s.front ++ event.Close p ∷ []) ++ events s.since =
      events_parts s.front (shut ∷ s.since) ∙ sym (append_assoc (events s.front) (event.Close p ∷ []) (events s.since)) in
      let run_so : IsRun ((events s.front ++ event.Close p ∷ []) ++ events s.since) = subst IsRun split run_front in
      let first = fronts_are_runs (events s.front ++ event.Close p ∷ []) (events s.since) run_so in
      record {
        front = front;
        rest = s.rest;
        later = s.later;
        parts = s.parts;
        place = s.place;
        behind_closes = s.behind_closes;
        open_there = s.stood s.since [] (sym (append-nil s.since));
        closed_there = ap (λ es. (gate (state_after es).config p).closed) split
            ∙ closed_stays (events s.front ++ event.Close p ∷ []) (events s.since) p run_so s.not_reopened (closed_by (events s.front) [] p first);
      }
