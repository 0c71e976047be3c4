-- Turns and rounds in which no node begins keep worlds alike.
use Rattle.std.proofs.Common.{◌≡◌, ◌∙◌, ℕ, zero, suc, ◌+◌, ◌<◌, ◌≤◌, Bool, true, false, cond, List, [], ◌∷◌, length, Option, Some, None, refl, sym, ap, subst, ⊎_elim, arith, get_or-set_other, length-set, not}
use Rattle.std.specs.Prelude.{◌==◌, ◌||◌, drop, filter, find, fold, is_none, option_and_then, option_map, slice_index_or}
use Rattle.std.specs.List.{enumerate_from, list_any, range_with_len}
use Rattle.std.specs.Option.{option_map_or}
use Rattle.std.proofs.lemmas.Bool.{and_parts, both_ways, cases_Bool, cases_lt, eqb-true, false_from_ne_true, or_parts, not-true}
use Rattle.std.proofs.lemmas.List.{get_or_past}
use Rattle.std.proofs.lemmas.Option.{same_Some, slice_get_within}
use Rattle.base.proofs.OptionLaws.{map_or_true}
use Rattle.base.proofs.PlaceLaws.{slice_get-there}
use Rattle.config_graph.specs.Wiring.{direct}
use Rattle.config_graph.specs.declared.node.Target.{Target}
use Rattle.component_trait.specs.States.{NodeState}
use Rattle.quiesce_word.specs.Phases.{is_answered, is_asked, is_idle, is_in_more}
use Rattle.quiesce_word.specs.declared.phase.Phase.{Phase}
use Rattle.quiesce_word.proofs.PhaseLaws.{asked_busy, idle_is}
use Rattle.quiesce_core.specs.State.{Configuration, State, exchange, fresh_exchange, is_live, owner, ports_of, service, slot, target}
use Rattle.quiesce_core.specs.declared.event.Event.{Event}
use Rattle.quiesce_core.specs.declared.event.Event.TheVariants as event
use Rattle.quiesce_core.specs.declared.state.Exchange.{Exchange}
use Rattle.quiesce_core.specs.declared.state.Slot.{Slot}
use Rattle.quiesce_core.proofs.CycleLaws.{any_of}
use Rattle.quiesce_core.proofs.LegalLaws.{legal}
use Rattle.quiesce_core.proofs.RunLaws.{node_events_keep_the_configuration}
use Rattle.quiesce_core.proofs.TableLaws.{live_made}
use Rattle.quiesce_laws.specs.Advances.{is_begin}
use Rattle.node_turn_laws.specs.Agreement.{IsSmall}
use Rattle.node_turn_laws.specs.Hints.{after_move}
use Rattle.node_turn_laws.specs.Reached.{IsReached}
use Rattle.node_turn_laws.specs.Round.{Round, after_rounds, give_turn, live_nodes, round}
use Rattle.node_turn_laws.specs.Turn.{Request, Turn, awaits_call, do_event, ends, goes_on, has_reply, is_for, looks, move_of, or_else, post_one, post_request, post_waiting, reply_to, request_of, serves, takes, turn, turn_in, without_hint}
use Rattle.node_turn_laws.specs.World.{World, inbox, state_of, waiting_of, with_event_of}
use Rattle.node_turn_laws.proofs.HintLaws.{hinted_where_reached, traffic_where_reached, well_where_reached}
use Rattle.node_turn_laws.proofs.LookLaws.{Avoids, ends_avoid, passes, serves_avoid}
use Rattle.node_turn_laws.proofs.ReachedLaws.{holds_where_reached, turn_goes_on}
use Rattle.node_turn_laws.proofs.TurnLaws.{looking_keeps, posts_keep, turns_do}
use Rattle.result_laws.proofs.MirrorMoves.{SameAt, same_looks, same_move}
use Rattle.result_laws.proofs.MirrorTurns.{Does, HasRows, IsDoneBy, IsFine, Posted, apart_goes_on, event_alike, hint_waits, post_alike, posts_alike, request_alike, requests_one, waits_for_one}
use Rattle.result_laws.proofs.Mirroring.{Alike, Apart, Mirrors, mirrors_back, set_alike}

-- ---- no turn without begins begins

no_begin : Avoids is_begin
no_begin = record {
  ending = λ q k v. refl;
  asking = λ q k v. refl;
  giving = λ q k v. refl;
  sending = λ q k v. refl;
  hearing = λ q k v. refl;
  calling = λ q k v. refl;
  missing = λ q. refl;
}

or_else_avoids : (f : Event → Bool) (o p : Option Event) → passes f o ≡ false → passes f p ≡ false → passes f (or_else o p) ≡ false
or_else_avoids f None p a c = c
or_else_avoids f (Some e) p a c = a

-- whether an event, if there is one, is no Begin
abbrev is_further : Option Event → Bool
is_further o = not (passes is_begin o)

move_is_further : (s : State) (n : ℕ) (t : NodeState) (box : List ℕ) → is_further (move_of s n t box false) ≡ true
move_is_further s n t box = ap not
    (or_else_avoids is_begin (ends s n t) (or_else (serves s n t) (or_else (cond (is_none (service s n)) (takes s n box) None) None)) (ends_avoid is_begin no_begin s n t)
    (or_else_avoids is_begin (serves s n t) (or_else (cond (is_none (service s n)) (takes s n box) None) None) (serves_avoid is_begin no_begin s n t)
    (or_else_avoids is_begin (cond (is_none (service s n)) (takes s n box) None) None (taken (is_none (service s n)) box) refl)))
  where
    front : (p : ℕ) (b : Bool) → passes is_begin (cond b (Some (event.Take p (exchange s p).serial (exchange s p).value)) None) ≡ false
    front p true = refl
    front p false = refl

    taken : (b : Bool) (xs : List ℕ) → passes is_begin (cond b (takes s n xs) None) ≡ false
    taken false xs = refl
    taken true [] = refl
    taken true (p ∷ xs) = front p (is_for s n p)

turn_is_further : (w : World) (n : ℕ) → is_further (turn w n false).event ≡ true
turn_is_further w n = by (post_waiting w n) (state_of (post_waiting w n) n)
  where
    by : (v : World) (o : Option NodeState) → is_further (option_map_or (turn_in v n false) o (record { event = None; world = v })).event ≡ true
    by v None = refl
    by v (Some t) = move_is_further v.machine n t (inbox v n)

-- the event of a turn, where nodes may not begin
pub turn_does : (w : World) (n : ℕ) (e : Event) → IsReached w → is_live w.machine.config n ≡ true → (turn w n false).event ≡ Some e → Does w n e
turn_does w n e reached live is =
    let t = turn_goes_on w n false e reached live is in
    let h = holds_where_reached w reached in
    let folds : length w.folds ≡ length w.machine.config.slots = h.1.made ∙ ap (λ (s : State). length s.config.slots) (sym h.0) in
    let made = live_made w.machine.config n live in
    record {
      done = record {
        formed = well_where_reached w reached;
        traffic = traffic_where_reached w reached;
        legal = legal w.machine e t.allowed;
        of_node = t.of_node;
        begins_none = not-true (is_begin e) (sym (ap is_further is) ∙ turn_is_further w n);
        own = t.own;
      };
      low = omega (arith, folds, made);
    }

turn_machine : (w : World) (n : ℕ) → (turn w n false).world.machine ≡ (after_move w n (turn w n false).event).machine
turn_machine w n = ap (λ (u : World). u.machine) (turns_do w n false)

pub apart_turned : (away : ℕ → Bool) (w : World) (n : ℕ) → IsReached w → is_live w.machine.config n ≡ true → away n ≡ false → Apart away w.machine → Apart away (turn w n false).world.machine
apart_turned away w n reached live no_ apart = subst (Apart away) (sym (turn_machine w n)) (by (turn w n false).event refl)
  where
    by : (o : Option Event) → (turn w n false).event ≡ o → Apart away (after_move w n o).machine
    by None is = apart
    by (Some e) is = apart_goes_on away w.machine n e (turn_does w n e reached live is).done no_ apart

-- ---- an event in both worlds, and the hint that it posts

act_alike : (away : ℕ → Bool) (x y : World) (n ca cb : ℕ) → Alike away x y → away n ≡ false → HasRows x n ca → HasRows y n cb → Apart away x.machine
    → ((m : ℕ) → away m ≡ false → m < length x.machine.config.slots → IsFine away ca cb m)
    → (o : Option Event) → ((e : Event) → o ≡ Some e → Does x n e × Does y n e) → Alike away (option_map_or (do_event x n) o x) (option_map_or (do_event y n) o y)
act_alike away x y n ca cb h no_ rows rows' apart fine None does = h
act_alike away x y n ca cb h no_ rows rows' apart fine (Some e) does =
    let d = does e refl in
    let v = with_event_of x n e in
    let v' = with_event_of y n e in
    let after = event_alike away x y n e h no_ d.0 d.1 in
    subst (λ q. Alike away (post_request v n (request_of x.machine n e)) (post_request v' n q)) (request_alike away x y n e h no_ d.0.done) (by d.0 after (request_of x.machine n e) refl)
  where
    by : Does x n e → Alike away (with_event_of x n e) (with_event_of y n e) → (q : Option Request) → request_of x.machine n e ≡ q → Alike away (post_request (with_event_of x n e) n q) (post_request (with_event_of y n e) n q)
    by d after None is = after
    by d after (Some r) is =
        let one = requests_one away x.machine n e d.done apart r is in
        let f = fine r.node one.0 one.1 in
        post_alike away (with_event_of x n e) (with_event_of y n e) n r.require r.node ca cb after no_ one.0 (record { row = rows.row; boxes_are = rows.boxes_are }) (record { row = rows'.row; boxes_are = rows'.boxes_are }) f.low f.low_there

-- ---- the turn of a node that isn't away

module _ (away : ℕ → Bool) (a b : World) (m : Mirrors away a b) (n : ℕ) (no_ : away n ≡ false) (live : is_live a.machine.config n ≡ true) where
  abbrev k : (x : Slot) × (slot a.machine.config n ≡ Some x) × (x.live ≡ true)
  k = map_or_true (λ (x : Slot). x.live) (slot a.machine.config n) live

  pub live_there : is_live b.machine.config n ≡ true
  live_there = ap (λ o. option_map_or (λ (x : Slot). x.live) o false) (sym (m.alike.slots n no_)) ∙ live

  abbrev va : World
  va = post_waiting a n

  abbrev vb : World
  vb = post_waiting b n

  abbrev ca : ℕ
  ca = length a.inboxes

  abbrev cb : ℕ
  cb = length b.inboxes

  fine_for : (j : ℕ) → away j ≡ false → j < length a.machine.config.slots → IsFine away ca cb j
  fine_for j to low =
      let boxes = (hinted_where_reached a m.reached_here).fits.boxes in
      let boxes' = (hinted_where_reached b m.reached_there).fits.boxes in
      let x = slice_get-there a.machine.config.slots j low in
      let there = slice_get_within b.machine.config.slots j x.0 (sym (m.alike.slots j to) ∙ x.1) in
      record { to = to; low = omega (arith, boxes, low); low_there = omega (arith, boxes', there) }

  rows_here : HasRows a n ca
  rows_here = record { row = (let made = live_made a.machine.config n live in let rows = (hinted_where_reached a m.reached_here).fits.rows in omega (arith, made, rows)); boxes_are = refl }

  rows_there : HasRows b n cb
  rows_there = record { row = (let made = live_made b.machine.config n live_there in let rows = (hinted_where_reached b m.reached_there).fits.rows in omega (arith, made, rows)); boxes_are = refl }

  posted : Posted away va vb n ca cb
  posted =
      subst (λ ws. Posted away va (fold (post_one n) b (enumerate_from 0 ws)) n ca cb) (m.alike.waits n no_)
      (posts_alike away n ca cb 0 (waiting_of a n)
      (λ j i is. let f = waits_for_one away a m.reached_here m.here n k.0 k.1 j i is in fine_for i f.to f.made)
      no_ a b (record { alike = m.alike; rows = rows_here; rows_there = rows_there }))

  machine_here : va.machine ≡ a.machine
  machine_here = ap (λ (u : World). u.machine) (posts_keep n a (enumerate_from 0 (waiting_of a n)))

  machine_there : vb.machine ≡ b.machine
  machine_there = ap (λ (u : World). u.machine) (posts_keep n b (enumerate_from 0 (waiting_of b n)))

  folds_here : va.folds ≡ a.folds
  folds_here = ap (λ (u : World). u.folds) (posts_keep n a (enumerate_from 0 (waiting_of a n)))

  folds_there : vb.folds ≡ b.folds
  folds_there = ap (λ (u : World). u.folds) (posts_keep n b (enumerate_from 0 (waiting_of b n)))

  asked_alike : (p : ℕ) → is_asked (exchange a.machine p).phase ≡ true → target a.machine.config p ≡ target b.machine.config p
  asked_alike p asked =
      let s = a.machine in
      let well = well_where_reached a m.reached_here in
      let busy = asked_busy (exchange s p).phase asked in
      ⊎_elim
      (λ (low : p < length s.config.gates).
      let o = well.sound.ports p low in
      ⊎_elim
      (λ (yes_ : away (owner s.config p) ≡ true). absurd (both_ways (is_idle (exchange s p).phase) busy (m.here.own (owner s.config p) p yes_ o)))
      (λ (here : away (owner s.config p) ≡ false). m.alike.targets (owner s.config p) p here o)
      (cases_Bool (away (owner s.config p))))
      (λ (past : length s.config.gates ≤ p).
      let long = well.exchanges in
      absurd (both_ways (is_idle (exchange s p).phase) busy (ap (λ (x : Exchange). is_idle x.phase) (get_or_past s.traffic.exchanges p fresh_exchange (omega (arith, long, past))))))
      (cases_lt p (length s.config.gates))

  same_at : SameAt a.machine b.machine n
  same_at = record { slots = m.alike.slots n no_; exchanges = m.alike.exchanges; services = m.alike.services n; own = λ p o. m.alike.targets n p no_ o; asked = asked_alike }

  same_in : SameAt va.machine vb.machine n
  same_in = subst (λ s. SameAt s vb.machine n) (sym machine_here) (subst (λ u. SameAt a.machine u n) (sym machine_there) same_at)

  -- what it has come to is of its kind, and small
  record IsState (t : NodeState) : Type 0 where
    kind : t.kind ≡ k.0.node.kind
    small : IsSmall t

  state_is : (t : NodeState) → state_of va n ≡ Some t → IsState t
  state_is t is =
      let h = holds_where_reached a m.reached_here in
      let node = h.1.nodes n k.0 (ap (λ (s : State). slot s.config n) (sym h.0) ∙ k.1) in
      let same : node.state ≡ t = same_Some node.state t (sym node.is ∙ sym (ap (λ fs. slice_index_or fs n None) folds_here) ∙ is) in
      record { kind = sym (ap (λ (x : NodeState). x.kind) same) ∙ node.kind; small = subst IsSmall same node.small }

  made_in : slot va.machine.config n ≡ Some k.0
  made_in = ap (λ (s : State). slot s.config n) machine_here ∙ k.1

  abbrev turned : World → Option NodeState → Turn
  turned v o = option_map_or (turn_in v n false) o (record { event = None; world = v })

  move_same : (t : NodeState) → state_of va n ≡ Some t → move_of va.machine n t (inbox va n) false ≡ move_of vb.machine n t (inbox vb n) false
  move_same t is =
      let s = state_is t is in
      same_move va.machine vb.machine n same_in k.0 made_in t s.kind s.small (inbox va n) ∙ ap (λ box. move_of vb.machine n t box false) (posted.alike.boxes n no_)

  event_same : (o : Option NodeState) → state_of va n ≡ o → (turned va o).event ≡ (turned vb o).event
  event_same None is = refl
  event_same (Some t) is = move_same t is

  states_same : state_of va n ≡ state_of vb n
  states_same = posted.alike.states n no_

  pub events_alike : (turn a n false).event ≡ (turn b n false).event
  events_alike = event_same (state_of va n) refl ∙ ap (λ o. (turned vb o).event) states_same

  looked_rows : (w : World) (c : ℕ) (x : Bool) → HasRows w n c → HasRows (cond x (without_hint w n) w) n c
  looked_rows w c true h = record { row = h.row; boxes_are = length-set w.inboxes n (drop 1 (inbox w n)) ∙ h.boxes_are }
  looked_rows w c false h = h

  looked_alike : (x y : Bool) → x ≡ y → Alike away (cond x (without_hint va n) va) (cond y (without_hint vb n) vb)
  looked_alike true true e =
      let h = posted.alike in
      let f = fine_for n no_ (live_made a.machine.config n live) in
      record {
        slots = h.slots;
        targets = h.targets;
        exchanges = h.exchanges;
        services = h.services;
        states = h.states;
        boxes = λ j here.
            set_alike va.inboxes vb.inboxes n j (drop 1 (inbox va n)) (drop 1 (inbox vb n)) [] (let long = posted.rows.boxes_are in let low = f.low in omega (arith, long, low))
            (let long = posted.rows_there.boxes_are in let low = f.low_there in omega (arith, long, low)) (ap (drop 1) (h.boxes n no_)) (h.boxes j here);
        waits = h.waits;
      }
  looked_alike false false e = posted.alike
  looked_alike true false e = absurd (both_ways true e refl)
  looked_alike false true e = absurd (both_ways false refl e)

  -- the world in which the event happens
  looked_machine : (w : World) (x : Bool) → (cond x (without_hint w n) w).machine ≡ w.machine
  looked_machine w x = ap (λ (u : World). u.machine) (looking_keeps w n x)

  looked_folds : (w : World) (x : Bool) → (cond x (without_hint w n) w).folds ≡ w.folds
  looked_folds w x = ap (λ (u : World). u.folds) (looking_keeps w n x)

  does_in : (w u : World) (e : Event) → u.machine ≡ w.machine → u.folds ≡ w.folds → Does w n e → Does u n e
  does_in w u e machine folds d = record {
    done = subst (λ s. IsDoneBy s n e) (sym machine) d.done;
    low = subst (λ fs. n < length fs) (sym folds) d.low;
  }

  world_alike : (o : Option NodeState) → state_of va n ≡ o → (turned va o).event ≡ (turn a n false).event → Alike away (turned va o).world (turned vb o).world
  world_alike None is own = posted.alike
  world_alike (Some t) is own =
      let st = state_is t is in
      let x = looks va.machine n t in
      let y = looks vb.machine n t in
      let xa = cond x (without_hint va n) va in
      let xb = cond y (without_hint vb n) vb in
      let h : Alike away xa xb = looked_alike x y (same_looks va.machine vb.machine n same_in k.0 made_in t st.kind st.small) in
      let ma : xa.machine ≡ a.machine = looked_machine va x ∙ machine_here in
      let fa : xa.folds ≡ a.folds = looked_folds va x ∙ folds_here in
      let mb : xb.machine ≡ b.machine = looked_machine vb y ∙ machine_there in
      let fb : xb.folds ≡ b.folds = looked_folds vb y ∙ folds_there in
      let ea = move_of va.machine n t (inbox va n) false in
      subst (λ o. Alike away (option_map_or (do_event xa n) ea xa) (option_map_or (do_event xb n) o xb)) (move_same t is)
      (act_alike away xa xb n ca cb h no_ (looked_rows va ca x posted.rows) (looked_rows vb cb y posted.rows_there) (subst (Apart away) (sym ma) m.here)
      (λ j to low. fine_for j to (subst (λ (s : State). j < length s.config.slots) ma low))
      ea (λ e is_e. (
        does_in a xa e ma fa (turn_does a n e m.reached_here live (sym own ∙ is_e)),
        does_in b xb e mb fb (turn_does b n e m.reached_there live_there (sym events_alike ∙ sym own ∙ is_e)),
      )))

  pub turn_mirrors : Mirrors away (turn a n false).world (turn b n false).world
  turn_mirrors = record {
    alike = subst (λ o. Alike away (turn a n false).world (turned vb o).world) states_same (world_alike (state_of va n) refl refl);
    here = apart_turned away a n m.reached_here live no_ m.here;
    there = apart_turned away b n m.reached_there live_there no_ m.there;
    reached_here = IsReached.by_turn a n false m.reached_here live;
    reached_there = IsReached.by_turn b n false m.reached_there live_there;
  }

-- ---- the turn of a node that is away

find_none : {A : Type 0} (test : A → Bool) (xs : List A) → list_any test xs ≡ false → find test xs ≡ None
find_none test [] h = refl
find_none test (x ∷ xs) h =
    let parts = or_parts (test x) (list_any test xs) h in
    ap (λ b. cond b (Some x) (find test xs)) parts.0 ∙ find_none test xs parts.1

no_reply : (f : Phase) → is_idle f ≡ true → (is_answered f || is_in_more f) ≡ true → ⊥
no_reply f idle h = both_ways (is_answered f || is_in_more f) (ap (λ x. is_answered x || is_in_more x) (idle_is f idle)) h

module _ (away : ℕ → Bool) (u w : World) (alike : Alike away u w) (reached : IsReached w) (apart : Apart away w.machine) (n : ℕ) (is_away : away n ≡ true) (live : is_live w.machine.config n ≡ true) where
  abbrev s : State
  s = w.machine

  abbrev made : (x : Slot) × (slot s.config n ≡ Some x) × (x.live ≡ true)
  made = map_or_true (λ (x : Slot). x.live) (slot s.config n) live

  none_waits : (r m : ℕ) → slice_index_or (waiting_of w n) r None ≡ Some m → ⊥
  none_waits r m is =
      let h = hint_waits w reached n made.0 made.1 r m is in
      let low = h.0 in
      let p = made.0.first_port + r in
      both_ways (is_idle (exchange s p).phase) (asked_busy (exchange s p).phase h.1.asked)
      (apart.own n p is_away (record { node = made.0; made = made.1; from = omega arith; below = omega (arith, low) }))

  posts_none : (i : ℕ) (xs : List (Option ℕ)) → ((r m : ℕ) → slice_index_or xs r None ≡ Some m → ⊥) → fold (post_one n) w (enumerate_from i xs) ≡ w
  posts_none i [] none_ = refl
  posts_none i (None ∷ xs) none_ = posts_none (i + 1) xs (λ r m is. none_ (suc r) m is)
  posts_none i (Some m ∷ xs) none_ = absurd (none_ 0 m refl)

  ends_none : (t : NodeState) → ends s n t ≡ None
  ends_none t = ap (option_map (reply_to s t)) (find_none (has_reply s) (ports_of s.config n)
      (false_from_ne_true (list_any (has_reply s) (ports_of s.config n)) (λ h.
      let q = any_of s.config n (has_reply s) h in no_reply (exchange s q.port).phase (apart.own n q.port is_away q.owned) q.passes)))

  no_service : service s n ≡ None
  no_service = apart.serves n is_away

  serves_none : (t : NodeState) → serves s n t ≡ None
  serves_none t = either (awaits_call s n)
    where
      either : (b : Bool) → cond b None (option_and_then (goes_on s n t) (service s n)) ≡ None
      either true = refl
      either false = ap (option_and_then (goes_on s n t)) no_service

  none_for : (p : ℕ) → is_for s n p ≡ false
  none_for p = false_from_ne_true (is_for s n p) (λ h.
      let both = and_parts (is_asked (exchange s p).phase) (option_map_or (λ (t : Target). t.node == n) (target s.config p) false) h in
      let t = map_or_true (λ (x : Target). x.node == n) (target s.config p) both.1 in
      both_ways (is_idle (exchange s p).phase) (asked_busy (exchange s p).phase both.0)
      (apart.reaching n p is_away (direct {p = p} {x = t.0.provide} (t.1 ∙ ap (λ i. Some (record { node = i; provide = t.0.provide })) (eqb-true t.0.node n t.2)))))

  takes_none : (box : List ℕ) → takes s n box ≡ None
  takes_none [] = refl
  takes_none (p ∷ box) = ap (λ b. cond b (Some (event.Take p (exchange s p).serial (exchange s p).value)) None) (none_for p)

  move_none : (t : NodeState) (box : List ℕ) → move_of s n t box false ≡ None
  move_none t box = λ i. or_else (ends_none t i) (or_else (serves_none t i) (or_else (either (is_none (service s n)) i) None))
    where
      either : (b : Bool) → cond b (takes s n box) None ≡ None
      either true = takes_none box
      either false = refl

  record Rests (t : Turn) : Type 0 where
    event : t.event ≡ None
    alike_then : Alike away u t.world
    machine : t.world.machine ≡ s

  without_alike : (x : Bool) → Alike away u (cond x (without_hint w n) w) × ((cond x (without_hint w n) w).machine ≡ s)
  without_alike false = (alike, refl)
  without_alike true = (
    record {
      slots = alike.slots;
      targets = alike.targets;
      exchanges = alike.exchanges;
      services = alike.services;
      states = alike.states;
      boxes = λ j here.
          alike.boxes j here ∙ sym (get_or-set_other w.inboxes n j (drop 1 (inbox w n)) [] (λ same. both_ways (away j) here (ap away same ∙ is_away)));
      waits = alike.waits;
    },
    refl,
  )

  rests : (o : Option NodeState) → Rests (option_map_or (turn_in w n false) o (record { event = None; world = w }))
  rests None = record { event = refl; alike_then = alike; machine = refl }
  rests (Some t) =
      let v = cond (looks s n t) (without_hint w n) w in
      let x = without_alike (looks s n t) in
      subst (λ o. Rests (record { event = o; world = option_map_or (do_event v n) o v })) (sym (move_none t (inbox w n))) (record { event = refl; alike_then = x.0; machine = x.1 })

  turn_rests : Rests (turn w n false)
  turn_rests =
      subst (λ v. Rests (option_map_or (turn_in v n false) (state_of v n) (record { event = None; world = v }))) (sym (posts_none 0 (waiting_of w n) none_waits)) (rests (state_of w n))

  pub away_alike : Alike away u (turn w n false).world
  away_alike = turn_rests.alike_then

  pub away_machine : (turn w n false).world.machine ≡ w.machine
  away_machine = turn_rests.machine

-- an away node's turn in the second world, and in the first
turn_there : (away : ℕ → Bool) (a b : World) → Mirrors away a b → (n : ℕ) → away n ≡ true → is_live b.machine.config n ≡ true → Mirrors away a (turn b n false).world
turn_there away a b m n is live = record {
  alike = away_alike away a b m.alike m.reached_there m.there n is live;
  here = m.here;
  there = subst (Apart away) (sym (away_machine away a b m.alike m.reached_there m.there n is live)) m.there;
  reached_here = m.reached_here;
  reached_there = IsReached.by_turn b n false m.reached_there live;
}

-- ---- rounds

turn_config : (w : World) (n : ℕ) → IsReached w → is_live w.machine.config n ≡ true → (turn w n false).world.machine.config ≡ w.machine.config
turn_config w n reached live = ap (λ (s : State). s.config) (turn_machine w n) ∙ by (turn w n false).event refl
  where
    by : (o : Option Event) → (turn w n false).event ≡ o → (after_move w n o).machine.config ≡ w.machine.config
    by None is = refl
    by (Some e) is = node_events_keep_the_configuration w.machine e (turn_does w n e reached live is).done.of_node

-- two worlds on the way through a round
record Both (away : ℕ → Bool) (c d : Configuration) (a b : World) : Type 0 where
  mirrors : Mirrors away a b
  here : a.machine.config ≡ c
  there : b.machine.config ≡ d

-- the turn of a node, where it is live
abbrev turn_if : Bool → Round → ℕ → Round
turn_if x r n = cond x (give_turn false r n) r

module _ (away : ℕ → Bool) (c d : Configuration) where
  both_back : (a b : World) → Both away c d a b → Both away d c b a
  both_back a b h = record { mirrors = mirrors_back away a b h.mirrors; here = h.there; there = h.here }

away_second : (away : ℕ → Bool) (c d : Configuration) (a : World) (r : Round) (n : ℕ) → away n ≡ true → Both away c d a r.world → Both away c d a (turn_if (is_live d n) r n).world
away_second away c d a r n is h = by (is_live d n) refl
  where
    by : (x : Bool) → is_live d n ≡ x → Both away c d a (turn_if x r n).world
    by false e = h
    by true e =
        let live : is_live r.world.machine.config n ≡ true = ap (λ k. is_live k n) h.there ∙ e in
        record {
          mirrors = turn_there away a r.world h.mirrors n is live;
          here = h.here;
          there = turn_config r.world n h.mirrors.reached_there live ∙ h.there;
        }

one_turn : (away : ℕ → Bool) (c d : Configuration) (r q : Round) (n : ℕ) → Both away c d r.world q.world → Both away c d (turn_if (is_live c n) r n).world (turn_if (is_live d n) q n).world
one_turn away c d r q n h = ⊎_elim
    (λ (is : away n ≡ true).
    let second = away_second away c d r.world q n is h in
    both_back away d c (turn_if (is_live d n) q n).world (turn_if (is_live c n) r n).world
    (away_second away d c (turn_if (is_live d n) q n).world r n is (both_back away c d r.world (turn_if (is_live d n) q n).world second)))
    (λ (no_ : away n ≡ false).
    let same : is_live c n ≡ is_live d n =
    sym (ap (λ k. is_live k n) h.here) ∙ ap (λ o. option_map_or (λ (x : Slot). x.live) o false) (h.mirrors.alike.slots n no_) ∙ ap (λ k. is_live k n) h.there in
    by no_ (is_live c n) (is_live d n) refl refl same)
    (cases_Bool (away n))
  where
    by : away n ≡ false → (x y : Bool) → is_live c n ≡ x → is_live d n ≡ y → x ≡ y → Both away c d (turn_if x r n).world (turn_if y q n).world
    by no_ false false e g s = h
    by no_ true true e g s =
        let live : is_live r.world.machine.config n ≡ true = ap (λ k. is_live k n) h.here ∙ e in
        let live' : is_live q.world.machine.config n ≡ true = ap (λ k. is_live k n) h.there ∙ g in
        record {
          mirrors = turn_mirrors away r.world q.world h.mirrors n no_ live;
          here = turn_config r.world n h.mirrors.reached_here live ∙ h.here;
          there = turn_config q.world n h.mirrors.reached_there live' ∙ h.there;
        }
    by no_ true false e g s = absurd (both_ways true s refl)
    by no_ false true e g s = absurd (both_ways false refl s)

fold_if : (x : Bool) (r : Round) (n : ℕ) (ns : List ℕ) → fold (give_turn false) r (cond x (n ∷ ns) ns) ≡ fold (give_turn false) (turn_if x r n) ns
fold_if true r n ns = refl
fold_if false r n ns = refl

turns_in_row : (away : ℕ → Bool) (c d : Configuration) (i k : ℕ) (r q : Round) → Both away c d r.world q.world
    → Both away c d (fold (give_turn false) r (filter (is_live c) (range_with_len i k))).world (fold (give_turn false) q (filter (is_live d) (range_with_len i k))).world
turns_in_row away c d i zero r q h = h
turns_in_row away c d i (suc k) r q h =
    subst (λ (x : Round). Both away c d x.world (fold (give_turn false) q (filter (is_live d) (range_with_len i (suc k)))).world) (sym (fold_if (is_live c i) r i (filter (is_live c) (range_with_len (i + 1) k))))
    (subst (λ (x : Round). Both away c d (fold (give_turn false) (turn_if (is_live c i) r i) (filter (is_live c) (range_with_len (i + 1) k))).world x.world) (sym (fold_if (is_live d i) q i (filter (is_live d) (range_with_len (i + 1) k))))
    (turns_in_row away c d (i + 1) k (turn_if (is_live c i) r i) (turn_if (is_live d i) q i) (one_turn away c d r q i h)))

-- no node is live behind the last that was made
dead_behind : (c : Configuration) (i k : ℕ) → length c.slots ≤ i → filter (is_live c) (range_with_len i k) ≡ []
dead_behind c i zero past = refl
dead_behind c i (suc k) past =
    let dead : is_live c i ≡ false = false_from_ne_true (is_live c i) (λ h. let made = live_made c i h in absurd (omega (arith, made, past))) in
    ap (λ b. cond b (i ∷ filter (is_live c) (range_with_len (i + 1) k)) (filter (is_live c) (range_with_len (i + 1) k))) dead ∙ dead_behind c (i + 1) k (omega (arith, past))

more_slots : (c : Configuration) (i m n : ℕ) → i + m ≡ length c.slots → filter (is_live c) (range_with_len i (m + n)) ≡ filter (is_live c) (range_with_len i m)
more_slots c i zero n sum = ap (λ k. filter (is_live c) (range_with_len i k)) (omega arith) ∙ dead_behind c i n (omega (arith, sum))
more_slots c i (suc m) n sum =
    let size : suc m + n ≡ suc (m + n) = omega arith in
    ap (λ k. filter (is_live c) (range_with_len i k)) size
    ∙ ap (λ xs. cond (is_live c i) (i ∷ xs) xs) (more_slots c (i + 1) m n (omega (arith, sum)))

pub round_mirrors : (away : ℕ → Bool) (a b : World) → Mirrors away a b → Mirrors away (round false a).world (round false b).world
round_mirrors away a b m =
    let c = a.machine.config in
    let d = b.machine.config in
    let la = length c.slots in
    let lb = length d.slots in
    let r : Round = record { world = a; moved = false } in
    let q : Round = record { world = b; moved = false } in
    let all = turns_in_row away c d 0 (la + lb) r q (record { mirrors = m; here = refl; there = refl }) in
    let first : filter (is_live c) (range_with_len 0 (la + lb)) ≡ live_nodes a = more_slots c 0 la lb (omega arith) in
    let second : filter (is_live d) (range_with_len 0 (la + lb)) ≡ live_nodes b = ap (λ k. filter (is_live d) (range_with_len 0 k)) (omega arith) ∙ more_slots d 0 lb la (omega arith) in
    subst (λ ns. Mirrors away (fold (give_turn false) r ns).world (round false b).world) first
    (subst (λ ns. Mirrors away (fold (give_turn false) r (filter (is_live c) (range_with_len 0 (la + lb)))).world (fold (give_turn false) q ns).world) second all.mirrors)

pub rounds_mirror : (away : ℕ → Bool) (a b : World) (j : ℕ) → Mirrors away a b → Mirrors away (after_rounds false a j) (after_rounds false b j)
rounds_mirror away a b zero m = m
rounds_mirror away a b (suc j) m = round_mirrors away (after_rounds false a j) (after_rounds false b j) (rounds_mirror away a b j m)
