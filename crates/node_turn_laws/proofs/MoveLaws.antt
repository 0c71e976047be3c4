-- The event of a node's turn is allowed, is its own, and its fold goes on with it.
use Rattle.std.proofs.Common.{inl, inr, ◌⊎◌, ◌≡◌, ◌∙◌, ◌+◌, ◌<◌, ◌≤◌, ℕ, Bool, true, false, cond, List, [], ◌∷◌, length, Option, Some, None, refl, sym, ap, subst, arith, ⊎_elim}
use Rattle.std.specs.Prelude.{not, ◌==◌, ◌&&◌, ◌||◌, nat_lt, nat_le, find, option_map, option_and_then, is_none, is_some}
use Rattle.std.specs.List.{list_all, range_with_len}
use Rattle.std.specs.Option.{option_map_or}
use Rattle.std.proofs.lemmas.Bool.{and_from, and_parts, both_ways, eq-eqb, eqb-false, eqb-true, le-leb, lt-ltb, not-true, not_from_false, not-false}
use Rattle.std.proofs.lemmas.Option.{none-some, same_Some}
use Rattle.base.proofs.NumberLaws.{same_number}
use Rattle.base.proofs.OptionLaws.{None-from_is_none, option_map_some, map_or_at, map_or_true}
use Rattle.base.proofs.FindLaws.{found_in_range}
use Rattle.config_graph.specs.Kinds.{calls_of, depends_on, mores_of, row}
use Rattle.config_graph.specs.declared.node.Target.{Target}
use Rattle.component_trait.proofs.BoundLaws.{asks_are_few, asks_depend, mores_are_few}
use Rattle.component_trait.specs.Fold.{asked_by, awaits_at, calls_at, is_give, is_more, is_request, is_request_at, may_take, wants_at, where_so}
use Rattle.component_trait.specs.Moves as moves
use Rattle.component_trait.specs.States.{NodeState, Service as Serving}
use Rattle.component_trait.specs.Tables.{next_of}
use Rattle.component_trait.specs.declared.next.Ask.{Ask as Request}
use Rattle.component_trait.specs.declared.next.Next.{Next}
use Rattle.component_trait.specs.declared.next.Next.TheVariants as next
use Rattle.quiesce_word.specs.Phases.{is_answered, is_asked, is_idle, is_in_more}
use Rattle.quiesce_core.specs.Knowledge.{IsServed, KnowsService, OwnPort, known_after, own_port_after, served_after}
use Rattle.quiesce_core.specs.Reach.{IsPortOf}
use Rattle.quiesce_core.specs.Rules.{calls_have_ended, has_calls_left, has_mores_left, serves_through, is_called_within, is_live_port, is_missing, is_next_serial, is_open, is_taken, last_serial, value_limit, was_heard}
use Rattle.quiesce_core.specs.State.{State, exchange, is_live, owner, ports_of, provides, service, slot, target, target_service}
use Rattle.quiesce_core.specs.declared.event.Event.{Event}
use Rattle.quiesce_core.specs.declared.event.Event.TheVariants.{Begin, Call, Take, Give, End, More, Ask, Hear, Miss}
use Rattle.quiesce_core.specs.declared.known.Served.{Served}
use Rattle.quiesce_core.specs.declared.state.Service.{Service}
use Rattle.quiesce_core.specs.declared.state.Slot.{Slot}
use Rattle.quiesce_core.proofs.CycleLaws.{of_all, of_any}
use Rattle.quiesce_core.proofs.KnownLaws.{judged_calls, judged_mores, judged_serves_through, service_of_log}
use Rattle.quiesce_core.proofs.ReachLaws.{owner_of}
use Rattle.quiesce_core.proofs.StabilityLaws.{busy_is_live}
use Rattle.quiesce_core.proofs.StateLaws.{is_taken_if, target_service_is}
use Rattle.quiesce_word.proofs.PhaseLaws.{answered_busy, asked_busy, more_busy, serving_busy}
use Rattle.node_turn_laws.specs.Turn.{awaits_call, begins, begins_at, calls, does_next, ends, goes_on, has_reply, hears, is_call, is_for, move_of, or_else, reply_to, serves, takes}
use Rattle.node_turn_laws.specs.World.{first_port}
use Rattle.node_turn_laws.specs.Agreement.{HasNoCall, ServiceAgrees, ServicesAgree, expects}
use Rattle.node_turn_laws.specs.Placed.{GoesOn, IsPlaced}
use Rattle.component_trait.proofs.TableLaws.{asks_fit, gives_fit, mores_fit, replies_small, wants_fit}

-- ---- cases of a move

or_else_is : (a b : Option Event) (e : Event) → or_else a b ≡ Some e → (a ≡ Some e) ⊎ (b ≡ Some e)
or_else_is None b e h = inr h
or_else_is (Some x) b e h = inl h

taken_if : (b : Bool) (x : Option Event) (e : Event) → cond b x None ≡ Some e → (b ≡ true) × (x ≡ Some e)
taken_if true x e h = (refl, h)
taken_if false x e h = absurd (none-some e h)

left_if : (b : Bool) (x : Option Event) (e : Event) → cond b None x ≡ Some e → (b ≡ false) × (x ≡ Some e)
left_if true x e h = absurd (none-some e h)
left_if false x e h = (refl, h)

then_is : {A : Type 0} (f : A → Option Event) (o : Option A) (e : Event) → option_and_then f o ≡ Some e → (x : A) × (o ≡ Some x) × (f x ≡ Some e)
then_is f None e h = absurd (none-some e h)
then_is f (Some x) e h = (x, refl, h)

found_port : (s : State) (n p : ℕ) (test : ℕ → Bool) → find test (ports_of s.config n) ≡ Some p → IsPortOf s.config n p × (test p ≡ true)
found_port s n p test h = by (slot s.config n) refl h
  where
    by : (o : Option Slot) → slot s.config n ≡ o → find test (option_map_or (λ (m : Slot). range_with_len m.first_port (length (row m.node.kind).requires_)) o []) ≡ Some p → IsPortOf s.config n p × (test p ≡ true)
    by None e h = absurd (none-some p h)
    by (Some m) e h =
        let w = found_in_range test m.first_port (length (row m.node.kind).requires_) p h in
        (record { node = m; made = e; from = w.0; below = w.1 }, w.2)

-- ---- where the fold goes on

serial_below : (k : ℕ) → k ≤ last_serial → (k == last_serial) ≡ false → k + 1 ≤ last_serial
serial_below k h fresh = omega (arith, h, eqb-false k last_serial fresh)

provided_if : {x k : ℕ} → x < k → 0 < k
provided_if h = omega (arith, h)

ends_if : (b c d : Bool) (x y : NodeState) → cond b c d ≡ true → (t : NodeState) × (cond c (Some x) (where_so d y) ≡ Some t)
ends_if b true d x y h = (x, refl)
ends_if true false d x y h = absurd (both_ways false refl h)
ends_if false false true x y h = (y, refl)
ends_if false false false x y h = absurd (both_ways false refl h)

awaits_if : (b c d : Bool) → cond b c d ≡ true → (c || d) ≡ true
awaits_if b true d h = refl
awaits_if true false d h = absurd (both_ways false refl h)
awaits_if false false d h = h

where_it_is : (b : Bool) (x : NodeState) → b ≡ true → where_so b x ≡ Some x
where_it_is true x h = refl
where_it_is false x h = absurd (both_ways false refl h)

right_of : (a b : Bool) → a ≡ false → (a || b) ≡ true → b ≡ true
right_of true b e h = absurd (both_ways true e refl)
right_of false b e h = h

-- neither unlinked nor spent
found_not_missing : (to : Option Target) (spent : Bool) → (is_none to || spent) ≡ false → (is_some to ≡ true) × (spent ≡ false)
found_not_missing (Some t) spent h = (refl, h)
found_not_missing None spent h = absurd (both_ways true h refl)

module _ (s : State) (n : ℕ) (m : Slot) (t : NodeState) (es : List Event) (at : IsPlaced s n m t es) where
  abbrev far : ℕ → OwnPort
  far p = own_port_after p es

  first_is : first_port s n ≡ m.first_port
  first_is = map_or_at (λ (j : Slot). j.first_port) (slot s.config n) 0 m at.made

  -- a port with one of its requirements is its own, and live
  own_port_of : (r : ℕ) → r < length (row m.node.kind).requires_ → IsPortOf s.config n (m.first_port + r)
  own_port_of r h = record { node = m; made = at.made; from = omega arith; below = omega (arith, h) }

  live_at : (r : ℕ) → r < length (row m.node.kind).requires_ → is_live_port s.config (m.first_port + r) ≡ true
  live_at r h =
      let in_row = at.formed.sound.rows n m at.made in
      and_from (nat_lt (m.first_port + r) (length s.config.gates)) (is_live s.config (owner s.config (m.first_port + r)))
      (lt-ltb (m.first_port + r) (length s.config.gates) (omega (arith, h, in_row.within)))
      (ap (is_live s.config) (in_row.owned r h) ∙ map_or_at (λ (j : Slot). j.live) (slot s.config n) false m at.made ∙ at.live)

  idle_as_known : (p : ℕ) → IsPortOf s.config n p → (own_port_after p es).idle ≡ is_idle (exchange s p).phase
  idle_as_known p o = ap (λ (x : OwnPort). x.idle) (at.knows.ports p o)

  -- Move 1
  reply_goes_on : (p : ℕ) → IsPortOf s.config n p → has_reply s p ≡ true → GoesOn s n m t es (reply_to s t p)
  reply_goes_on p o h = by (is_answered (exchange s p).phase) refl
    where
      expected : is_idle (exchange s p).phase ≡ false → expects (own_port_after p es).consequent m.first_port t p ≡ true
      expected busy = at.agrees.ports p (idle_as_known p o ∙ busy)

      by : (b : Bool) → is_answered (exchange s p).phase ≡ b
          → GoesOn s n m t es (cond b (End p (exchange s p).serial (exchange s p).value) (Ask p (exchange s p).serial (moves.replies t)))
      by true e =
          let busy = answered_busy (exchange s p).phase e in
          let w = ends_if (own_port_after p es).consequent (calls_at m.first_port t p) (wants_at m.first_port t p)
          (moves.after_answer t (exchange s p).value) (moves.after_end t (exchange s p).value) (expected busy) in
          record {
            allowed = record {
              live = busy_is_live s p at.consistent busy;
              answered = e;
              message = and_from ((exchange s p).serial == (exchange s p).serial) ((exchange s p).value == (exchange s p).value) (same_number (exchange s p).serial) (same_number (exchange s p).value);
            };
            own = ap Some (owner_of s.config at.formed.sound n p o);
            of_node = refl;
            next = w.0;
            folds = w.1;
            in_turn = idle_as_known p o ∙ busy;
            hands_small = (at.formed.bounds p).value;
          }
      by false e =
          let in_more = right_of (is_answered (exchange s p).phase) (is_in_more (exchange s p).phase) e h in
          let busy = more_busy (exchange s p).phase in_more in
          record {
            allowed = record {
              live = busy_is_live s p at.consistent busy;
              in_more = in_more;
              serial = same_number (exchange s p).serial;
              value = lt-ltb (moves.replies t) value_limit (replies_small t.kind t.kept);
            };
            own = ap Some (owner_of s.config at.formed.sound n p o);
            of_node = refl;
            next = t;
            folds = where_it_is (awaits_at m.first_port t p && moves.replies t == moves.replies t) t
                (and_from (awaits_at m.first_port t p) (moves.replies t == moves.replies t)
                (awaits_if (own_port_after p es).consequent (calls_at m.first_port t p) (wants_at m.first_port t p) (expected busy)) (same_number (moves.replies t)));
            in_turn = tt;
            hands_small = tt;
          }

  ends_go_on : (e : Event) → ends s n t ≡ Some e → GoesOn s n m t es e
  ends_go_on e h =
      let w = option_map_some (reply_to s t) (find (has_reply s) (ports_of s.config n)) e h in
      let p = found_port s n w.0 (has_reply s) w.1 in
      subst (GoesOn s n m t es) w.2 (reply_goes_on w.0 p.0 p.1)

  next_serial_is : (p : ℕ) → ((exchange s p).serial == last_serial) ≡ false → is_next_serial s p ((exchange s p).serial + 1) ≡ true
  next_serial_is p fresh =
      and_from ((exchange s p).serial + 1 == (exchange s p).serial + 1) (nat_le ((exchange s p).serial + 1) last_serial) (same_number ((exchange s p).serial + 1))
      (le-leb ((exchange s p).serial + 1) last_serial (serial_below (exchange s p).serial (at.formed.bounds p).serial fresh))

  requested : (x : Request) (p : ℕ) → m.first_port + x.require ≡ p → (o : Option Request) → o ≡ Some x → is_request m.first_port p x.value o ≡ true
  requested x p is o e =
      map_or_at (λ (y : Request). m.first_port + y.require == p && y.value == x.value) o false x e
      ∙ and_from (m.first_port + x.require == p) (x.value == x.value) (eq-eqb (m.first_port + x.require) p is) (same_number x.value)

  -- Move 4
  request_goes_on : (x : Request) (p : ℕ) → m.first_port + x.require ≡ p → x.require < length (row m.node.kind).requires_ → x.value < value_limit → moves.wants t ≡ Some x
      → (is_idle (exchange s p).phase && is_open s.config p && not (is_missing s p)) ≡ true → GoesOn s n m t es (Begin p ((exchange s p).serial + 1) x.value)
  request_goes_on x p is within small wanted h =
      let both = and_parts (is_idle (exchange s p).phase && is_open s.config p) (not (is_missing s p)) h in
      let idle = and_parts (is_idle (exchange s p).phase) (is_open s.config p) both.0 in
      let there = found_not_missing (target s.config p) ((exchange s p).serial == last_serial) (not-true (is_missing s p) both.1) in
      let o : IsPortOf s.config n p = subst (IsPortOf s.config n) is (own_port_of x.require within) in
      record {
        allowed = record {
          live = subst (λ i. is_live_port s.config i ≡ true) is (live_at x.require within);
          opened = idle.1;
          linked = there.0;
          idle = idle.0;
          next_serial = next_serial_is p there.1;
          value = lt-ltb x.value value_limit small;
        };
        own = ap Some (owner_of s.config at.formed.sound n p o);
        of_node = refl;
        next = t;
        folds = where_it_is (is_request m.first_port p x.value (moves.wants t)) t (requested x p is (moves.wants t) wanted);
        in_turn = idle_as_known p o ∙ idle.0;
        hands_small = tt;
      }

  begins_go_on : (e : Event) → begins s n t ≡ Some e → GoesOn s n m t es e
  begins_go_on e h =
      let w = then_is (λ (x : Request). begins_at s (first_port s n + x.require) x.value) (moves.wants t) e h in
      let fits = wants_fit t.kind t.arg t.kept w.0 at.small.arg at.small.items w.1 in
      let p = first_port s n + w.0.require in
      let b = taken_if (is_idle (exchange s p).phase && is_open s.config p && not (is_missing s p)) (Some (Begin p ((exchange s p).serial + 1) w.0.value)) e w.2 in
      subst (GoesOn s n m t es) (same_Some (Begin p ((exchange s p).serial + 1) w.0.value) e b.1)
      (request_goes_on w.0 p (ap (λ i. i + w.0.require) (sym first_is)) (subst (λ k. w.0.require < length (row k).requires_) at.kind fits.require) fits.value w.1 b.0)

  -- Move 3
  no_service_if : service s n ≡ None → t.service ≡ None
  no_service_if free = by (served_after es) t.service refl refl
    where
      by : (u : Option Served) (x : Option Serving) → served_after es ≡ u → t.service ≡ x → t.service ≡ None
      by u None e f = f
      by None (Some w) e f = absurd (subst (λ o. ServicesAgree far o None) f (subst (λ o. ServicesAgree far t.service o) e at.agrees.services))
      by (Some u) x e f = absurd (subst (λ o. KnowsService s o (Some u)) free (subst (λ o. KnowsService s (service s n) o) e at.knows.services))

  take_goes_on : (p : ℕ) → service s n ≡ None → is_for s n p ≡ true → GoesOn s n m t es (Take p (exchange s p).serial (exchange s p).value)
  take_goes_on p free h =
      let both = and_parts (is_asked (exchange s p).phase) (option_map_or (λ (x : Target). x.node == n) (target s.config p) false) h in
      let x = map_or_true (λ (x : Target). x.node == n) (target s.config p) both.1 in
      let to : x.0.node ≡ n = eqb-true x.0.node n x.2 in
      let none_ : target_service s p ≡ None = target_service_is s p x.0 x.1 ∙ ap (service s) to ∙ free in
      let provided : 0 < length (row m.node.kind).provides =
      provided_if (subst (λ i. x.0.provide < i) (ap (provides s.config) to ∙ map_or_at (λ (j : Slot). length (row j.node.kind).provides) (slot s.config n) 0 m at.made) (at.formed.sound.targets p x.0 x.1).provided) in
      record {
        allowed = record {
          live = busy_is_live s p at.consistent (asked_busy (exchange s p).phase both.0);
          asked = both.0;
          untaken = ap (λ o. not (option_map_or (λ (v : Service). v.port == p) o false)) none_;
          free = ap is_none none_;
          message = and_from ((exchange s p).serial == (exchange s p).serial) ((exchange s p).value == (exchange s p).value) (same_number (exchange s p).serial) (same_number (exchange s p).value);
        };
        own = ap (option_map (λ (y : Target). y.node)) x.1 ∙ ap Some to;
        of_node = refl;
        next = moves.after_take t (exchange s p).value;
        folds = where_it_is (may_take t) (moves.after_take t (exchange s p).value)
            (and_from (nat_lt 0 (length (row t.kind).provides)) (is_none t.service)
            (ap (λ k. nat_lt 0 (length (row k).provides)) at.kind ∙ lt-ltb 0 (length (row m.node.kind).provides) provided) (ap is_none (no_service_if free)));
        in_turn = tt;
        hands_small = (at.formed.bounds p).value;
      }

  takes_go_on : (box : List ℕ) (e : Event) → service s n ≡ None → takes s n box ≡ Some e → GoesOn s n m t es e
  takes_go_on [] e free h = absurd (none-some e h)
  takes_go_on (p ∷ box) e free h =
      let w = taken_if (is_for s n p) (Some (Take p (exchange s p).serial (exchange s p).value)) e h in
      subst (GoesOn s n m t es) (same_Some (Take p (exchange s p).serial (exchange s p).value) e w.1) (take_goes_on p free w.0)

  -- Move 2: the service as the state, the node's own events and the node itself have it
  record Inside (v : Service) : Type 0 where
    told : Served
    held : Serving
    told_is : served_after es ≡ Some told
    held_is : t.service ≡ Some held
    known : IsServed s v told
    agree : ServiceAgrees far held told

  inside : (v : Service) → service s n ≡ Some v → Inside v
  inside v is = by (served_after es) t.service refl refl (subst (λ o. KnowsService s o (served_after es)) is at.knows.services) at.agrees.services
    where
      by : (u : Option Served) (x : Option Serving) → served_after es ≡ u → t.service ≡ x → KnowsService s (Some v) (served_after es) → ServicesAgree far t.service (served_after es) → Inside v
      by None x e f k a = absurd (subst (λ o. KnowsService s (Some v) o) e k)
      by (Some u) None e f k a = absurd (subst (λ o. ServicesAgree far o (Some u)) f (subst (λ o. ServicesAgree far t.service o) e a))
      by (Some u) (Some w) e f k a =
          record {
            told = u;
            held = w;
            told_is = e;
            held_is = f;
            known = subst (λ o. KnowsService s (Some v) o) e k;
            agree = subst (λ o. ServicesAgree far o (Some u)) f (subst (λ o. ServicesAgree far t.service o) e a);
          }

  -- what its service does next is what the table says, and it doesn't wait
  next_is : (w : Serving) (x : Next) → t.service ≡ Some w → moves.next t ≡ Some x → next_of t.kind t.arg w.value w.reply w.answers ≡ x
  next_is w x held h = by w.waits (sym (ap (option_and_then (moves.next_in t)) held) ∙ h)
    where
      by : (b : Bool) → cond b None (Some (next_of t.kind t.arg w.value w.reply w.answers)) ≡ Some x → next_of t.kind t.arg w.value w.reply w.answers ≡ x
      by true e = absurd (none-some x e)
      by false e = same_Some (next_of t.kind t.arg w.value w.reply w.answers) x e

  -- no port of its own is consequent where no call is left to end
  none_within : awaits_call s n ≡ false → (q : ℕ) → IsPortOf s.config n q → (exchange s q).within ≡ None
  none_within still q o = by (exchange s q).within refl
    where
      by : (x : Option ℕ) → (exchange s q).within ≡ x → (exchange s q).within ≡ None
      by None e = e
      by (Some i) e =
          let busy = (at.consistent.consequent q i e).busy in
          absurd (both_ways (awaits_call s n) still (of_any s.config n (is_call s) q o (and_from (not (is_idle (exchange s q).phase)) (is_some (exchange s q).within) (not_from_false (is_idle (exchange s q).phase) busy) (ap is_some e))))

  no_call : awaits_call s n ≡ false → HasNoCall far
  no_call still p busy = by (far p).consequent refl
    where
      asked_at : (o : Option Serving) → t.service ≡ o → calls_at m.first_port t p ≡ true → IsPortOf s.config n p
      asked_at None e h = absurd (both_ways (calls_at m.first_port t p) (ap (λ x. is_request_at m.first_port p (asked_by (option_and_then (moves.next_in t) x))) e) h)
      asked_at (Some w) e h = from (moves.next t) refl h
        where
          from : (o : Option Next) → moves.next t ≡ o → is_request_at m.first_port p (asked_by o) ≡ true → IsPortOf s.config n p
          from None f g = absurd (both_ways false refl g)
          from (Some (next.More y)) f g = absurd (both_ways false refl g)
          from (Some (next.Give y)) f g = absurd (both_ways false refl g)
          from (Some (next.Ask x)) f g =
              let small = at.small.service w e in
              let fits = asks_fit t.kind t.arg w.value w.reply w.answers x small.value small.reply small.answers (next_is w (next.Ask x) e f) in
              subst (IsPortOf s.config n) (eqb-true (m.first_port + x.require) p g) (own_port_of x.require (subst (λ k. x.require < length (row k).requires_) at.kind fits.require))

      by : (b : Bool) → (far p).consequent ≡ b → (far p).consequent ≡ false
      by false e = e
      by true e =
          let o = asked_at t.service refl (subst (λ b. expects b m.first_port t p ≡ true) e (at.agrees.ports p busy)) in
          ap (λ (x : OwnPort). x.consequent) (at.knows.ports p o) ∙ ap is_some (none_within still p o)

  calls_ended : (v : Service) → service s n ≡ Some v → awaits_call s n ≡ false → calls_have_ended s v.port ≡ true
  calls_ended v is still =
      let it = at.consistent.serving n v is in
      map_or_at (λ (x : Target). list_all (λ q. not (is_called_within s v.port q)) (ports_of s.config x.node)) (target s.config v.port) true (record { node = n; provide = it.provide }) it.linked
      ∙ of_all s.config n (λ q. not (is_called_within s v.port q)) (λ q o. ap (λ x. not (option_map_or (λ i. i == v.port) x false)) (none_within still q o))

  by_log : (u : Served) → served_after es ≡ Some u → (known_after m.first_port es).service ≡ Some u
  by_log u e = service_of_log m.first_port es ∙ e

  -- the port that it serves, with which the events of the service go
  record AtItsPort (v : Service) : Type 0 where
    live_there : is_live_port s.config v.port ≡ true
    taken_there : is_taken s v.port ≡ true
    leads_there : option_map (λ (x : Target). x.node) (target s.config v.port) ≡ Some n

  served_there : (v : Service) → service s n ≡ Some v → AtItsPort v
  served_there v is =
      let it = at.consistent.serving n v is in
      record {
        live_there = busy_is_live s v.port at.consistent (serving_busy (exchange s v.port).phase it.busy);
        taken_there = is_taken_if s v.port (record { node = n; provide = it.provide }) v it.linked is refl;
        leads_there = ap (option_map (λ (x : Target). x.node)) it.linked;
      }

  target_serves : (v : Service) → service s n ≡ Some v → target_service s v.port ≡ Some v
  target_serves v is = let it = at.consistent.serving n v is in target_service_is s v.port (record { node = n; provide = it.provide }) it.linked ∙ is

  give_goes_on : (v : Service) (y : ℕ) → service s n ≡ Some v → v.heard ≡ true → awaits_call s n ≡ false → moves.next t ≡ Some (next.Give y) → GoesOn s n m t es (Give v.port (exchange s v.port).serial y)
  give_goes_on v y is heard still h =
      let i = inside v is in
      let there = served_there v is in
      let small = at.small.service i.held i.held_is in
      record {
        allowed = record {
          live = there.live_there;
          taken = there.taken_there;
          heard = ap was_heard (target_serves v is) ∙ heard;
          serial = same_number (exchange s v.port).serial;
          calls_ended = calls_ended v is still;
          value = lt-ltb y value_limit (gives_fit t.kind t.arg i.held.value i.held.reply i.held.answers y small.value small.reply small.answers (next_is i.held (next.Give y) i.held_is h));
        };
        own = there.leads_there;
        of_node = refl;
        next = moves.after_give t;
        folds = where_it_is (is_give y (moves.next t)) (moves.after_give t) (ap (is_give y) h ∙ same_number y);
        in_turn = tt;
        hands_small = tt;
      }

  -- as many answers and further messages came as it called and sent
  all_came : (v : Service) (is : service s n ≡ Some v) → v.heard ≡ true → awaits_call s n ≡ false → (inside v is).told.calls + (inside v is).told.mores ≤ length (inside v is).held.answers
  all_came v is heard still = let i = inside v is in i.agree.all (i.known.heard ∙ heard) (no_call still)

  more_goes_on : (v : Service) (y : ℕ) → service s n ≡ Some v → v.heard ≡ true → awaits_call s n ≡ false → moves.next t ≡ Some (next.More y) → GoesOn s n m t es (More v.port (exchange s v.port).serial y)
  more_goes_on v y is heard still h =
      let i = inside v is in
      let there = served_there v is in
      let small = at.small.service i.held i.held_is in
      let table = next_is i.held (next.More y) i.held_is h in
      let few : length i.held.answers < mores_of m.node.kind 0 = subst (λ k. length i.held.answers < mores_of k 0) at.kind (mores_are_few t.kind t.arg i.held.value i.held.reply i.held.answers y table) in
      record {
        allowed = record {
          live = there.live_there;
          taken = there.taken_there;
          heard = ap was_heard (target_serves v is) ∙ heard;
          serial = same_number (exchange s v.port).serial;
          calls_ended = calls_ended v is still;
          mores_left = ap (has_mores_left s) (sym i.known.port)
              ∙ judged_mores s at.formed at.consistent n m at.made (known_after m.first_port es) at.knows_by_index i.told (by_log i.told i.told_is)
              ∙ lt-ltb i.told.mores (mores_of m.node.kind 0) (omega (arith, few, all_came v is heard still));
          value = lt-ltb y value_limit (mores_fit t.kind t.arg i.held.value i.held.reply i.held.answers y small.value small.reply small.answers table);
        };
        own = there.leads_there;
        of_node = refl;
        next = moves.after_more t;
        folds = where_it_is (is_more y (moves.next t)) (moves.after_more t) (ap (is_more y) h ∙ same_number y);
        in_turn = no_call still;
        hands_small = tt;
      }

  hear_goes_on : (v : Service) → service s n ≡ Some v → v.heard ≡ false → is_asked (exchange s v.port).phase ≡ true → GoesOn s n m t es (Hear v.port (exchange s v.port).serial (exchange s v.port).value)
  hear_goes_on v is unheard asked =
      let i = inside v is in
      let there = served_there v is in
      record {
        allowed = record {
          live = there.live_there;
          asked = asked;
          taken = there.taken_there;
          unheard = ap (λ o. not (was_heard o)) (target_serves v is) ∙ ap not unheard;
          message = and_from ((exchange s v.port).serial == (exchange s v.port).serial) ((exchange s v.port).value == (exchange s v.port).value) (same_number (exchange s v.port).serial) (same_number (exchange s v.port).value);
        };
        own = there.leads_there;
        of_node = refl;
        next = moves.after_answer t (exchange s v.port).value;
        folds = where_it_is (moves.waits t) (moves.after_answer t (exchange s v.port).value)
            (ap (λ o. option_map_or (λ (w : Serving). w.waits) o false) i.held_is ∙ i.agree.waits ∙ ap not (i.known.heard ∙ unheard));
        in_turn = tt;
        hands_small = (at.formed.bounds v.port).value;
      }

  -- a call, or a miss
  ask_goes_on : (v : Service) (x : Request) (p : ℕ) (e : Event) → m.first_port + x.require ≡ p → service s n ≡ Some v → v.heard ≡ true → awaits_call s n ≡ false → moves.next t ≡ Some (next.Ask x)
      → calls s p x.value ≡ Some e → GoesOn s n m t es e
  ask_goes_on v x p e is_p is heard still h c =
      let i = inside v is in
      let small = at.small.service i.held i.held_is in
      let table = next_is i.held (next.Ask x) i.held_is h in
      let fits = asks_fit t.kind t.arg i.held.value i.held.reply i.held.answers x small.value small.reply small.answers table in
      let within : x.require < length (row m.node.kind).requires_ = subst (λ k. x.require < length (row k).requires_) at.kind fits.require in
      let o : IsPortOf s.config n p = subst (IsPortOf s.config n) is_p (own_port_of x.require within) in
      let mine : owner s.config p ≡ n = owner_of s.config at.formed.sound n p o in
      let few : length i.held.answers < calls_of m.node.kind 0 = subst (λ k. length i.held.answers < calls_of k 0) at.kind (asks_are_few t.kind t.arg i.held.value i.held.reply i.held.answers x table) in
      let known = by_log i.told i.told_is in
      let live : is_live_port s.config p ≡ true = subst (λ q. is_live_port s.config q ≡ true) is_p (live_at x.require within) in
      let through : serves_through s (owner s.config p) p ≡ true =
      ap (λ k. serves_through s k p) mine ∙ ap (serves_through s n) (sym is_p)
      ∙ judged_serves_through s at.formed at.consistent n m at.made (known_after m.first_port es) at.knows_by_index i.told known x.require within
      ∙ ap (λ k. depends_on k 0 x.require) (sym at.kind) ∙ asks_depend t.kind t.arg i.held.value i.held.reply i.held.answers x table in
      let left : has_calls_left s (owner s.config p) ≡ true =
      ap (has_calls_left s) mine
      ∙ judged_calls s at.formed at.consistent n m at.made (known_after m.first_port es) at.knows_by_index i.told known
      ∙ lt-ltb i.told.calls (calls_of m.node.kind 0) (omega (arith, few, all_came v is heard still)) in
      let heard_there : was_heard (service s (owner s.config p)) ≡ true = ap (λ k. was_heard (service s k)) mine ∙ ap was_heard is ∙ heard in
      let idle = left_if (not (is_idle (exchange s p).phase)) (cond (is_missing s p) (Some (Miss p)) (Some (Call p ((exchange s p).serial + 1) x.value))) e c in
      let idle_is : is_idle (exchange s p).phase ≡ true = not-false (is_idle (exchange s p).phase) idle.0 in
      by (is_missing s p) refl idle.1 live through left heard_there idle_is mine fits.value
    where
      by : (b : Bool) → is_missing s p ≡ b → cond b (Some (Miss p)) (Some (Call p ((exchange s p).serial + 1) x.value)) ≡ Some e → is_live_port s.config p ≡ true
          → serves_through s (owner s.config p) p ≡ true → has_calls_left s (owner s.config p) ≡ true → was_heard (service s (owner s.config p)) ≡ true
          → is_idle (exchange s p).phase ≡ true → owner s.config p ≡ n → x.value < value_limit → GoesOn s n m t es e
      by true missing g live through left heard_there idle mine small =
          subst (GoesOn s n m t es) (same_Some (Miss p) e g)
          (record {
            allowed = record { live = live; serves_through = through; calls_left = left; heard = heard_there; idle = idle; missing = missing };
            own = ap Some mine;
            of_node = refl;
            next = moves.after_answer t 0;
            folds = where_it_is (calls_at m.first_port t p) (moves.after_answer t 0)
                (ap (λ o. is_request_at m.first_port p (asked_by o)) h ∙ eq-eqb (m.first_port + x.require) p is_p);
            in_turn = no_call still;
            hands_small = tt;
          })
      by false found g live through left heard_there idle mine small =
          let there = found_not_missing (target s.config p) ((exchange s p).serial == last_serial) found in
          subst (GoesOn s n m t es) (same_Some (Call p ((exchange s p).serial + 1) x.value) e g)
          (record {
            allowed = record {
              live = live;
              serves_through = through;
              calls_left = left;
              heard = heard_there;
              linked = there.0;
              idle = idle;
              next_serial = next_serial_is p there.1;
              value = lt-ltb x.value value_limit small;
            };
            own = ap Some mine;
            of_node = refl;
            next = t;
            folds = where_it_is (is_request m.first_port p x.value (asked_by (moves.next t))) t (requested x p is_p (asked_by (moves.next t)) (ap asked_by h));
            in_turn = no_call still;
            hands_small = tt;
          })

  next_goes_on : (v : Service) (x : Next) (e : Event) → service s n ≡ Some v → v.heard ≡ true → awaits_call s n ≡ false → moves.next t ≡ Some x → does_next s (first_port s n) v.port x ≡ Some e → GoesOn s n m t es e
  next_goes_on v (next.Give y) e is heard still h d = subst (GoesOn s n m t es) (same_Some (Give v.port (exchange s v.port).serial y) e d) (give_goes_on v y is heard still h)
  next_goes_on v (next.More y) e is heard still h d = subst (GoesOn s n m t es) (same_Some (More v.port (exchange s v.port).serial y) e d) (more_goes_on v y is heard still h)
  next_goes_on v (next.Ask x) e is heard still h d = ask_goes_on v x (first_port s n + x.require) e (ap (λ i. i + x.require) (sym first_is)) is heard still h d

  service_goes_on : (v : Service) (e : Event) → service s n ≡ Some v → awaits_call s n ≡ false → goes_on s n t v ≡ Some e → GoesOn s n m t es e
  service_goes_on v e is still h = by v.heard refl h
    where
      by : (b : Bool) → v.heard ≡ b → cond b (option_and_then (does_next s (first_port s n) v.port) (moves.next t)) (hears s v.port) ≡ Some e → GoesOn s n m t es e
      by true heard g = let w = then_is (does_next s (first_port s n) v.port) (moves.next t) e g in next_goes_on v w.0 e is heard still w.1 w.2
      by false unheard g =
          let w = taken_if (is_asked (exchange s v.port).phase) (Some (Hear v.port (exchange s v.port).serial (exchange s v.port).value)) e g in
          subst (GoesOn s n m t es) (same_Some (Hear v.port (exchange s v.port).serial (exchange s v.port).value) e w.1) (hear_goes_on v is unheard w.0)

  serves_go_on : (e : Event) → serves s n t ≡ Some e → GoesOn s n m t es e
  serves_go_on e h =
      let w = left_if (awaits_call s n) (option_and_then (goes_on s n t) (service s n)) e h in
      let v = then_is (goes_on s n t) (service s n) e w.1 in
      service_goes_on v.0 e v.1 w.0 v.2

  -- the event of the turn
  pub moves_go_on : (box : List ℕ) (allowed : Bool) (e : Event) → move_of s n t box allowed ≡ Some e → GoesOn s n m t es e
  moves_go_on box allowed e h =
      let taking : Option Event = cond (is_none (service s n)) (takes s n box) None in
      let beginning : Option Event = cond allowed (begins s n t) None in
      ⊎_elim (ends_go_on e) (λ later. ⊎_elim
      (serves_go_on e)
      (λ later. ⊎_elim
      (λ taking_is. let w = taken_if (is_none (service s n)) (takes s n box) e taking_is in takes_go_on box e (None-from_is_none (service s n) w.0) w.1)
      (λ beginning_is. begins_go_on e (taken_if allowed (begins s n t) e beginning_is).1)
      (or_else_is taking beginning e later))
      (or_else_is (serves s n t) (or_else taking beginning) e later))
      (or_else_is (ends s n t) (or_else (serves s n t) (or_else taking beginning)) e h)
