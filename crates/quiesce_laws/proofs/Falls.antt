-- Of each event of an open transaction: what is left of it falls, and of other ports nothing changes.
use Rattle.std.proofs.Common.{◌≡◌, ℕ, suc, ◌+◌, ◌-◌, ◌*◌, ◌<◌, ◌≤◌, Bool, true, false, not, cond, length, Option, Some, None, refl, sym, ap, ◌∙◌, subst, inl, ⊎_elim, arith}
use Rattle.std.specs.Prelude.{◌||◌, nat_lt, is_none, option_map}
use Rattle.std.specs.Option.{option_map_or}
use Rattle.std.proofs.Math.Nat.{suc-mul}
use Rattle.std.proofs.lemmas.Bool.{both_ways, cases_eq, ltb-true, not-true, or_left, or_right}
use Rattle.config_graph.specs.declared.node.Target.{Target}
use Rattle.quiesce_core.specs.declared.event.Event.TheVariants.{Begin, Call, Take, Give, End, More, Ask, Hear, Miss}
use Rattle.quiesce_core.specs.declared.state.Exchange.{Exchange}
use Rattle.quiesce_core.specs.declared.state.Service.{Service}
use Rattle.quiesce_word.specs.declared.phase.Phase.{Phase}
use Rattle.quiesce_word.specs.declared.phase.Phase.TheVariants as phase
use Rattle.quiesce_core.specs.State.{Traffic, State, owner, target, provision, calls_allowed, mores_allowed, depends, exchange, service, target_service}
use Rattle.quiesce_word.specs.Phases.{is_idle, is_asked, is_answered, is_in_more}
use Rattle.quiesce_core.specs.Effect.{with_exchange, with_service, with_target_service, effect}
use Rattle.quiesce_core.specs.Legal.{Legal}
use Rattle.quiesce_core.specs.Rest.{full, call_events, events_through, messages_due}
use Rattle.quiesce_core.specs.Rules.{is_taken, is_live_port, has_calls_left, serves_through, was_heard}
use Rattle.quiesce_core.specs.Traffic.{IsConsistent}
use Rattle.quiesce_core.specs.WellFormed.{IsWellFormed}
use Rattle.quiesce_core.proofs.TableLaws.{gate_place, exchange_place, owner_place, target_place}
use Rattle.quiesce_core.proofs.RestLaws.{full_step}
use Rattle.quiesce_laws.specs.Drain.{rest_at}
use Rattle.quiesce_laws.proofs.Busy.{busy_target, untaken_if}
use Rattle.quiesce_core.proofs.StateLaws.{busy_made, exchange_here, exchange_there, service_here, service_there, taken_is, idle_unserved, served_busy, provision_is, put_is, target_service_is}
use Rattle.quiesce_laws.proofs.Greatest.{call_counted}
use Rattle.quiesce_laws.proofs.Weights.{left_idle, left_answered, left_untaken, left_taken, left_same, left_elsewhere}
use Rattle.quiesce_word.proofs.PhaseLaws.{asked_busy, serving_busy, asked_not_more}
use Rattle.base.proofs.OptionLaws.{Some-from_is_some, map_or_true, map_or_at}

-- what is left of port p falls, and of no other port changes
pub record Falls (s : State) (t' : Traffic) (p : ℕ) : Type 0 where
  pub made : p < length s.config.gates
  pub here : rest_at (record s { traffic = t' }) p + 1 ≤ rest_at s p
  pub others : (q : ℕ) → (q ≡ p → ⊥) → rest_at (record s { traffic = t' }) q ≡ rest_at s q

-- the numbers

pub due_two : (v : Service) (f : Phase) → 2 ≤ messages_due v f
due_two v f = at v.heard f
  where
    at : (b : Bool) (f : Phase) → 2 ≤ cond b 2 (cond (is_in_more f) 4 3)
    at true f = omega arith
    at false phase.Idle = omega arith
    at false phase.Asked = omega arith
    at false phase.Answered = omega arith
    at false phase.More = omega arith

due_at : (v : Service) (f : Phase) (b : Bool) → v.heard ≡ b → messages_due v f ≡ cond b 2 (cond (is_in_more f) 4 3)
due_at v f b e = ap (λ b. cond b 2 (cond (is_in_more f) 4 3)) e

due_unheard : (v : Service) (f : Phase) (b : Bool) → v.heard ≡ false → is_in_more f ≡ b → messages_due v f ≡ cond b 4 3
due_unheard v f b e m = due_at v f false e ∙ ap (λ b. cond b 4 3) m

taken_less : (m c e a : ℕ) → a ≡ 3 + 3 * m + c * e → 3 * (m - 0) + (c - 0) * e + 2 + 1 ≤ a
taken_less m c e a h = let same : c - 0 ≡ c = omega arith in rw same (omega arith)

more_less : (m i x d : ℕ) → i < m → d ≡ 2 → 3 * (m - (i + 1)) + x + 4 + 1 ≤ 3 * (m - i) + x + d
more_less m i x d h e = omega arith

call_less : (c i e a : ℕ) → i < c → a ≤ e → (c - (i + 1)) * e + a ≤ (c - i) * e
call_less c i e a h l =
    let size : c - i ≡ suc (c - (i + 1)) = omega arith in
    rw (size, suc-mul) (omega arith)

-- Take, Hear: what the target services changes alone

pub take_falls : (s : State) (p k v : ℕ) → IsWellFormed s → IsConsistent s → Legal s (Take p k v) → Falls s (effect s (Take p k v)).traffic p
take_falls s p k v w c l =
    let busy = asked_busy (exchange s p).phase l.asked in
    let t = busy_target s p c busy in
    let new : Service = record { port = p; calls = 0; mores = 0; heard = true } in
    let s' : State = with_service s t.0.node (Some new) in
    let free : service s t.0.node ≡ None = sym (target_service_is s p t.0 t.1) ∙ none_if (target_service s p) l.free in
    let now : service s' t.0.node ≡ Some new = service_here s t.0.node (Some new) (target_place s p t.0 w t.1) in
    let either_ = or_left (is_asked (exchange s p).phase) (is_in_more (exchange s p).phase) l.asked in
    let before : rest_at s p ≡ full s.config t.0.node t.0.provide = left_untaken s p t.0 either_ t.1 (not-true (is_taken s p) l.untaken) in
    let after = left_taken s' p t.0 new either_ t.1 now refl in
    let result : Falls s s'.traffic p = record {
      made = gate_place s p l.live;
      here = omega (
        arith,
        after,
        before,
        taken_less (mores_allowed s.config t.0.node t.0.provide) (calls_allowed s.config t.0.node t.0.provide) (call_events s.config t.0.node t.0.provide)
            (full s.config t.0.node t.0.provide) (full_step s.config w.sound.no_cycle t.0.node t.0.provide),
      );
      others = λ q ne. left_elsewhere s s'.traffic t.0.node q refl (λ m other. service_there s t.0.node m (Some new) other)
          (λ u e same. cc (free, e)) (λ u e same. let one : new ≡ u = cc (now, e) in ne (sym same ∙ sym (ap (λ (y : Service). y.port) one)));
    } in
    subst (λ (y : State). Falls s y.traffic p) (sym (put_is s p t.0 (Some new) t.1)) result
  where
    none_if : (v : Option Service) → is_none v ≡ true → v ≡ None
    none_if None h = refl
    none_if (Some v) h = absurd (both_ways false refl h)

pub hear_falls : (s : State) (p k v : ℕ) → IsWellFormed s → IsConsistent s → Legal s (Hear p k v) → Falls s (effect s (Hear p k v)).traffic p
hear_falls s p k v w c l =
    let at = taken_is s p l.taken in
    let t = at.to in
    let old = at.serving in
    let new : Service = record old { heard = true } in
    let s' : State = with_service s t.node (Some new) in
    let now : service s' t.node ≡ Some new = service_here s t.node (Some new) (target_place s p t w at.leads) in
    let either_ = or_left (is_asked (exchange s p).phase) (is_in_more (exchange s p).phase) l.asked in
    let unheard : old.heard ≡ false =
    not-true old.heard (sym (ap (λ o. not (was_heard o)) (target_service_is s p t at.leads ∙ at.serviced)) ∙ l.unheard) in
    let before = left_taken s p t old either_ at.leads at.serviced at.of_port in
    let after = left_taken s' p t new either_ at.leads now at.of_port in
    let due = due_unheard old (exchange s p).phase false unheard (asked_not_more (exchange s p).phase l.asked) in
    let result : Falls s s'.traffic p = record {
      made = gate_place s p l.live;
      here = omega (arith, after, before, due);
      others = λ q ne. left_elsewhere s s'.traffic t.node q refl (λ m other. service_there s t.node m (Some new) other)
          (λ u e same. let one : old ≡ u = cc (at.serviced, e) in ne (sym same ∙ sym (ap (λ (y : Service). y.port) one) ∙ at.of_port))
          (λ u e same. let one : new ≡ u = cc (now, e) in ne (sym same ∙ sym (ap (λ (y : Service). y.port) one) ∙ at.of_port));
    } in
    let put : effect s (Hear p k v) ≡ s' =
    ap (λ o. with_target_service s p (option_map (λ (u : Service). record u { heard = true }) o)) (target_service_is s p t at.leads ∙ at.serviced) ∙ put_is s p t (Some new) at.leads in
    subst (λ (y : State). Falls s y.traffic p) (sym put) result

-- Ask, End: what is done at the port changes alone

pub ask_falls : (s : State) (p k v : ℕ) → IsWellFormed s → IsConsistent s → Legal s (Ask p k v) → Falls s (effect s (Ask p k v)).traffic p
ask_falls s p k v w c l =
    let x : Exchange = record (exchange s p) { phase = phase.Asked; value = v } in
    let s' : State = with_exchange s p x in
    let here : exchange s' p ≡ x = exchange_here s p x (exchange_place s p w l.live) in
    let at = taken_is s p (c.taken p l.in_more) in
    let old = at.serving in
    let unheard : old.heard ≡ false = (c.serving at.to.node old at.serviced).waits (ap (λ i. is_in_more (exchange s i).phase) at.of_port ∙ l.in_more) in
    let before = left_taken s p at.to old (or_right (is_asked (exchange s p).phase) (is_in_more (exchange s p).phase) l.in_more) at.leads at.serviced at.of_port in
    let after = left_taken s' p at.to old (ap (λ (y : Exchange). is_asked y.phase || is_in_more y.phase) here) at.leads at.serviced at.of_port in
    let due = due_unheard old (exchange s p).phase true unheard l.in_more in
    let due' = due_unheard old (exchange s' p).phase false unheard (ap (λ (y : Exchange). is_in_more y.phase) here) in
    record {
      made = gate_place s p l.live;
      here = omega (arith, after, before, due, due');
      others = λ q ne. left_same s s'.traffic q (exchange_there s p q x ne) (λ u e. inl refl);
    }

pub end_falls : (s : State) (p k v : ℕ) → IsWellFormed s → IsConsistent s → Legal s (End p k v) → Falls s (effect s (End p k v)).traffic p
end_falls s p k v w c l =
    let x : Exchange = record (exchange s p) { phase = phase.Idle; value = 0; within = None } in
    let s' : State = with_exchange s p x in
    let here : exchange s' p ≡ x = exchange_here s p x (exchange_place s p w l.live) in
    record {
      made = gate_place s p l.live;
      here = omega (arith, left_answered s p l.answered, left_idle s' p (ap (λ (y : Exchange). is_idle y.phase) here));
      others = λ q ne. left_same s s'.traffic q (exchange_there s p q x ne) (λ u e. inl refl);
    }

-- Give, More: both change

pub give_falls : (s : State) (p k v : ℕ) → IsWellFormed s → IsConsistent s → Legal s (Give p k v) → Falls s (effect s (Give p k v)).traffic p
give_falls s p k v w c l =
    let at = taken_is s p l.taken in
    let t = at.to in
    let old = at.serving in
    let x : Exchange = record (exchange s p) { phase = phase.Answered; value = v } in
    let s' : State = with_exchange (with_service s t.node None) p x in
    let here : exchange s' p ≡ x = exchange_here (with_service s t.node None) p x (exchange_place s p w l.live) in
    let now : service s' t.node ≡ None = service_here s t.node None (target_place s p t w at.leads) in
    let before = left_taken s p t old (served_busy s p c t.node old at.serviced at.of_port) at.leads at.serviced at.of_port in
    let after : rest_at s' p ≡ 1 = left_answered s' p (ap (λ (y : Exchange). is_answered y.phase) here) in
    let result : Falls s s'.traffic p = record {
      made = gate_place s p l.live;
      here = omega (arith, after, before, due_two old (exchange s p).phase);
      others = λ q ne. left_elsewhere s s'.traffic t.node q (exchange_there (with_service s t.node None) p q x ne) (λ m other. service_there s t.node m None other)
          (λ u e same. let one : old ≡ u = cc (at.serviced, e) in ne (sym same ∙ sym (ap (λ (y : Service). y.port) one) ∙ at.of_port))
          (λ u e same. cc (now, e));
    } in
    subst (λ (y : State). Falls s (with_exchange y p (record (exchange s p) { phase = phase.Answered; value = v })).traffic p) (sym (put_is s p t None at.leads)) result

pub more_falls : (s : State) (p k v : ℕ) → IsWellFormed s → IsConsistent s → Legal s (More p k v) → Falls s (effect s (More p k v)).traffic p
more_falls s p k v w c l =
    let at = taken_is s p l.taken in
    let t = at.to in
    let old = at.serving in
    let new : Service = record old { mores = old.mores + 1; heard = false } in
    let x : Exchange = record (exchange s p) { phase = phase.More; value = v } in
    let s' : State = with_exchange (with_service s t.node (Some new)) p x in
    let here : exchange s' p ≡ x = exchange_here (with_service s t.node (Some new)) p x (exchange_place s p w l.live) in
    let now : service s' t.node ≡ Some new = service_here s t.node (Some new) (target_place s p t w at.leads) in
    let heard : old.heard ≡ true = sym (ap was_heard (target_service_is s p t at.leads ∙ at.serviced)) ∙ l.heard in
    let below : nat_lt old.mores (mores_allowed s.config t.node t.provide) ≡ true =
    sym (map_or_at (λ (u : Service). nat_lt u.mores (mores_allowed s.config t.node t.provide)) (service s t.node) false old at.serviced)
    ∙ sym (map_or_at (λ (y : Target). option_map_or (λ (u : Service). nat_lt u.mores (mores_allowed s.config y.node y.provide)) (service s y.node) false) (target s.config p) false t at.leads)
    ∙ l.mores_left in
    let before = left_taken s p t old (served_busy s p c t.node old at.serviced at.of_port) at.leads at.serviced at.of_port in
    let after = left_taken s' p t new (ap (λ (y : Exchange). is_asked y.phase || is_in_more y.phase) here) at.leads now at.of_port in
    let due = due_at old (exchange s p).phase true heard in
    let due' = due_unheard new (exchange s' p).phase true refl (ap (λ (y : Exchange). is_in_more y.phase) here) in
    let less = more_less (mores_allowed s.config t.node t.provide) old.mores ((calls_allowed s.config t.node t.provide - old.calls) * call_events s.config t.node t.provide)
    (messages_due old (exchange s p).phase) (ltb-true old.mores (mores_allowed s.config t.node t.provide) below) due in
    let result : Falls s s'.traffic p = record {
      made = gate_place s p l.live;
      here = omega (arith, after, before, due', less);
      others = λ q ne. left_elsewhere s s'.traffic t.node q (exchange_there (with_service s t.node (Some new)) p q x ne) (λ m other. service_there s t.node m (Some new) other)
          (λ u e same. let one : old ≡ u = cc (at.serviced, e) in ne (sym same ∙ sym (ap (λ (y : Service). y.port) one) ∙ at.of_port))
          (λ u e same. let one : new ≡ u = cc (now, e) in ne (sym same ∙ sym (ap (λ (y : Service). y.port) one) ∙ at.of_port));
    } in
    let put : with_target_service s p (option_map (λ (u : Service). record u { mores = u.mores + 1; heard = false }) (target_service s p)) ≡ with_service s t.node (Some new) =
    ap (λ o. with_target_service s p (option_map (λ (u : Service). record u { mores = u.mores + 1; heard = false }) o)) (target_service_is s p t at.leads ∙ at.serviced) ∙ put_is s p t (Some new) at.leads in
    subst (λ (y : State). Falls s (with_exchange y p (record (exchange s p) { phase = phase.More; value = v })).traffic p) (sym put) result

-- Miss and Call: one call less is left in the service of the port's owner

-- the port's owner makes a call for the port that it services
pub record Calling (s : State) (p : ℕ) : Type 0 where
  pub serving : Service
  pub serviced : service s (owner s.config p) ≡ Some serving
  pub made : serving.port < length s.config.gates
  pub falls : rest_at (with_service s (owner s.config p) (Some (record serving { calls = serving.calls + 1 }))) serving.port + events_through s.config p ≤ rest_at s serving.port
  pub others : (q : ℕ) → (q ≡ serving.port → ⊥) → rest_at (with_service s (owner s.config p) (Some (record serving { calls = serving.calls + 1 }))) q ≡ rest_at s q

calling : (s : State) (p : ℕ) → IsWellFormed s → IsConsistent s → is_live_port s.config p ≡ true → serves_through s (owner s.config p) p ≡ true → has_calls_left s (owner s.config p) ≡ true → Calling s p
calling s p w c live through calls =
    let n = owner s.config p in
    let served = map_or_true (λ (v : Service). nat_lt v.calls (calls_allowed s.config n (provision s.config v.port))) (service s n) calls in
    let old = served.0 in
    let new : Service = record old { calls = old.calls + 1 } in
    let s' : State = with_service s n (Some new) in
    let at = c.serving n old served.1 in
    let t : Target = record { node = n; provide = at.provide } in
    let by : provision s.config old.port ≡ at.provide = provision_is s.config old.port n at.provide at.linked in
    let now : service s' n ≡ Some new = service_here s n (Some new) (owner_place s p w live) in
    let before = left_taken s old.port t old at.busy at.linked served.1 refl in
    let after = left_taken s' old.port t new at.busy at.linked now refl in
    let few : old.calls < calls_allowed s.config n at.provide =
    subst (λ x. old.calls < calls_allowed s.config n x) by (ltb-true old.calls (calls_allowed s.config n (provision s.config old.port)) served.2) in
    let dep : depends s.config n at.provide p ≡ true =
    subst (λ x. depends s.config n x p ≡ true) by
    (sym (map_or_at (λ (u : Service). depends s.config n (provision s.config u.port) p) (service s n) false old served.1) ∙ through) in
    let less = call_less (calls_allowed s.config n at.provide) old.calls (call_events s.config n at.provide) (events_through s.config p) few
    (call_counted s.config n at.provide p (w.sound.ports p (gate_place s p live)) dep) in
    record {
      serving = old;
      serviced = served.1;
      made = busy_made s old.port c (serving_busy (exchange s old.port).phase at.busy);
      falls = omega (arith, after, before, less);
      others = λ q ne. left_elsewhere s s'.traffic n q refl (λ m other. service_there s n m (Some new) other)
          (λ u e same. let one : old ≡ u = cc (served.1, e) in ne (sym same ∙ sym (ap (λ (y : Service). y.port) one)))
          (λ u e same. let one : new ≡ u = cc (now, e) in ne (sym same ∙ sym (ap (λ (y : Service). y.port) one)));
    }

pub miss_calls : (s : State) (p : ℕ) → IsWellFormed s → IsConsistent s → Legal s (Miss p) → Calling s p
miss_calls s p w c l = calling s p w c l.live l.serves_through l.calls_left

pub call_calls : (s : State) (p k v : ℕ) → IsWellFormed s → IsConsistent s → Legal s (Call p k v) → Calling s p
call_calls s p k v w c l = calling s p w c l.live l.serves_through l.calls_left

pub miss_falls : (s : State) (p : ℕ) (at : Calling s p) → Falls s (effect s (Miss p)).traffic at.serving.port
miss_falls s p at =
    let n = owner s.config p in
    let s' : State = with_service s n (Some (record at.serving { calls = at.serving.calls + 1 })) in
    let result : Falls s s'.traffic at.serving.port = record { made = at.made; here = omega (arith, at.falls); others = at.others } in
    subst (λ o. Falls s (with_service s n (option_map (λ (u : Service). record u { calls = u.calls + 1 }) o)).traffic at.serving.port) (sym at.serviced) result

-- a transaction was begun at a port, which came to have all that is left of one
pub record Rises (s : State) (t' : Traffic) (p : ℕ) : Type 0 where
  pub made : p < length s.config.gates
  pub before : rest_at s p ≡ 0
  pub to : Target
  pub leads : target s.config p ≡ Some to
  pub after : rest_at (record s { traffic = t' }) p ≡ full s.config to.node to.provide
  pub unserved : (m : ℕ) (v : Service) → service (record s { traffic = t' }) m ≡ Some v → v.port ≡ p → ⊥
  pub others : (q : ℕ) → (q ≡ p → ⊥) → rest_at (record s { traffic = t' }) q ≡ rest_at s q

pub begin_rises : (s : State) (p k v : ℕ) → IsWellFormed s → IsConsistent s → Legal s (Begin p k v) → Rises s (effect s (Begin p k v)).traffic p
begin_rises s p k v w c l =
    let x : Exchange = record { phase = phase.Asked; serial = k; value = v; within = None } in
    let s' : State = with_exchange s p x in
    let here : exchange s' p ≡ x = exchange_here s p x (exchange_place s p w l.live) in
    let t = Some-from_is_some (target s.config p) l.linked in
    record {
      made = gate_place s p l.live;
      before = left_idle s p l.idle;
      to = t.0;
      leads = t.1;
      after = left_untaken s' p t.0 (ap (λ (y : Exchange). is_asked y.phase || is_in_more y.phase) here) t.1
          (untaken_if s' p t.0 t.1 (λ u e same. idle_unserved s p c l.idle t.0.node u e same));
      unserved = λ m u e same. idle_unserved s p c l.idle m u e same;
      others = λ q ne. left_same s s'.traffic q (exchange_there s p q x ne) (λ u e. inl refl);
    }

-- what a call moves from the port that is serviced to the port that is called
pub record Moves (s : State) (t' : Traffic) (p : ℕ) (r : ℕ) : Type 0 where
  pub made : p < length s.config.gates
  pub made_served : r < length s.config.gates
  pub other : p ≡ r → ⊥
  pub to : Target
  pub leads : target s.config p ≡ Some to
  pub here : rest_at (record s { traffic = t' }) p ≡ full s.config to.node to.provide
  pub there : rest_at (record s { traffic = t' }) r + (1 + full s.config to.node to.provide) ≤ rest_at s r
  pub unserved : (m : ℕ) (v : Service) → service (record s { traffic = t' }) m ≡ Some v → v.port ≡ p → ⊥
  pub others : (q : ℕ) → (q ≡ p → ⊥) → (q ≡ r → ⊥) → rest_at (record s { traffic = t' }) q ≡ rest_at s q

pub call_moves : (s : State) (p k v : ℕ) → IsWellFormed s → IsConsistent s → Legal s (Call p k v) → (at : Calling s p) → Moves s (effect s (Call p k v)).traffic p at.serving.port
call_moves s p k v w c l at =
    let n = owner s.config p in
    let old = at.serving in
    let new : Service = record old { calls = old.calls + 1 } in
    let x : Exchange = record { phase = phase.Asked; serial = k; value = v; within = Some old.port } in
    let mid : State = with_service s n (Some new) in
    let s' : State = with_exchange mid p x in
    let here : exchange s' p ≡ x = exchange_here mid p x (exchange_place s p w l.live) in
    let t = Some-from_is_some (target s.config p) l.linked in
    let other : p ≡ old.port → ⊥ = λ same. idle_unserved s p c l.idle n old at.serviced (sym same) in
    let stays : (q : ℕ) → (q ≡ p → ⊥) → rest_at s' q ≡ rest_at mid q = λ q ne. left_same mid s'.traffic q (exchange_there mid p q x ne) (λ u e. inl refl) in
    let unserved : (m : ℕ) (u : Service) → service s' m ≡ Some u → u.port ≡ p → ⊥ = λ m u e same. ⊎_elim
    (λ (mine : m ≡ n).
    let now : service s' n ≡ Some new = service_here s n (Some new) (owner_place s p w l.live) in
    let one : new ≡ u = cc (now, e, ap (λ i. service s' i) mine) in
    other (sym same ∙ sym (ap (λ (y : Service). y.port) one)))
    (λ (else_ : m ≡ n → ⊥). idle_unserved s p c l.idle m u (sym (service_there s n m (Some new) else_) ∙ e) same)
    (cases_eq m n) in
    let amount : events_through s.config p ≡ 1 + full s.config t.0.node t.0.provide =
    ap (λ i. 1 + i) (map_or_at (λ (u : Target). full s.config u.node u.provide) (target s.config p) 0 t.0 t.1) in
    let result : Moves s s'.traffic p old.port = record {
      made = gate_place s p l.live;
      made_served = at.made;
      other = other;
      to = t.0;
      leads = t.1;
      unserved = unserved;
      here = left_untaken s' p t.0 (ap (λ (y : Exchange). is_asked y.phase || is_in_more y.phase) here) t.1 (untaken_if s' p t.0 t.1 (λ u e same. unserved t.0.node u e same));
      there = omega (arith, stays old.port (λ same. other (sym same)), at.falls, amount);
      others = λ q ne nor. stays q ne ∙ at.others q nor;
    } in
    subst (λ o. Moves s (with_exchange (with_service s n (option_map (λ (u : Service). record u { calls = u.calls + 1 }) o)) p (record { phase = phase.Asked; serial = k; value = v; within = option_map (λ (u : Service). u.port) o })).traffic p old.port)
    (sym at.serviced) result
