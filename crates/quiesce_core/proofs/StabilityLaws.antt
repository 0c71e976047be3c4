-- What stays while a transaction is open: where its port leads, and what the port holds until the event that answers to it.
use Rattle.std.proofs.Common.{◌≡◌, ◌∙◌, ℕ, ◌+◌, Bool, true, false, cond, ◌&&◌, length, Some, refl, sym, ap}
use Rattle.std.specs.Prelude.{◌==◌, nat_lt, nat_le, option_map}
use Rattle.std.specs.Option.{option_map_or}
use Rattle.std.proofs.lemmas.Bool.{and_from, and_parts, both_ways, eqb-true, eq-eqb, false_from_ne_true, leb-true, lt-ltb, true_from_ne_false}
use Rattle.std.proofs.lemmas.List.{get_or_past}
use Rattle.std.proofs.lemmas.Option.{same_Some}
use Rattle.config_graph.specs.Kinds.{row}
use Rattle.config_graph.specs.declared.node.Target.{Target}
use Rattle.quiesce_core.specs.declared.event.Event.{Event}
use Rattle.quiesce_core.specs.declared.event.Event.TheVariants.{Call, Take, Give, More, Hear, Miss, Close, Reopen, Make, Link, Unlink}
use Rattle.quiesce_core.specs.declared.state.Gate.{Gate}
use Rattle.quiesce_core.specs.declared.state.Service.{Service}
use Rattle.quiesce_core.specs.State.{State, fresh_gate, gate, owner, is_live, target, exchange, service, target_service}
use Rattle.quiesce_word.specs.Phases.{is_idle, is_answered, is_in_more}
use Rattle.quiesce_core.specs.Rules.{is_live_port, is_settled, is_taken, was_heard}
use Rattle.quiesce_core.specs.Doers.{is_ask_at, is_end_at, is_give_at, is_more_at}
use Rattle.quiesce_core.specs.Effect.{effect}
use Rattle.quiesce_core.specs.Runs.{is_doer}
use Rattle.quiesce_core.specs.Legal.{Legal}
use Rattle.quiesce_core.specs.Traffic.{IsConsistent}
use Rattle.quiesce_core.specs.WellFormed.{IsWellFormed}
use Rattle.quiesce_core.specs.Alters.{gate_next, service_next, service_by}
use Rattle.quiesce_core.proofs.AlterLaws.{reconfigured, services_next}
use Rattle.quiesce_core.proofs.SettledLaws.{settled_if}
use Rattle.quiesce_core.proofs.PortEventLaws.{Turn, asks, ends, gives, passes, replies, served_there, starts, turn_of}
use Rattle.quiesce_word.proofs.PhaseLaws.{answered_not_more, answered_busy, more_busy, serving_unanswered}
use Rattle.quiesce_core.proofs.StateLaws.{busy_made, is_taken_if, taken_busy, taken_is, target_service_is}
use Rattle.base.proofs.OptionLaws.{None-from_is_none, Some-from_is_some}

-- ---- where a port leads

-- a gate that is written where the test holds
target_written : (b : Bool) (g h : Gate) → (b ≡ true → g.target ≡ h.target) → (cond b g h).target ≡ h.target
target_written true g h same = same refl
target_written false g h same = refl

target_at : (s : State) (e : Event) → Legal s e → (p : ℕ) → (is_settled s (owner s.config p) ≡ true → ⊥) → (gate_next s.config p e).target ≡ target s.config p
target_at s (Close q) l p busy = target_written (q == p) (record (gate s.config p) { closed = true }) (gate s.config p) (λ h. refl)
target_at s (Reopen q) l p busy = target_written (q == p) (record (gate s.config p) { closed = false }) (gate s.config p) (λ h. refl)
target_at s (Make n node from) l p busy =
    target_written (nat_le (length s.config.gates) p && nat_lt p (length s.config.gates + length (row node.kind).requires_)) _ (gate s.config p) (λ h.
    let past = leb-true (length s.config.gates) p (and_parts (nat_le (length s.config.gates) p) (nat_lt p (length s.config.gates + length (row node.kind).requires_)) h).0 in
    sym (ap (λ (g : Gate). g.target) (get_or_past s.config.gates p fresh_gate past)))
target_at s (Link q n x) l p busy =
    target_written (q == p) _ (gate s.config p) (λ h. absurd (busy (ap (λ i. is_settled s (owner s.config i)) (sym (eqb-true q p h)) ∙ l.settled)))
target_at s (Unlink q) l p busy =
    target_written (q == p) _ (gate s.config p) (λ h. absurd (busy (ap (λ i. is_settled s (owner s.config i)) (sym (eqb-true q p h)) ∙ l.settled)))
target_at s _ l p busy = refl

-- the ports of a node that isn't settled keep their targets
pub unsettled_ports_stay : (s : State) (e : Event) → Legal s e → (p : ℕ) → (is_settled s (owner s.config p) ≡ true → ⊥) → target (effect s e).config p ≡ target s.config p
unsettled_ports_stay s e l p busy = ap (λ (g : Gate). g.target) ((reconfigured s e l).gates p) ∙ target_at s e l p busy

-- a port that isn't idle keeps its target
pub busy_ports_stay : (s : State) (e : Event) → IsWellFormed s → IsConsistent s → Legal s e → (p : ℕ) → is_idle (exchange s p).phase ≡ false → target (effect s e).config p ≡ target s.config p
busy_ports_stay s e w c l p busy = unsettled_ports_stay s e l p (λ settled.
    let own = (settled_if s w.sound (owner s.config p) settled).own p (w.sound.ports p (busy_made s p c busy)) in
    both_ways (is_idle (exchange s p).phase) busy (and_parts (gate s.config p).closed (is_idle (exchange s p).phase) own).1)

-- and its owner is live
pub busy_is_live : (s : State) (p : ℕ) → IsConsistent s → is_idle (exchange s p).phase ≡ false → is_live_port s.config p ≡ true
busy_is_live s p c busy =
    and_from (nat_lt p (length s.config.gates)) (is_live s.config (owner s.config p)) (lt-ltb p (length s.config.gates) (busy_made s p c busy))
    (true_from_ne_false (is_live s.config (owner s.config p)) (λ gone.
    let t = Some-from_is_some (target s.config p) (c.linked p busy) in cc (t.1, (c.removed p gone).1)))

-- while a node services, its own ports keep theirs
pub serving_nodes_stay : (s : State) (e : Event) → IsWellFormed s → Legal s e → (n : ℕ) (v : Service) → service s n ≡ Some v → (p : ℕ) → owner s.config p ≡ n
    → target (effect s e).config p ≡ target s.config p
serving_nodes_stay s e w l n v serves p owned = unsettled_ports_stay s e l p (λ settled.
    let none_ = (settled_if s w.sound (owner s.config p) settled).services_nothing in cc (none_, serves, ap (λ i. service s i) owned))

-- ---- what a port holds

-- an answered port isn't taken
taken_not_answered : (s : State) (p : ℕ) → IsConsistent s → is_taken s p ≡ true → is_answered (exchange s p).phase ≡ true → ⊥
taken_not_answered s p c h answered =
    let t = taken_is s p h in
    serving_unanswered (exchange s t.serving.port).phase (c.serving t.to.node t.serving t.serviced).busy (ap (λ i. is_answered (exchange s i).phase) t.of_port ∙ answered)

-- it holds its answer until its owner's End
pub answers_stay : (s : State) (e : Event) → IsWellFormed s → IsConsistent s → Legal s e → (p : ℕ) → is_answered (exchange s p).phase ≡ true → is_end_at p e ≡ false
    → exchange (effect s e) p ≡ exchange s p
answers_stay s e w c l p answered not_end = by (turn_of s e w l p)
  where
    by : Turn s p e → exchange (effect s e) p ≡ exchange s p
    by (passes now g m) = now
    by (starts h) = absurd (both_ways (is_idle (exchange s p).phase) (answered_busy (exchange s p).phase answered) h.idle)
    by (gives v t g now) = absurd (taken_not_answered s p c t answered)
    by (replies v t m now) = absurd (taken_not_answered s p c t answered)
    by (asks v m a g now) = absurd (both_ways (is_in_more (exchange s p).phase) (answered_not_more (exchange s p).phase answered) m)
    by (ends a d now) = absurd (both_ways (is_end_at p e) not_end d)

-- what the target of a port that is in more services waits for a further message
more_waits : (s : State) (p : ℕ) → IsConsistent s → is_in_more (exchange s p).phase ≡ true → is_taken s p ≡ true → was_heard (target_service s p) ≡ true → ⊥
more_waits s p c more_ taken heard =
    let t = taken_is s p taken in
    let waits : t.serving.heard ≡ false = (c.serving t.to.node t.serving t.serviced).waits (ap (λ i. is_in_more (exchange s i).phase) t.of_port ∙ more_) in
    let same : was_heard (target_service s p) ≡ t.serving.heard = ap was_heard (target_service_is s p t.to t.leads ∙ t.serviced) in
    both_ways t.serving.heard waits (sym same ∙ heard)

-- so it sends nothing more before it has heard one
unheard : (s : State) (p : ℕ) (e : Event) → IsConsistent s → Legal s e → is_in_more (exchange s p).phase ≡ true → (is_give_at p e ≡ false) × (is_more_at p e ≡ false)
unheard s p (Give q k v) c l more_ =
    (false_from_ne_true (q == p) (λ h. more_waits s q c (ap (λ i. is_in_more (exchange s i).phase) (eqb-true q p h) ∙ more_) l.taken l.heard), refl)
unheard s p (More q k v) c l more_ =
    (refl, false_from_ne_true (q == p) (λ h. more_waits s q c (ap (λ i. is_in_more (exchange s i).phase) (eqb-true q p h) ∙ more_) l.taken l.heard))
unheard s p _ c l more_ = (refl, refl)

-- an intermediate reply stands until its owner's Ask
pub replies_stay : (s : State) (e : Event) → IsWellFormed s → IsConsistent s → Legal s e → (p : ℕ) → is_in_more (exchange s p).phase ≡ true → is_ask_at p e ≡ false
    → exchange (effect s e) p ≡ exchange s p
replies_stay s e w c l p more_ not_ask = by (turn_of s e w l p)
  where
    by : Turn s p e → exchange (effect s e) p ≡ exchange s p
    by (passes now g m) = now
    by (starts h) = absurd (both_ways (is_idle (exchange s p).phase) (more_busy (exchange s p).phase more_) h.idle)
    by (gives v t g now) = absurd (both_ways (is_give_at p e) (unheard s p e c l more_).0 g)
    by (replies v t m now) = absurd (both_ways (is_more_at p e) (unheard s p e c l more_).1 m)
    by (asks v m a g now) = absurd (both_ways (is_ask_at p e) not_ask a)
    by (ends a d now) = absurd (both_ways (is_in_more (exchange s p).phase) (answered_not_more (exchange s p).phase a) more_)

-- ---- who services a port

-- what the node that services a port services after an event that isn't the port's Give: the same port still
pub serves_on : (s : State) (e : Event) → IsConsistent s → Legal s e → (n : ℕ) (v : Service) → service s n ≡ Some v → is_give_at v.port e ≡ false
    → (u : Service) × (service_next s n e ≡ Some u) × (u.port ≡ v.port)
serves_on s e c l n v serves not_give = by (is_doer s n e) refl
  where
    mapped : (f : Service → Service) → ((x : Service) → (f x).port ≡ x.port) → (u : Service) × (option_map f (service s n) ≡ Some u) × (u.port ≡ v.port)
    mapped f same = (f v, ap (option_map f) serves, same v)

    same_service : (u : Service) × (service s n ≡ Some u) × (u.port ≡ v.port)
    same_service = (v, serves, refl)

    led : (q : ℕ) → option_map_or (λ m. m == n) (option_map (λ (t : Target). t.node) (target s.config q)) false ≡ true → target_service s q ≡ Some v
    led q h = served_there s q n h ∙ serves

    turn : (e : Event) → Legal s e → is_give_at v.port e ≡ false → is_doer s n e ≡ true → (u : Service) × (service_by (service s n) e ≡ Some u) × (u.port ≡ v.port)
    turn (Call q k j) l never does = mapped (λ (w : Service). record w { calls = w.calls + 1 }) (λ x. refl)
    turn (Miss q) l never does = mapped (λ (w : Service). record w { calls = w.calls + 1 }) (λ x. refl)
    turn (Take q k j) l never does = let free = None-from_is_none (target_service s q) l.free in absurd (cc (free, led q does))
    turn (Give q k j) l never does =
        let t = taken_is s q l.taken in
        let one : Some t.serving ≡ Some v = sym (target_service_is s q t.to t.leads ∙ t.serviced) ∙ led q does in
        absurd (both_ways (q == v.port) never (eq-eqb q v.port (sym t.of_port ∙ ap (λ (w : Service). w.port) (same_Some t.serving v one))))
    turn (More q k j) l never does = mapped (λ (w : Service). record w { mores = w.mores + 1; heard = false }) (λ x. refl)
    turn (Hear q k j) l never does = mapped (λ (w : Service). record w { heard = true }) (λ x. refl)
    turn _ l never does = same_service

    by : (b : Bool) → is_doer s n e ≡ b → (u : Service) × (service_next s n e ≡ Some u) × (u.port ≡ v.port)
    by true does = rw does (turn e l not_give does)
    by false does = rw does same_service

-- a taken port stays so until its Give
pub taken_ports_stay : (s : State) (e : Event) → IsWellFormed s → IsConsistent s → Legal s e → (p : ℕ) → is_taken s p ≡ true → is_give_at p e ≡ false → is_taken (effect s e) p ≡ true
taken_ports_stay s e w c l p taken not_give =
    let t = taken_is s p taken in
    let on = serves_on s e c l t.to.node t.serving t.serviced (ap (λ i. is_give_at i e) t.of_port ∙ not_give) in
    is_taken_if (effect s e) p t.to on.0 (busy_ports_stay s e w c l p (taken_busy s p c taken) ∙ t.leads) (services_next s e w l t.to.node ∙ on.1) (on.2 ∙ t.of_port)
