-- What an event that may happen is to a port, and what it leaves of a service.
use Rattle.std.proofs.Common.{◌≡◌, ◌∙◌, ℕ, ◌+◌, Bool, true, false, cond, ◌⊎◌, inl, inr, Option, Some, None, refl, ap, sym}
use Rattle.std.specs.Prelude.{◌==◌, nat_le, option_map}
use Rattle.std.specs.Option.{option_map_or}
use Rattle.std.proofs.lemmas.Bool.{and_parts, both_ways, eq-eqb, eqb-true, false_from_ne_true}
use Rattle.config_graph.specs.declared.node.Target.{Target}
use Rattle.quiesce_word.specs.Phases.{is_answered, is_idle, is_in_more}
use Rattle.quiesce_word.specs.declared.phase.Phase.TheVariants as phase
use Rattle.quiesce_core.specs.declared.event.Event.{Event}
use Rattle.quiesce_core.specs.declared.event.Event.TheVariants.{Begin, Call, Give, End, More, Ask}
use Rattle.quiesce_core.specs.declared.state.Exchange.{Exchange}
use Rattle.quiesce_core.specs.declared.state.Service.{Service}
use Rattle.quiesce_core.specs.State.{State, exchange, owner, service, target, target_service}
use Rattle.quiesce_core.specs.Rules.{is_linked, is_next_serial, is_taken, last_serial, serves_through}
use Rattle.quiesce_core.specs.Doers.{is_ask_at, is_end_at, is_give_at, is_more_at}
use Rattle.quiesce_core.specs.Effect.{effect}
use Rattle.quiesce_core.specs.Legal.{Legal}
use Rattle.quiesce_core.specs.Runs.{is_doer}
use Rattle.quiesce_core.specs.Traffic.{IsConsistent}
use Rattle.quiesce_core.specs.WellFormed.{IsWellFormed}
use Rattle.quiesce_core.proofs.AlterLaws.{exchanges_next}
use Rattle.quiesce_core.proofs.StateLaws.{answered_unserved, idle_unserved, target_service_is}

-- a transaction starts at port p: a root, or one that belongs to the service that its owner is in
pub record Starts (s : State) (p : ℕ) (e : Event) : Type 0 where
  pub value : ℕ
  pub within : Option ℕ
  pub idle : is_idle (exchange s p).phase ≡ true
  pub linked : is_linked s.config p ≡ true
  pub same : (effect s e).config ≡ s.config
  pub no_give : (r : ℕ) → is_give_at r e ≡ false
  pub belongs : (within ≡ None) ⊎ ((serves_through s (owner s.config p) p ≡ true) × (within ≡ option_map (λ (w : Service). w.port) (service s (owner s.config p))))
  pub now : exchange (effect s e) p ≡ record { phase = phase.Asked; serial = (exchange s p).serial + 1; value = value; within = within }

pub data Turn (s : State) (p : ℕ) (e : Event) : Type 0 where
  passes : exchange (effect s e) p ≡ exchange s p → is_give_at p e ≡ false → is_more_at p e ≡ false → Turn s p e
  starts : Starts s p e → Turn s p e
  gives : (v : ℕ) → is_taken s p ≡ true → is_give_at p e ≡ true → exchange (effect s e) p ≡ record (exchange s p) { phase = phase.Answered; value = v } → Turn s p e
  replies : (v : ℕ) → is_taken s p ≡ true → is_more_at p e ≡ true → exchange (effect s e) p ≡ record (exchange s p) { phase = phase.More; value = v } → Turn s p e
  asks : (v : ℕ) → is_in_more (exchange s p).phase ≡ true → is_ask_at p e ≡ true → is_give_at p e ≡ false → exchange (effect s e) p ≡ record (exchange s p) { phase = phase.Asked; value = v } → Turn s p e
  ends : is_answered (exchange s p).phase ≡ true → is_end_at p e ≡ true → exchange (effect s e) p ≡ record (exchange s p) { phase = phase.Idle; value = 0; within = None } → Turn s p e

chosen : (s : State) (p : ℕ) (e : Event) (b : Bool) (x y : Exchange) → exchange (effect s e) p ≡ cond b x y → (b ≡ true → exchange (effect s e) p ≡ x → Turn s p e)
    → (b ≡ false → exchange (effect s e) p ≡ y → Turn s p e) → Turn s p e
chosen s p e true x y now here there = here refl now
chosen s p e false x y now here there = there refl now

-- the serial that a begin or a call names
pub next_serial : (s : State) (p k : ℕ) → is_next_serial s p k ≡ true → k ≡ (exchange s p).serial + 1
next_serial s p k h = eqb-true k ((exchange s p).serial + 1) (and_parts (k == (exchange s p).serial + 1) (nat_le k last_serial) h).0

pub turn_of : (s : State) (e : Event) → IsWellFormed s → Legal s e → (p : ℕ) → Turn s p e
turn_of s (Begin q k v) w l p = chosen s p (Begin q k v) (q == p) _ _ (exchanges_next s (Begin q k v) w l p)
    (λ h now.
    let same = eqb-true q p h in
    starts (record {
      value = v;
      within = None;
      idle = ap (λ i. is_idle (exchange s i).phase) (sym same) ∙ l.idle;
      linked = ap (λ i. is_linked s.config i) (sym same) ∙ l.linked;
      same = refl;
      no_give = λ r. refl;
      belongs = inl refl;
      now = now ∙ ap (λ i. record { phase = phase.Asked; serial = i; value = v; within = None }) (next_serial s q k l.next_serial ∙ ap (λ i. (exchange s i).serial + 1) same);
    }))
    (λ h now. passes now refl refl)
turn_of s (Call q k v) w l p = chosen s p (Call q k v) (q == p) _ _ (exchanges_next s (Call q k v) w l p)
    (λ h now.
    let same = eqb-true q p h in
    starts (record {
      value = v;
      within = option_map (λ (w : Service). w.port) (service s (owner s.config p));
      idle = ap (λ i. is_idle (exchange s i).phase) (sym same) ∙ l.idle;
      linked = ap (λ i. is_linked s.config i) (sym same) ∙ l.linked;
      same = refl;
      no_give = λ r. refl;
      belongs = inr (ap (λ i. serves_through s (owner s.config i) i) (sym same) ∙ l.serves_through, refl);
      now = now ∙ ap (λ i. record { phase = phase.Asked; serial = i; value = v; within = option_map (λ (w : Service). w.port) (service s (owner s.config p)) })
          (next_serial s q k l.next_serial ∙ ap (λ i. (exchange s i).serial + 1) same);
    }))
    (λ h now. passes now refl refl)
turn_of s (Give q k v) w l p = chosen s p (Give q k v) (q == p) _ _ (exchanges_next s (Give q k v) w l p)
    (λ h now. gives v (ap (λ i. is_taken s i) (sym (eqb-true q p h)) ∙ l.taken) h now) (λ h now. passes now h refl)
turn_of s (More q k v) w l p = chosen s p (More q k v) (q == p) _ _ (exchanges_next s (More q k v) w l p)
    (λ h now. replies v (ap (λ i. is_taken s i) (sym (eqb-true q p h)) ∙ l.taken) h now) (λ h now. passes now refl h)
turn_of s (Ask q k v) w l p = chosen s p (Ask q k v) (q == p) _ _ (exchanges_next s (Ask q k v) w l p)
    (λ h now. asks v (ap (λ i. is_in_more (exchange s i).phase) (sym (eqb-true q p h)) ∙ l.in_more) h refl now) (λ h now. passes now refl refl)
turn_of s (End q k v) w l p = chosen s p (End q k v) (q == p) _ _ (exchanges_next s (End q k v) w l p)
    (λ h now. ends (ap (λ i. is_answered (exchange s i).phase) (sym (eqb-true q p h)) ∙ l.answered) h now) (λ h now. passes now refl refl)
turn_of s e w l p = passes (exchanges_next s e w l p) refl refl

-- the serial stays but where a transaction starts, and then the port was idle
pub serial_kept : (s : State) (p : ℕ) (e : Event) → Turn s p e → is_idle (exchange s p).phase ≡ false → (exchange (effect s e) p).serial ≡ (exchange s p).serial
serial_kept s p e (passes now g m) busy = ap (λ (x : Exchange). x.serial) now
serial_kept s p e (starts h) busy = absurd (both_ways (is_idle (exchange s p).phase) busy h.idle)
serial_kept s p e (gives v t g now) busy = ap (λ (x : Exchange). x.serial) now
serial_kept s p e (replies v t m now) busy = ap (λ (x : Exchange). x.serial) now
serial_kept s p e (asks v m a g now) busy = ap (λ (x : Exchange). x.serial) now
serial_kept s p e (ends a d now) busy = ap (λ (x : Exchange). x.serial) now

-- an exchange has what is known of a service there
pub record Kept (s s' : State) (v : Service) : Type 0 where
  pub serial : (exchange s' v.port).serial ≡ (exchange s v.port).serial
  pub value : v.heard ≡ true → (exchange s' v.port).value ≡ (exchange s v.port).value

-- the port that a node services keeps that but by the node's own replies
pub port_kept : (s : State) (e : Event) → IsWellFormed s → IsConsistent s → Legal s e → (n : ℕ) (v : Service) → service s n ≡ Some v → is_give_at v.port e ≡ false → is_more_at v.port e ≡ false
    → Kept s (effect s e) v
port_kept s e w c l n v serves no_give no_more = by (turn_of s e w l v.port)
  where
    by : Turn s v.port e → Kept s (effect s e) v
    by (passes now g m) = record { serial = ap (λ (x : Exchange). x.serial) now; value = λ h. ap (λ (x : Exchange). x.value) now }
    by (starts h) = absurd (idle_unserved s v.port c h.idle n v serves refl)
    by (gives u t g now) = absurd (both_ways (is_give_at v.port e) no_give g)
    by (replies u t m now) = absurd (both_ways (is_more_at v.port e) no_more m)
    by (asks u m a g now) = record { serial = ap (λ (x : Exchange). x.serial) now; value = λ h. absurd (both_ways v.heard ((c.serving n v serves).waits m) h) }
    by (ends a d now) = absurd (answered_unserved s v.port c a n v serves refl)

-- those are of the node that services the port
does_if : (s : State) (q n x : ℕ) → target s.config q ≡ Some (record { node = n; provide = x }) → option_map_or (λ m. m == n) (option_map (λ (t : Target). t.node) (target s.config q)) false ≡ true
does_if s q n x leads = ap (λ o. option_map_or (λ m. m == n) (option_map (λ (t : Target). t.node) o) false) leads ∙ eq-eqb n n refl

pub replies_are_of_servers : (s : State) (e : Event) → IsConsistent s → (n : ℕ) (v : Service) → service s n ≡ Some v → is_doer s n e ≡ false → (is_give_at v.port e ≡ false) × (is_more_at v.port e ≡ false)
replies_are_of_servers s e c n v serves other = by e other
  where
    here : (q : ℕ) → (q == v.port) ≡ true → option_map_or (λ m. m == n) (option_map (λ (t : Target). t.node) (target s.config q)) false ≡ false → ⊥
    here q h none_ =
        let it = c.serving n v serves in
        both_ways (option_map_or (λ m. m == n) (option_map (λ (t : Target). t.node) (target s.config q)) false) none_
        (does_if s q n it.provide (ap (λ i. target s.config i) (eqb-true q v.port h) ∙ it.linked))

    by : (e : Event) → is_doer s n e ≡ false → (is_give_at v.port e ≡ false) × (is_more_at v.port e ≡ false)
    by (Give q k j) none_ = (false_from_ne_true (q == v.port) (λ h. here q h none_), refl)
    by (More q k j) none_ = (refl, false_from_ne_true (q == v.port) (λ h. here q h none_))
    by _ none_ = (refl, refl)

-- the target of a port that does its event services what the port's target does
pub served_there : (s : State) (q n : ℕ) → option_map_or (λ m. m == n) (option_map (λ (t : Target). t.node) (target s.config q)) false ≡ true → target_service s q ≡ service s n
served_there s q n h = at (target s.config q) refl h
  where
    at : (o : Option Target) → target s.config q ≡ o → option_map_or (λ m. m == n) (option_map (λ (t : Target). t.node) o) false ≡ true → target_service s q ≡ service s n
    at None leads h = absurd (both_ways false refl h)
    at (Some t) leads h = target_service_is s q t leads ∙ ap (service s) (eqb-true t.node n h)
