-- Each event keeps what a node's own events tell it.
use Rattle.std.proofs.Common.{◌≡◌, ◌∙◌, ℕ, ◌+◌, ◌<◌, Bool, true, false, cond, List, [], ◌∷◌, ◌++◌, length, Option, Some, None, refl, sym, ap, subst, ⊎_elim, arith}
use Rattle.std.specs.Prelude.{◌==◌, fold, option_map, is_some}
use Rattle.std.proofs.lemmas.Bool.{and_parts, both_ways, cases_Bool, eqb-true, eq-eqb, ne_eqb}
use Rattle.std.proofs.lemmas.List.Sums.{fold-append}
use Rattle.std.proofs.lemmas.Option.{same_Some}
use Rattle.quiesce_word.specs.Phases.{is_idle}
use Rattle.quiesce_word.specs.declared.phase.Phase.TheVariants as phase
use Rattle.quiesce_core.specs.declared.event.Event.{Event}
use Rattle.quiesce_core.specs.declared.event.Event.TheVariants.{Begin, Call, Take, Give, End, More, Ask, Hear, Miss}
use Rattle.quiesce_core.specs.declared.known.Served.{Served}
use Rattle.quiesce_core.specs.declared.state.Service.{Service}
use Rattle.quiesce_core.specs.declared.state.Exchange.{Exchange}
use Rattle.quiesce_core.specs.State.{State, empty, owner, exchange, service}
use Rattle.quiesce_core.specs.Alters.{exchange_next, service_by}
use Rattle.quiesce_core.specs.Rules.{is_last_message, is_live_port, was_heard}
use Rattle.quiesce_core.specs.Effect.{effect}
use Rattle.quiesce_core.specs.Legal.{Legal}
use Rattle.quiesce_core.specs.Runs.{done_from, is_doer}
use Rattle.quiesce_core.specs.WellFormed.{IsWellFormed}
use Rattle.quiesce_core.specs.Traffic.{IsConsistent}
use Rattle.quiesce_core.specs.Knowledge.{IsServed, KnowsService, OwnPort, own_port, served_next, served_after, own_port_next, own_port_after}
use Rattle.quiesce_core.proofs.AlterLaws.{ports_grow, exchanges_next, reconfigured, services_next}
use Rattle.quiesce_core.proofs.ConfigurationLaws.{owner_kept}
use Rattle.quiesce_core.proofs.StateLaws.{taken_busy, taken_is, target_service_is}
use Rattle.quiesce_word.proofs.PhaseLaws.{more_busy, serving_busy}
use Rattle.quiesce_core.proofs.TableLaws.{gate_place}
use Rattle.quiesce_core.proofs.PortEventLaws.{Kept, port_kept, replies_are_of_servers, serial_kept, served_there, turn_of}

-- the event, where node n does it
abbrev pub mine : State → ℕ → Event → List Event
mine s n e = cond (is_doer s n e) (e ∷ []) []

pub done_more : (s : State) (n : ℕ) (es : List Event) (e : Event) → done_from s n (es ++ e ∷ []) ≡ done_from s n es ++ mine (fold effect s es) n e
done_more s n [] e = refl
done_more s n (x ∷ xs) e =
    let rest = done_more (effect s x) n xs e in
    ⊎_elim (λ (b : is_doer s n x ≡ true). rw b (ap (λ ys. x ∷ ys) rest)) (λ (b : is_doer s n x ≡ false). rw b rest) (cases_Bool (is_doer s n x))

-- ---- ports

abbrev seen : Exchange → OwnPort
seen x = record { idle = is_idle x.phase; serial = x.serial; consequent = is_some x.within }

-- an exchange that is written where the test holds
seen_if : (b : Bool) (x y : Exchange) (w v : OwnPort) → (b ≡ true → seen x ≡ w) → seen y ≡ v → cond b w v ≡ seen (cond b x y)
seen_if true x y w v here there = sym (here refl)
seen_if false x y w v here there = sym there

some_of : (o : Option Service) → was_heard o ≡ true → is_some (option_map (λ (w : Service). w.port) o) ≡ true
some_of None h = absurd (both_ways false refl h)
some_of (Some v) h = refl

pub message_is : (s : State) (p k v : ℕ) → is_last_message s p k v ≡ true → (k ≡ (exchange s p).serial) × (v ≡ (exchange s p).value)
message_is s p k v h =
    let both = and_parts (k == (exchange s p).serial) (v == (exchange s p).value) h in
    (eqb-true k (exchange s p).serial both.0, eqb-true v (exchange s p).value both.1)

-- a message leaves a busy port as it was seen
busy_as_before : (b : Bool) (x y : Exchange) → (b ≡ true → is_idle y.phase ≡ false) → is_idle x.phase ≡ false → x.serial ≡ y.serial → x.within ≡ y.within → seen y ≡ seen (cond b x y)
busy_as_before true x y busy now serial within =
    ap (λ i. record { idle = i; serial = y.serial; consequent = is_some y.within }) (busy refl ∙ sym now)
    ∙ ap (λ k. record { idle = is_idle x.phase; serial = k; consequent = is_some y.within }) (sym serial)
    ∙ ap (λ o. record { idle = is_idle x.phase; serial = x.serial; consequent = is_some o }) (sym within)
busy_as_before false x y busy now serial within = refl

port_at : (s : State) (e : Event) (p : ℕ) → IsConsistent s → Legal s e → own_port_next p (own_port s p) e ≡ seen (exchange_next s p e)
port_at s (Begin q k v) p c l = seen_if (q == p) _ (exchange s p) _ (own_port s p) (λ h. refl) refl
port_at s (Call q k v) p c l = seen_if (q == p) _ (exchange s p) _ (own_port s p)
    (λ h. ap (λ b. record { idle = false; serial = k; consequent = b })
    (some_of (service s (owner s.config p)) (ap (λ i. was_heard (service s (owner s.config i))) (sym (eqb-true q p h)) ∙ l.heard))) refl
port_at s (End q k v) p c l = seen_if (q == p) _ (exchange s p) _ (own_port s p)
    (λ h. ap (λ i. record { idle = true; serial = i; consequent = false }) (sym ((message_is s q k v l.message).0 ∙ ap (λ i. (exchange s i).serial) (eqb-true q p h)))) refl
port_at s (Ask q k v) p c l =
    busy_as_before (q == p) (record (exchange s p) { phase = phase.Asked; value = v }) (exchange s p)
    (λ h. ap (λ i. is_idle (exchange s i).phase) (sym (eqb-true q p h)) ∙ more_busy (exchange s q).phase l.in_more) refl refl refl
port_at s (Give q k v) p c l =
    busy_as_before (q == p) (record (exchange s p) { phase = phase.Answered; value = v }) (exchange s p)
    (λ h. ap (λ i. is_idle (exchange s i).phase) (sym (eqb-true q p h)) ∙ taken_busy s q c l.taken) refl refl refl
port_at s (More q k v) p c l =
    busy_as_before (q == p) (record (exchange s p) { phase = phase.More; value = v }) (exchange s p)
    (λ h. ap (λ i. is_idle (exchange s i).phase) (sym (eqb-true q p h)) ∙ taken_busy s q c l.taken) refl refl refl
port_at s _ p c l = refl

-- an event tells how far the port has come then
pub port_step : (s : State) (e : Event) (p : ℕ) → IsWellFormed s → IsConsistent s → Legal s e → own_port_next p (own_port s p) e ≡ own_port (effect s e) p
port_step s e p w c l = port_at s e p c l ∙ sym (ap seen (exchanges_next s e w l p))

-- an event of another node tells nothing of the port
other_port : (s : State) (q p n : ℕ) → is_live_port s.config q ≡ true → (owner s.config q == n) ≡ false → (p < length s.config.gates → owner s.config p ≡ n) → q ≡ p → ⊥
other_port s q p n live other owned same =
    both_ways (owner s.config q == n) other
    (eq-eqb (owner s.config q) n (ap (λ i. owner s.config i) same ∙ owned (subst (λ i. i < length s.config.gates) same (gate_place s q live))))

pub port_other : (s : State) (e : Event) (n p : ℕ) (w : OwnPort) → Legal s e → is_doer s n e ≡ false → (p < length s.config.gates → owner s.config p ≡ n) → own_port_next p w e ≡ w
port_other s (Begin q k v) n p w l other owned = rw (ne_eqb q p (other_port s q p n l.live other owned)) refl
port_other s (Call q k v) n p w l other owned = rw (ne_eqb q p (other_port s q p n l.live other owned)) refl
port_other s (End q k v) n p w l other owned = rw (ne_eqb q p (other_port s q p n l.live other owned)) refl
port_other s _ n p w l other owned = refl

-- ---- services

-- it goes on as it was
kept : (s s' : State) (o : Option Service) (u : Option Served) → ((v : Service) → o ≡ Some v → Kept s s' v) → KnowsService s o u → KnowsService s' o u
kept s s' None None same k = tt
kept s s' None (Some x) same k = absurd k
kept s s' (Some v) None same k = absurd k
kept s s' (Some v) (Some x) same k =
    let w = same v refl in
    record { port = k.port; serial = k.serial ∙ sym w.serial; calls = k.calls; mores = k.mores; heard = k.heard; value = λ h. k.value h ∙ sym (w.value h) }

-- it changes alike in the state and in what is known
turned : (s s' : State) (o : Option Service) (u : Option Served) (f : Service → Service) (g : Served → Served) → ((v : Service) (x : Served) → o ≡ Some v → IsServed s v x → IsServed s' (f v) (g x))
    → KnowsService s o u → KnowsService s' (option_map f o) (option_map g u)
turned s s' None None f g step k = tt
turned s s' None (Some x) f g step k = absurd k
turned s s' (Some v) None f g step k = absurd k
turned s s' (Some v) (Some x) f g step k = step v x refl k

call_step : (s s' : State) (v : Service) (x : Served) → Kept s s' v → IsServed s v x → IsServed s' (record v { calls = v.calls + 1 }) (record x { calls = x.calls + 1 })
call_step s s' v x w k =
    record { port = k.port; serial = k.serial ∙ sym w.serial; calls = ap (λ i. i + 1) k.calls; mores = k.mores; heard = k.heard; value = λ h. k.value h ∙ sym (w.value h) }

module _ (s : State) (w : IsWellFormed s) (c : IsConsistent s) (n : ℕ) where
  -- the port that is serviced keeps its serial
  serial_there : (e : Event) → Legal s e → (v : Service) → service s n ≡ Some v → (exchange (effect s e) v.port).serial ≡ (exchange s v.port).serial
  serial_there e l v serves = serial_kept s v.port e (turn_of s e w l v.port) (serving_busy (exchange s v.port).phase (c.serving n v serves).busy)

  -- by an event that the node does
  service_by_own : (e : Event) (u : Option Served) → Legal s e → is_doer s n e ≡ true → KnowsService s (service s n) u → KnowsService (effect s e) (service_by (service s n) e) (served_next u e)
  service_by_own (Begin q k j) u l does h = kept s (effect s (Begin q k j)) (service s n) u (λ v e. port_kept s (Begin q k j) w c l n v e refl refl) h
  service_by_own (Ask q k j) u l does h = kept s (effect s (Ask q k j)) (service s n) u (λ v e. port_kept s (Ask q k j) w c l n v e refl refl) h
  service_by_own (End q k j) u l does h = kept s (effect s (End q k j)) (service s n) u (λ v e. port_kept s (End q k j) w c l n v e refl refl) h
  service_by_own (Call q k j) u l does h =
      turned s (effect s (Call q k j)) (service s n) u (λ v. record v { calls = v.calls + 1 }) (λ x. record x { calls = x.calls + 1 })
      (λ v x e k_. call_step s (effect s (Call q k j)) v x (port_kept s (Call q k j) w c l n v e refl refl) k_) h
  service_by_own (Miss q) u l does h =
      turned s (effect s (Miss q)) (service s n) u (λ v. record v { calls = v.calls + 1 }) (λ x. record x { calls = x.calls + 1 })
      (λ v x e k_. call_step s (effect s (Miss q)) v x (port_kept s (Miss q) w c l n v e refl refl) k_) h
  service_by_own (Take q k j) u l does h =
      let message = message_is s q k j l.message in record { port = refl; serial = message.0; calls = refl; mores = refl; heard = refl; value = λ h. message.1 }
  service_by_own (Give q k j) u l does h = tt
  service_by_own (More q k j) u l does h =
      turned s (effect s (More q k j)) (service s n) u (λ v. record v { mores = v.mores + 1; heard = false }) (λ x. record x { mores = x.mores + 1; heard = false })
      (λ v x e k_. record {
        port = k_.port;
        serial = k_.serial ∙ sym (serial_there (More q k j) l v e);
        calls = k_.calls;
        mores = ap (λ i. i + 1) k_.mores;
        heard = refl;
        value = λ h. absurd (both_ways false refl h);
      }) h
  service_by_own (Hear q k j) u l does h =
      turned s (effect s (Hear q k j)) (service s n) u (λ v. record v { heard = true }) (λ x. record x { value = j; heard = true })
      (λ v x e k_.
      let at = taken_is s q l.taken in
      let of_port : v.port ≡ q =
      ap (λ (y : Service). y.port) (same_Some v at.serving (sym e ∙ sym (served_there s q n does) ∙ target_service_is s q at.to at.leads ∙ at.serviced)) ∙ at.of_port in
      record { port = k_.port; serial = k_.serial; calls = k_.calls; mores = k_.mores; heard = refl; value = λ h. (message_is s q k j l.message).1 ∙ sym (ap (λ i. (exchange s i).value) of_port) }) h
  service_by_own _ u l does h = absurd (both_ways false refl does)

pub service_next : (s : State) (e : Event) (n : ℕ) (u : Option Served) → IsWellFormed s → IsConsistent s → Legal s e → KnowsService s (service s n) u
    → KnowsService (effect s e) (service (effect s e) n) (fold served_next u (mine s n e))
service_next s e n u w c l h = subst (λ o. KnowsService (effect s e) o (fold served_next u (mine s n e))) (sym (services_next s e w l n)) (⊎_elim
    (λ (does : is_doer s n e ≡ true). rw does (service_by_own s w c n e u l does h))
    (λ (other : is_doer s n e ≡ false). rw other (kept s (effect s e) (service s n) u (λ v serves.
    let none_ = replies_are_of_servers s e c n v serves other in port_kept s e w c l n v serves none_.0 none_.1) h))
    (cases_Bool (is_doer s n e)))

-- ---- owners

ports_stay : (s : State) (e : Event) (p : ℕ) → Legal s e → p < length s.config.gates → p < length (effect s e).config.gates
ports_stay s e p l h = omega (arith, h, (reconfigured s e l).ports, ports_grow s.config e)

-- what a node's events tell, also of ports that aren't made yet
pub record Told (s : State) (n : ℕ) (es : List Event) : Type 0 where
  pub services : KnowsService s (service s n) (served_after es)
  pub ports : (p : ℕ) → (p < length s.config.gates → owner s.config p ≡ n) → own_port_after p es ≡ own_port s p

pub told_next : (s : State) (e : Event) (n : ℕ) (es : List Event) → IsWellFormed s → IsConsistent s → Legal s e → Told s n es → Told (effect s e) n (es ++ mine s n e)
told_next s e n es w c l told = record {
  services = subst (λ u. KnowsService (effect s e) (service (effect s e) n) u) (sym (fold-append served_next None es (mine s n e))) (service_next s e n (served_after es) w c l told.services);
  ports = λ p owned.
      let before : p < length s.config.gates → owner s.config p ≡ n = λ h. sym (owner_kept s.config (effect s e).config e (reconfigured s e l) p h) ∙ owned (ports_stay s e p l h) in
      let so_far = told.ports p before in
      fold-append (own_port_next p) (record { idle = true; serial = 0; consequent = false }) es (mine s n e)
      ∙ ap (λ x. fold (own_port_next p) x (mine s n e)) so_far
      ∙ ⊎_elim
      (λ (yes_ : is_doer s n e ≡ true). rw yes_ (port_step s e p w c l))
      (λ (no_ : is_doer s n e ≡ false). rw no_ (sym (port_other s e n p (own_port s p) l no_ before) ∙ port_step s e p w c l))
      (cases_Bool (is_doer s n e));
}

pub told_empty : (n : ℕ) → Told empty n []
told_empty n = record { services = tt; ports = λ p owned. refl }
