-- A settled node stays settled until a gate is opened, a link is made or it is removed, whatever is made meanwhile.
use Rattle.std.proofs.Common.{cond, Bool, ◌≡◌, ℕ, ◌<◌, true, false, not, length, Option, Some, None, refl, sym, ap, ◌∙◌, inl, inr, ⊎_elim}
use Rattle.std.specs.Prelude.{◌⊎◌, ◌==◌, option_map}
use Rattle.std.specs.Option.{option_map_or}
use Rattle.std.proofs.lemmas.Bool.{and_parts, and_from, both_ways, eqb-true, false_from_ne_true, not-true}
use Rattle.std.proofs.lemmas.Option.{slice_get_within}
use Rattle.config_graph.specs.declared.node.Target.{Target}
use Rattle.quiesce_core.specs.declared.event.Event.{Event}
use Rattle.quiesce_core.specs.declared.event.Event.TheVariants.{Take, Reopen, Link}
use Rattle.quiesce_core.specs.declared.state.Service.{Service}
use Rattle.quiesce_core.specs.declared.state.Exchange.{Exchange}
use Rattle.quiesce_core.specs.State.{Configuration, State, gate, owner, target, provision, depends, exchange, service}
use Rattle.quiesce_word.specs.Phases.{is_idle}
use Rattle.quiesce_core.specs.Effect.{effect}
use Rattle.quiesce_core.specs.Legal.{Legal}
use Rattle.quiesce_core.specs.Reach.{IsPortOf, wiring_of}
use Rattle.config_graph.specs.Wiring.{Reach, direct, through}
use Rattle.quiesce_core.specs.Rules.{is_live_port, is_quiet, serves_through}
use Rattle.quiesce_core.specs.Settled.{is_opening}
use Rattle.quiesce_core.specs.Traffic.{IsConsistent}
use Rattle.quiesce_core.specs.WellFormed.{IsWellFormed}
use Rattle.base.proofs.OptionLaws.{map_or_true, map_or_at}
use Rattle.quiesce_core.proofs.TableLaws.{gate_place}
use Rattle.quiesce_laws.specs.Events.{is_link, is_reopen_or_link, reopens}
use Rattle.quiesce_laws.proofs.ExtensionLaws.{closed_next, extends_next, no_new_link, owned_before, reached_before}
use Rattle.quiesce_laws.proofs.ExchangeLaws.{PortStep, stays, begins, calls, ends, port_step}
use Rattle.base.proofs.PlaceLaws.{slice_get-there}
use Rattle.quiesce_core.specs.Alters.{service_by}
use Rattle.quiesce_core.specs.Runs.{is_doer}
use Rattle.quiesce_core.proofs.AlterLaws.{services_next}
use Rattle.quiesce_word.proofs.PhaseLaws.{asked_busy, serving_busy}
use Rattle.quiesce_core.proofs.ReachLaws.{owner_of}

-- p is a port of the node, or reaches it
abbrev pub Concerns : Configuration → ℕ → ℕ → Type 0
Concerns c n p = IsPortOf c n p ⊎ Reach (wiring_of c) n p

-- all that is asked of a settled node, but that it is live
pub record IsStill (s : State) (n : ℕ) : Type 0 where
  pub made : n < length s.config.slots
  pub quiet : (p : ℕ) → Concerns s.config n p → is_quiet s p ≡ true
  pub services_nothing : service s n ≡ None

pub closed_at : (s : State) (n p : ℕ) → IsStill s n → Concerns s.config n p → (gate s.config p).closed ≡ true
closed_at s n p h c = (and_parts (gate s.config p).closed (is_idle (exchange s p).phase) (h.quiet p c)).0

pub idle_at : (s : State) (n p : ℕ) → IsStill s n → Concerns s.config n p → is_idle (exchange s p).phase ≡ true
idle_at s n p h c = (and_parts (gate s.config p).closed (is_idle (exchange s p).phase) (h.quiet p c)).1

pub not_busy : (s : State) (n p : ℕ) → IsStill s n → Concerns s.config n p → is_idle (exchange s p).phase ≡ false → ⊥
not_busy s n p h c busy = both_ways (is_idle (exchange s p).phase) busy (idle_at s n p h c)

-- none of these ports is called: its owner would service a port that reaches the node, or be the node
pub none_called : (s : State) (n p : ℕ) → IsWellFormed s → IsConsistent s → IsStill s n → Concerns s.config n p → is_live_port s.config p ≡ true → serves_through s (owner s.config p) p ≡ true → ⊥
none_called s n p w k h c live by_it =
    let v = map_or_true (λ (v : Service). depends s.config (owner s.config p) (provision s.config v.port) p) (service s (owner s.config p)) by_it in
    let serving = k.serving (owner s.config p) v.0 v.1 in
    let by : provision s.config v.0.port ≡ serving.provide =
    map_or_at (λ (t : Target). t.provide) (target s.config v.0.port) 0 (record { node = owner s.config p; provide = serving.provide }) serving.linked in
    ⊎_elim
    (λ (own : IsPortOf s.config n p). let is_n : owner s.config p ≡ n = owner_of s.config w.sound n p own in
    let none_ : service s (owner s.config p) ≡ None = ap (λ i. service s i) is_n ∙ h.services_nothing in absurd (cc (none_, v.1)))
    (λ (r : Reach (wiring_of s.config) n p).
    let above : Reach (wiring_of s.config) n v.0.port =
    through {p = p} {m = owner s.config p} {x = serving.provide} r (w.sound.ports p (gate_place s p live), sym (ap (λ x. depends s.config (owner s.config p) x p) by) ∙ v.2) serving.linked in
    not_busy s n v.0.port h (inr above) (serving_busy (exchange s v.0.port).phase serving.busy))
    c

-- and none begins a transaction
pub none_begun : (s : State) (n p : ℕ) → IsStill s n → Concerns s.config n p → not (gate s.config p).closed ≡ true → ⊥
none_begun s n p h c opened = both_ways (gate s.config p).closed (not-true (gate s.config p).closed opened) (closed_at s n p h c)

-- what it is barred from
reopen_bars : (q : ℕ) (e : Event) → reopens q e ≡ true → is_reopen_or_link e ≡ true
reopen_bars q (Reopen p) h = refl
reopen_bars q _ h = absurd (both_ways false refl h)

link_bars : (e : Event) → is_reopen_or_link e ≡ false → is_link e ≡ false
link_bars (Link p n x) h = h
link_bars _ h = refl

pub opening_bars : (e : Event) → is_opening e ≡ false → is_reopen_or_link e ≡ false
opening_bars (Reopen p) h = h
opening_bars (Link p n x) h = h
opening_bars _ h = refl

-- each port that concerns a still node is idle after each event
idle_next : (s : State) (e : Event) (n : ℕ) → IsWellFormed s → IsConsistent s → Legal s e → IsStill s n → (q : ℕ) → Concerns s.config n q → is_idle (exchange (effect s e) q).phase ≡ true
idle_next s e n w t l still q c = by (port_step s e w t l q)
  where
    by : PortStep s e q (exchange (effect s e) q) → is_idle (exchange (effect s e) q).phase ≡ true
    by (stays off serial within idle) = idle ∙ idle_at s n q still c
    by (begins k v is may y) = absurd (none_begun s n q still c may.opened)
    by (calls k v u is may served y) = absurd (none_called s n q w t still c may.live may.serves_through)
    by (ends k v is may y) = ap (λ (x : Exchange). is_idle x.phase) y

-- and closed, where it isn't reopened
quiet_next : (s : State) (e : Event) (n : ℕ) → IsWellFormed s → IsConsistent s → Legal s e → is_reopen_or_link e ≡ false → IsStill s n → (q : ℕ) → Concerns s.config n q → is_quiet (effect s e) q ≡ true
quiet_next s e n w t l h still q c =
    and_from (gate (effect s e).config q).closed (is_idle (exchange (effect s e) q).phase)
    (closed_next s e q l (false_from_ne_true (reopens q e) (λ r. both_ways (is_reopen_or_link e) h (reopen_bars q e r))) (closed_at s n q still c))
    (idle_next s e n w t l still q c)

-- the node services nothing still
nothing_next : (s : State) (e : Event) (n : ℕ) → IsWellFormed s → Legal s e → IsStill s n → service (effect s e) n ≡ None
nothing_next s e n w l still = services_next s e w l n ∙ by (is_doer s n e) refl
  where
    led : (o : Option Target) → option_map_or (λ m. m == n) (option_map (λ (t : Target). t.node) o) false ≡ true → (x : ℕ) × (o ≡ Some (record { node = n; provide = x }))
    led None h = absurd (both_ways false refl h)
    led (Some t) h = (t.provide, ap (λ i. Some (record { node = i; provide = t.provide })) (eqb-true t.node n h))

    turn : (e : Event) → Legal s e → is_doer s n e ≡ true → service_by None e ≡ None
    turn (Take p k v) l does = let to = led (target s.config p) does in absurd (not_busy s n p still (inr (direct {x = to.0} to.1)) (asked_busy (exchange s p).phase l.asked))
    turn _ l does = refl

    by : (b : Bool) → is_doer s n e ≡ b → cond b (service_by (service s n) e) (service s n) ≡ None
    by true does = ap (λ o. service_by o e) still.services_nothing ∙ turn e l does
    by false does = still.services_nothing

-- a still node is still after each event that neither opens a gate nor makes a link
pub still_next : (s : State) (e : Event) (n : ℕ) → IsWellFormed s → IsConsistent s → Legal s e → is_reopen_or_link e ≡ false → IsStill s n → IsStill (effect s e) n
still_next s e n w t l h still =
    let extends_ = extends_next s e l in
    let old = no_new_link s e l (link_bars e h) in
    let m = slice_get-there s.config.slots n still.made in
    let now = extends_.nodes n m.0 m.1 in
    record {
      made = slice_get_within (effect s e).config.slots n now.now now.there;
      quiet = λ q c. quiet_next s e n w t l h still q (⊎_elim
          (λ (own : IsPortOf (effect s e).config n q). inl (owned_before s.config (effect s e).config extends_ n q still.made own))
          (λ (r : Reach (wiring_of (effect s e).config) n q). inr (reached_before s.config (effect s e).config w.sound extends_ old n q r)) c);
      services_nothing = nothing_next s e n w l still;
    }
