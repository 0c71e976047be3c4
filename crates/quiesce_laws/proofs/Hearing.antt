-- Whether the last message of a port was heard, and which events change that.
use Rattle.std.proofs.Common.{◌≡◌, ℕ, ◌+◌, Bool, true, false, cond, Option, Some, None, refl, sym, ap, ◌∙◌, subst, ⊎_elim}
use Rattle.std.specs.Prelude.{◌==◌, option_map, option_and_then}
use Rattle.std.specs.Option.{option_map_or}
use Rattle.std.proofs.lemmas.Bool.{both_ways, cases_Bool, eq-eqb, eqb-true, ne_eqb, or_cases}
use Rattle.config_graph.specs.declared.node.Target.{Target}
use Rattle.quiesce_core.specs.declared.state.Service.{Service}
use Rattle.quiesce_word.specs.declared.phase.Phase.TheVariants as phase
use Rattle.quiesce_core.specs.State.{State, target, exchange, service, target_service}
use Rattle.quiesce_word.specs.Phases.{is_idle, is_asked, is_in_more}
use Rattle.quiesce_core.specs.Rules.{is_taken, was_heard}
use Rattle.quiesce_core.specs.Traffic.{IsConsistent}
use Rattle.quiesce_laws.specs.Courses.{heard_by, heard_at}
use Rattle.quiesce_word.proofs.PhaseLaws.{asked_is, asked_busy}
use Rattle.quiesce_core.specs.Alters.{service_by}
use Rattle.quiesce_core.specs.Effect.{effect}
use Rattle.quiesce_core.specs.Legal.{Legal}
use Rattle.quiesce_core.specs.Runs.{is_doer}
use Rattle.quiesce_core.specs.WellFormed.{IsWellFormed}
use Rattle.quiesce_core.specs.declared.event.Event.{Event}
use Rattle.quiesce_core.specs.declared.event.Event.TheVariants.{Call, Take, Give, More, Hear, Miss}
use Rattle.quiesce_core.proofs.AlterLaws.{services_next}
use Rattle.quiesce_core.proofs.StateLaws.{Taken, taken_busy, taken_is, target_service_is}
use Rattle.base.proofs.OptionLaws.{None-from_is_none, Some-from_is_some}

abbrev pub hears : ℕ → Option Service → Option Bool
hears p o = option_and_then (heard_by p) o

pub heard_mine : (p : ℕ) (v : Service) → v.port ≡ p → heard_by p v ≡ Some v.heard
heard_mine p v same = ap (λ b. cond b (Some v.heard) None) (eq-eqb v.port p same)

pub heard_apart : (p : ℕ) (v : Service) → (v.port ≡ p → ⊥) → heard_by p v ≡ None
heard_apart p v other = ap (λ b. cond b (Some v.heard) None) (ne_eqb v.port p other)

-- whether an event is one that the port's target does there
abbrev pub is_of_server : ℕ → Event → Bool
is_of_server p (Take q k v) = q == p
is_of_server p (Give q k v) = q == p
is_of_server p (More q k v) = q == p
is_of_server p (Hear q k v) = q == p
is_of_server p _ = false

-- what a node that does another event says of the port afterwards
module _ (s : State) (c : IsConsistent s) (n p : ℕ) where
  counted : (o : Option Service) → hears p (option_map (λ (u : Service). record u { calls = u.calls + 1 }) o) ≡ hears p o
  counted None = refl
  counted (Some u) = refl

  -- the node to which the port of its event leads
  led : (q : ℕ) (t : Target) → target s.config q ≡ Some t → option_map_or (λ m. m == n) (option_map (λ (u : Target). u.node) (target s.config q)) false ≡ true → t.node ≡ n
  led q t leads does = eqb-true t.node n (sym (ap (λ o. option_map_or (λ m. m == n) (option_map (λ (u : Target). u.node) o) false) leads) ∙ does)

  -- it services another port, and so it does after a message
  apart : (q : ℕ) (f : Option Service → Option Service) → is_taken s q ≡ true → ((v : Service) → (v.port ≡ p → ⊥) → hears p (f (Some v)) ≡ None) → (q == p) ≡ false
      → option_map_or (λ m. m == n) (option_map (λ (u : Target). u.node) (target s.config q)) false ≡ true → hears p (f (service s n)) ≡ hears p (service s n)
  apart q f taken after off does =
      let u = taken_is s q taken in
      let serves : service s n ≡ Some u.serving = sym (ap (λ i. service s i) (led q u.to u.leads does)) ∙ u.serviced in
      let other : u.serving.port ≡ p → ⊥ = λ same. both_ways (q == p) off (eq-eqb q p (sym u.of_port ∙ same)) in
      ap (λ o. hears p (f o)) serves ∙ after u.serving other ∙ sym (ap (λ o. hears p o) serves ∙ heard_apart p u.serving other)

  hears_on : (e : Event) → Legal s e → is_of_server p e ≡ false → is_doer s n e ≡ true → hears p (service_by (service s n) e) ≡ hears p (service s n)
  hears_on (Call q k v) l off does = counted (service s n)
  hears_on (Miss q) l off does = counted (service s n)
  hears_on (Take q k v) l off does =
      let to = Some-from_is_some (target s.config q) (c.linked q (asked_busy (exchange s q).phase l.asked)) in
      let none_ : service s n ≡ None = sym (ap (λ i. service s i) (led q to.0 to.1 does)) ∙ sym (target_service_is s q to.0 to.1) ∙ None-from_is_none (target_service s q) l.free in
      heard_apart p (record { port = q; calls = 0; mores = 0; heard = true }) (λ same. both_ways (q == p) off (eq-eqb q p same)) ∙ sym (ap (λ o. hears p o) none_)
  hears_on (Give q k v) l off does = apart q (λ o. None) l.taken (λ u other. refl) off does
  hears_on (More q k v) l off does = apart q (λ o. option_map (λ (u : Service). record u { mores = u.mores + 1; heard = false }) o) l.taken (λ u other. heard_apart p (record u { mores = u.mores + 1; heard = false }) other) off does
  hears_on (Hear q k v) l off does = apart q (λ o. option_map (λ (u : Service). record u { heard = true }) o) l.taken (λ u other. heard_apart p (record u { heard = true }) other) off does
  hears_on _ l off does = refl

-- of a port that keeps its target
pub heard_kept : (s : State) (e : Event) (p : ℕ) → IsWellFormed s → IsConsistent s → Legal s e → target (effect s e).config p ≡ target s.config p → is_of_server p e ≡ false
    → heard_at (effect s e) p ≡ heard_at s p
heard_kept s e p w c l stays off = ap (λ o. option_and_then (λ (t : Target). hears p (service (effect s e) t.node)) o) stays ∙ over (target s.config p)
  where
    by : (n : ℕ) (b : Bool) → is_doer s n e ≡ b → hears p (cond b (service_by (service s n) e) (service s n)) ≡ hears p (service s n)
    by n true does = hears_on s c n p e l off does
    by n false does = refl

    over : (o : Option Target) → option_and_then (λ (t : Target). hears p (service (effect s e) t.node)) o ≡ option_and_then (λ (t : Target). hears p (service s t.node)) o
    over None = refl
    over (Some t) = ap (λ o. hears p o) (services_next s e w l t.node) ∙ by t.node (is_doer s t.node e) refl

-- of the port that the target of the event's port services then
pub heard_now : (s : State) (e : Event) (q : ℕ) (t : Target) (v : Service) → IsWellFormed s → Legal s e → target (effect s e).config q ≡ Some t → is_doer s t.node e ≡ true
    → service_by (service s t.node) e ≡ Some v → v.port ≡ q → heard_at (effect s e) q ≡ Some v.heard
heard_now s e q t v w l leads does now same =
    ap (λ o. option_and_then (λ (u : Target). hears q (service (effect s e) u.node)) o) leads
    ∙ ap (λ o. hears q o) (services_next s e w l t.node ∙ ap (λ b. cond b (service_by (service s t.node) e) (service s t.node)) does ∙ now) ∙ heard_mine q v same

unheard_by : (p : ℕ) (o : Option Service) → option_map_or (λ (v : Service). v.port == p) o false ≡ false → hears p o ≡ None
unheard_by p None h = refl
unheard_by p (Some v) h = ap (λ b. cond b (Some v.heard) None) h

untaken_at : (s : State) (p : ℕ) (o : Option Target) → option_map_or (λ (v : Service). v.port == p) (option_and_then (λ (t : Target). service s t.node) o) false ≡ false
    → option_and_then (λ (t : Target). hears p (service s t.node)) o ≡ None
untaken_at s p None h = refl
untaken_at s p (Some t) h = unheard_by p (service s t.node) h

-- where the request isn't taken there is nothing to be heard
pub untaken : (s : State) (p : ℕ) → is_taken s p ≡ false → heard_at s p ≡ None
untaken s p h = untaken_at s p (target s.config p) h

pub idle_unheard : (s : State) (p : ℕ) → IsConsistent s → is_idle (exchange s p).phase ≡ true → heard_at s p ≡ None
idle_unheard s p k idle = untaken s p (⊎_elim
    (λ (yes_ : is_taken s p ≡ true). absurd (both_ways (is_idle (exchange s p).phase) (taken_busy s p k yes_) idle))
    (λ (no_ : is_taken s p ≡ false). no_)
    (cases_Bool (is_taken s p)))

pub taken_hears : (s : State) (p : ℕ) (u : Taken s p) → heard_at s p ≡ Some u.serving.heard
taken_hears s p u =
    ap (λ o. option_and_then (λ (t : Target). hears p (service s t.node)) o) u.leads ∙ ap (λ o. hears p o) u.serviced ∙ heard_mine p u.serving u.of_port

pub taken_service : (s : State) (p : ℕ) (u : Taken s p) → target_service s p ≡ Some u.serving
taken_service s p u = ap (λ o. option_and_then (λ (t : Target). service s t.node) o) u.leads ∙ u.serviced

pub taken_heard : (s : State) (p : ℕ) (u : Taken s p) → was_heard (target_service s p) ≡ u.serving.heard
taken_heard s p u = ap (λ o. was_heard o) (taken_service s p u)

-- a port whose last message was heard is asked
pub heard_asked : (s : State) (p : ℕ) (u : Taken s p) → IsConsistent s → u.serving.heard ≡ true → (exchange s p).phase ≡ phase.Asked
heard_asked s p u k heard =
    let serving = k.serving u.to.node u.serving u.serviced in
    subst (λ i. (exchange s i).phase ≡ phase.Asked) u.of_port (⊎_elim
    (λ (e : is_asked (exchange s u.serving.port).phase ≡ true). asked_is (exchange s u.serving.port).phase e)
    (λ (e : is_in_more (exchange s u.serving.port).phase ≡ true). absurd (both_ways u.serving.heard (serving.waits e) heard))
    (or_cases (is_asked (exchange s u.serving.port).phase) (is_in_more (exchange s u.serving.port).phase) serving.busy))

-- a port in more waits to be heard
pub more_unheard : (s : State) (p : ℕ) (u : Taken s p) → IsConsistent s → is_in_more (exchange s p).phase ≡ true → u.serving.heard ≡ false
more_unheard s p u k more_ = (k.serving u.to.node u.serving u.serviced).waits (ap (λ i. is_in_more (exchange s i).phase) u.of_port ∙ more_)
