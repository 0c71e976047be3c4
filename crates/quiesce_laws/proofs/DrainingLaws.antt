-- Drained ports stay drained, and a node that only drained ports concern is settled.
use Rattle.std.proofs.Common.{◌≡◌, ℕ, zero, suc, ◌+◌, ◌<◌, true, false, not, ◌&&◌, ◌||◌, List, ◌++◌, length, Option, Some, None, refl, sym, ap, ◌∙◌, subst, inl, inr, ⊎_elim}
use Rattle.std.specs.Prelude.{◌==◌, is_some}
use Rattle.std.specs.List.{list_any}
use Rattle.std.proofs.lemmas.Bool.{and_parts, and_from, both_ways, cases_Bool, eq-eqb, not_from_false, or_cases, or_left, or_right, true_from_ne_false}
use Rattle.config_graph.specs.declared.node.Target.{Target}
use Rattle.quiesce_core.specs.declared.event.Event.{Event}
use Rattle.quiesce_core.specs.declared.event.Event.TheVariants.{Reopen}
use Rattle.quiesce_core.specs.declared.state.Service.{Service}
use Rattle.quiesce_core.specs.State.{State, is_live, gate, owner, target, provision, depends, is_depended, exchange, service}
use Rattle.quiesce_word.specs.Phases.{is_idle}
use Rattle.quiesce_core.specs.Doers.{is_of_change}
use Rattle.quiesce_core.specs.Reach.{IsPortOf, can_walk, wiring_of}
use Rattle.config_graph.specs.Wiring.{Reach, direct, through}
use Rattle.quiesce_core.specs.Rules.{is_quiet}
use Rattle.quiesce_core.specs.Runs.{IsRun, state_after}
use Rattle.quiesce_core.specs.Settled.{Settled}
use Rattle.quiesce_core.specs.Traffic.{IsServing, IsConsistent}
use Rattle.quiesce_core.specs.WellFormed.{IsWellFormed}
use Rattle.quiesce_core.proofs.CycleLaws.{call_by, depended_at, walk_to}
use Rattle.base.proofs.OptionLaws.{Some-from_is_some, map_or_at}
use Rattle.quiesce_core.proofs.ReachLaws.{no_walk_plus, owner_of}
use Rattle.quiesce_core.proofs.RunLaws.{runs_are_well_formed, runs_are_consistent}
use Rattle.quiesce_laws.specs.Drained.{is_drained}
use Rattle.quiesce_laws.specs.Events.{reopens}
use Rattle.quiesce_laws.specs.Roots.{has_root}
use Rattle.quiesce_core.proofs.StateLaws.{busy_made}
use Rattle.quiesce_laws.proofs.RootLaws.{old_further, has_no_root}
use Rattle.quiesce_laws.proofs.StillLaws.{Concerns}
use Rattle.quiesce_word.proofs.PhaseLaws.{serving_busy}

-- reopenings are the change's alone
pub no_node_reopens : (p : ℕ) (e : Event) → is_of_change e ≡ false → reopens p e ≡ false
no_node_reopens p (Reopen q) h = absurd (both_ways true h refl)
no_node_reopens p _ h = refl

-- idle or consequent, where there is no root
rootless : (s : State) (p : ℕ) → (has_root s p (exchange s p).serial ≡ true → ⊥) → (is_idle (exchange s p).phase || is_some (exchange s p).within) ≡ true
rootless s p none_ = ⊎_elim
    (λ (idle : is_idle (exchange s p).phase ≡ true). or_left (is_idle (exchange s p).phase) (is_some (exchange s p).within) idle)
    (λ (busy : is_idle (exchange s p).phase ≡ false). or_right (is_idle (exchange s p).phase) (is_some (exchange s p).within) (true_from_ne_false (is_some (exchange s p).within) (λ alone. none_
    (and_from (not (is_idle (exchange s p).phase) && not (is_some (exchange s p).within)) ((exchange s p).serial == (exchange s p).serial)
    (and_from (not (is_idle (exchange s p).phase)) (not (is_some (exchange s p).within)) (not_from_false (is_idle (exchange s p).phase) busy) (not_from_false (is_some (exchange s p).within) alone))
    (eq-eqb (exchange s p).serial (exchange s p).serial refl)))))
    (cases_Bool (is_idle (exchange s p).phase))

pub drained_stays : (es more_ : List Event) (p : ℕ) → IsRun (es ++ more_) → list_any (reopens p) more_ ≡ false → is_drained (state_after es) p ≡ true → is_drained (state_after (es ++ more_)) p ≡ true
drained_stays es more_ p run free h =
    let s = state_after es in
    let s' = state_after (es ++ more_) in
    let parts = and_parts (gate s.config p).closed (is_idle (exchange s p).phase || is_some (exchange s p).within) h in
    let old = old_further es more_ p (exchange s' p).serial run free parts.0 in
    and_from (gate s'.config p).closed (is_idle (exchange s' p).phase || is_some (exchange s' p).within) old.closed
    (rootless s' p (λ root. has_no_root (exchange s p) (exchange s' p).serial parts.1 (old.before root)))

-- a port that concerns the node and isn't idle, whose owner can walk so many steps
record Climbs (s : State) (n k : ℕ) : Type 0 where
  port : ℕ
  concerns : Concerns s.config n port
  busy : is_idle (exchange s port).phase ≡ false
  walks : can_walk s.config k (owner s.config port) ≡ true

module _ (s : State) (n : ℕ) (w : IsWellFormed s) (t : IsConsistent s) (drained : (p : ℕ) → Concerns s.config n p → is_drained s p ≡ true) where
  -- what is serviced by a node whose port concerns n concerns n, where a provision depends on that port
  serviced_concerns : (p m : ℕ) (v : Service) (h : IsServing s m v) → owner s.config p ≡ m → p < length s.config.gates → depends s.config m (provision s.config v.port) p ≡ true → Concerns s.config n p
      → Concerns s.config n v.port
  serviced_concerns p m v h owned made dep c =
      let by : provision s.config v.port ≡ h.provide = map_or_at (λ (u : Target). u.provide) (target s.config v.port) 0 (record { node = m; provide = h.provide }) h.linked in
      ⊎_elim
      (λ (own : IsPortOf s.config n p).
      let is_n : m ≡ n = sym owned ∙ owner_of s.config w.sound n p own in
      inr (direct {x = h.provide} (h.linked ∙ ap (λ i. Some (record { node = i; provide = h.provide })) is_n)))
      (λ (r : Reach (wiring_of s.config) n p).
      inr (through {p = p} {m = m} {x = h.provide} r (subst (λ i. IsPortOf s.config i p) owned (w.sound.ports p made), sym (ap (λ x. depends s.config m x p) by) ∙ dep) h.linked))
      c

  -- what a busy port's transaction belongs to
  record Above (p : ℕ) : Type 0 where
    port : ℕ
    concerns : Concerns s.config n port
    busy : is_idle (exchange s port).phase ≡ false
    leads : (x : ℕ) × (target s.config port ≡ Some (record { node = owner s.config p; provide = x }))
    depended : is_depended s.config (owner s.config p) p ≡ true

  above : (p : ℕ) → Concerns s.config n p → is_idle (exchange s p).phase ≡ false → Above p
  above p c busy =
      let parts = and_parts (gate s.config p).closed (is_idle (exchange s p).phase || is_some (exchange s p).within) (drained p c) in
      ⊎_elim
      (λ (idle : is_idle (exchange s p).phase ≡ true). absurd (both_ways (is_idle (exchange s p).phase) busy idle))
      (λ (called : is_some (exchange s p).within ≡ true).
      let q = Some-from_is_some (exchange s p).within called in
      let k = t.consequent p q.0 q.1 in
      let serving = t.serving (owner s.config p) k.serving k.serviced in
      let dep : depends s.config (owner s.config p) (provision s.config k.serving.port) p ≡ true = ap (λ i. depends s.config (owner s.config p) (provision s.config i) p) k.of_port ∙ k.depends_on in
      record {
        port = k.serving.port;
        concerns = serviced_concerns p (owner s.config p) k.serving serving refl (busy_made s p t busy) dep c;
        busy = serving_busy (exchange s k.serving.port).phase serving.busy;
        leads = (serving.provide, serving.linked);
        depended = depended_at s.config (owner s.config p) (provision s.config k.serving.port) p dep;
      })
      (or_cases (is_idle (exchange s p).phase) (is_some (exchange s p).within) parts.1)

  -- so from a busy port one can climb without end
  climbs : (k p : ℕ) → Concerns s.config n p → is_idle (exchange s p).phase ≡ false → Climbs s n k
  climbs zero p c busy = record { port = p; concerns = c; busy = busy; walks = refl }
  climbs (suc k) p c busy =
      let below = climbs k p c busy in
      let up = above below.port below.concerns below.busy in
      let top = above up.port up.concerns up.busy in
      record {
        port = up.port;
        concerns = up.concerns;
        busy = up.busy;
        walks = walk_to s.config k (owner s.config up.port) (owner s.config below.port)
            (call_by s.config (owner s.config up.port) (owner s.config below.port) up.port up.leads.0 (w.sound.ports up.port (busy_made s up.port t up.busy)) top.depended up.leads.1)
            below.walks;
      }

  none_busy : (p : ℕ) → Concerns s.config n p → is_idle (exchange s p).phase ≡ false → ⊥
  none_busy p c busy =
      let far = climbs (length s.config.slots + 1) p c busy in
      both_ways (can_walk s.config (length s.config.slots + 1) (owner s.config far.port)) (no_walk_plus s.config w.sound (owner s.config far.port)) far.walks

  quiet_all : (p : ℕ) → Concerns s.config n p → is_quiet s p ≡ true
  quiet_all p c =
      let parts = and_parts (gate s.config p).closed (is_idle (exchange s p).phase || is_some (exchange s p).within) (drained p c) in
      and_from (gate s.config p).closed (is_idle (exchange s p).phase) parts.0 (⊎_elim
      (λ (idle : is_idle (exchange s p).phase ≡ true). idle)
      (λ (busy : is_idle (exchange s p).phase ≡ false). absurd (none_busy p c busy))
      (cases_Bool (is_idle (exchange s p).phase)))

  services_none : (o : Option Service) → service s n ≡ o → o ≡ None
  services_none None e = refl
  services_none (Some v) e =
      let h = t.serving n v e in absurd (none_busy v.port (inr (direct {x = h.provide} h.linked)) (serving_busy (exchange s v.port).phase h.busy))

  pub settled_of : is_live s.config n ≡ true → Settled s n
  settled_of live = record { live = live; own = λ p own. quiet_all p (inl own); services_nothing = services_none (service s n) refl; reaching = λ p r. quiet_all p (inr r) }

pub settled_if_drained : (es : List Event) (n : ℕ) → IsRun es → is_live (state_after es).config n ≡ true → ((p : ℕ) → IsPortOf (state_after es).config n p → is_drained (state_after es) p ≡ true)
    → ((p : ℕ) → Reach (wiring_of (state_after es).config) n p → is_drained (state_after es) p ≡ true) → Settled (state_after es) n
settled_if_drained es n run live own reaching =
    settled_of (state_after es) n (runs_are_well_formed es run) (runs_are_consistent es run)
    (λ p c. ⊎_elim (λ (o : IsPortOf (state_after es).config n p). own p o) (λ (r : Reach (wiring_of (state_after es).config) n p). reaching p r) c) live
