-- Single places of a state: what is read where a node's event wrote, who services a port, and what
-- stands behind a list.
use Rattle.std.proofs.Common.{◌≡◌, ℕ, ◌<◌, ◌≤◌, true, false, ◌||◌, length, set, Option, Some, None, refl, sym, ap, ◌∙◌, ⊎_elim, get_or-set_same, get_or-set_other}
use Rattle.std.specs.Prelude.{◌==◌, is_some, option_and_then}
use Rattle.std.specs.Option.{option_map_or}
use Rattle.std.proofs.lemmas.Bool.{both_ways, cases_lt, eqb-true, eq-eqb}
use Rattle.std.proofs.lemmas.List.{get_or_past}
use Rattle.config_graph.specs.declared.node.Target.{Target}
use Rattle.quiesce_core.specs.declared.state.Gate.{Gate}
use Rattle.quiesce_core.specs.declared.state.Service.{Service}
use Rattle.quiesce_core.specs.declared.state.Exchange.{Exchange}
use Rattle.quiesce_core.specs.State.{Configuration, State, fresh_exchange, fresh_gate, gate, target, provision, exchange, service, target_service}
use Rattle.quiesce_word.specs.Phases.{is_idle, is_asked, is_answered, is_in_more}
use Rattle.quiesce_core.specs.Rules.{is_taken}
use Rattle.quiesce_core.specs.Effect.{with_exchange, with_service, with_target_service}
use Rattle.quiesce_core.specs.Traffic.{IsConsistent}
use Rattle.quiesce_word.proofs.PhaseLaws.{serving_busy, serving_unanswered}
use Rattle.base.proofs.OptionLaws.{map_or_true, map_or_at}

-- look-ups after a write

pub exchange_here : (s : State) (p : ℕ) (x : Exchange) → p < length s.traffic.exchanges → exchange (with_exchange s p x) p ≡ x
exchange_here s p x h = get_or-set_same s.traffic.exchanges p x fresh_exchange h

pub exchange_there : (s : State) (p q : ℕ) (x : Exchange) → (q ≡ p → ⊥) → exchange (with_exchange s p x) q ≡ exchange s q
exchange_there s p q x ne = get_or-set_other s.traffic.exchanges p q x fresh_exchange ne

pub service_here : (s : State) (n : ℕ) (v : Option Service) → n < length s.traffic.services → service (with_service s n v) n ≡ v
service_here s n v h = get_or-set_same s.traffic.services n v None h

pub service_there : (s : State) (n m : ℕ) (v : Option Service) → (m ≡ n → ⊥) → service (with_service s n v) m ≡ service s m
service_there s n m v ne = get_or-set_other s.traffic.services n m v None ne

-- what a taken port's target services
pub record Taken (s : State) (p : ℕ) : Type 0 where
  pub to : Target
  pub leads : target s.config p ≡ Some to
  pub serving : Service
  pub serviced : service s to.node ≡ Some serving
  pub of_port : serving.port ≡ p

taken_at : (s : State) (p : ℕ) (o : Option Target) → target s.config p ≡ o → option_map_or (λ (v : Service). v.port == p) (option_and_then (λ (t : Target). service s t.node) o) false ≡ true → Taken s p
taken_at s p None e h = absurd (both_ways false refl h)
taken_at s p (Some t) e h =
    let v = map_or_true (λ (v : Service). v.port == p) (service s t.node) h in
    record { to = t; leads = e; serving = v.0; serviced = v.1; of_port = eqb-true v.0.port p v.2 }

pub taken_is : (s : State) (p : ℕ) → is_taken s p ≡ true → Taken s p
taken_is s p h = taken_at s p (target s.config p) refl h

pub is_taken_if : (s : State) (p : ℕ) (t : Target) (v : Service) → target s.config p ≡ Some t → service s t.node ≡ Some v → v.port ≡ p → is_taken s p ≡ true
is_taken_if s p t v e f same =
    ap (λ o. option_map_or (λ (v : Service). v.port == p) (option_and_then (λ (t : Target). service s t.node) o) false) e
    ∙ map_or_at (λ (v : Service). v.port == p) (service s t.node) false v f ∙ eq-eqb v.port p same

-- no node services an idle or an answered port
pub idle_unserved : (s : State) (p : ℕ) → IsConsistent s → is_idle (exchange s p).phase ≡ true → (m : ℕ) (v : Service) → service s m ≡ Some v → v.port ≡ p → ⊥
idle_unserved s p k idle m v e same =
    both_ways (is_idle (exchange s v.port).phase) (serving_busy (exchange s v.port).phase (k.serving m v e).busy) (ap (λ i. is_idle (exchange s i).phase) same ∙ idle)

pub answered_unserved : (s : State) (p : ℕ) → IsConsistent s → is_answered (exchange s p).phase ≡ true → (m : ℕ) (v : Service) → service s m ≡ Some v → v.port ≡ p → ⊥
answered_unserved s p k answered m v e same =
    serving_unanswered (exchange s v.port).phase (k.serving m v e).busy (ap (λ i. is_answered (exchange s i).phase) same ∙ answered)

-- a port that is serviced is asked or in more
pub served_busy : (s : State) (p : ℕ) → IsConsistent s → (m : ℕ) (v : Service) → service s m ≡ Some v → v.port ≡ p → (is_asked (exchange s p).phase || is_in_more (exchange s p).phase) ≡ true
served_busy s p k m v e same = sym (ap (λ i. is_asked (exchange s i).phase || is_in_more (exchange s i).phase) same) ∙ (k.serving m v e).busy

pub taken_busy : (s : State) (p : ℕ) → IsConsistent s → is_taken s p ≡ true → is_idle (exchange s p).phase ≡ false
taken_busy s p k h =
    let at = taken_is s p h in
    sym (ap (λ i. is_idle (exchange s i).phase) at.of_port) ∙ serving_busy (exchange s at.serving.port).phase (k.serving at.to.node at.serving at.serviced).busy

-- a port that isn't idle was made
pub busy_made : (s : State) (p : ℕ) → IsConsistent s → is_idle (exchange s p).phase ≡ false → p < length s.config.gates
busy_made s p k busy = ⊎_elim
    (λ (h : p < length s.config.gates). h)
    (λ (past : length s.config.gates ≤ p).
    let fresh : gate s.config p ≡ fresh_gate = get_or_past s.config.gates p fresh_gate past in
    absurd (both_ways false refl (sym (ap (λ (g : Gate). is_some g.target) fresh) ∙ k.linked p busy)))
    (cases_lt p (length s.config.gates))

-- the provision by which a node services a port
pub provision_is : (c : Configuration) (p n x : ℕ) → target c p ≡ Some (record { node = n; provide = x }) → provision c p ≡ x
provision_is c p n x e = map_or_at (λ (t : Target). t.provide) (target c p) 0 (record { node = n; provide = x }) e

-- what a port's target services is put where the port leads

pub put_is : (s : State) (p : ℕ) (t : Target) (v : Option Service) → target s.config p ≡ Some t → with_target_service s p v ≡ with_service s t.node v
put_is s p t v e =
    ap (λ o. record s { traffic = record s.traffic { services = option_map_or (λ (u : Target). set s.traffic.services u.node v) o s.traffic.services } }) e

pub target_service_is : (s : State) (p : ℕ) (t : Target) → target s.config p ≡ Some t → target_service s p ≡ service s t.node
target_service_is s p t e = ap (λ o. option_and_then (λ (u : Target). service s u.node) o) e
