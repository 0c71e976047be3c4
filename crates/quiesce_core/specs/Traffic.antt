-- What holds of the traffic after every run, and of the ports of removed nodes.
use Rattle.std.specs.Prelude.{◌≡◌, ℕ, ◌≤◌, ◌||◌, true, false, Some, None}
use Rattle.quiesce_core.specs.declared.state.Service.{Service}
use Rattle.quiesce_core.specs.State.{State, gate, owner, target, provision, calls_allowed, mores_allowed, depends, is_live, exchange, service}
use Rattle.quiesce_word.specs.Phases.{is_idle, is_asked, is_in_more}
use Rattle.quiesce_core.specs.Rules.{is_linked, is_taken}

-- node n services this: the port is linked to a provision of n, and asked or in more
pub record IsServing (s : State) (n : ℕ) (v : Service) : Type 0 where
  pub provide : ℕ
  pub linked : target s.config v.port ≡ Some (record { node = n; provide = provide })
  pub busy : (is_asked (exchange s v.port).phase || is_in_more (exchange s v.port).phase) ≡ true
  pub waits : is_in_more (exchange s v.port).phase ≡ true → v.heard ≡ false
  pub calls : v.calls ≤ calls_allowed s.config n provide
  pub mores : v.mores ≤ mores_allowed s.config n provide

-- port p has a transaction that belongs to the service of port q: p's owner services q, by a provision that depends
-- on p
pub record IsConsequent (s : State) (p q : ℕ) : Type 0 where
  pub busy : is_idle (exchange s p).phase ≡ false
  pub serving : Service
  pub serviced : service s (owner s.config p) ≡ Some serving
  pub of_port : serving.port ≡ q
  pub depends_on : depends s.config (owner s.config p) (provision s.config q) p ≡ true

pub record IsConsistent (s : State) : Type 0 where
  pub linked : (p : ℕ) → is_idle (exchange s p).phase ≡ false → is_linked s.config p ≡ true
  pub serving : (n : ℕ) (v : Service) → service s n ≡ Some v → IsServing s n v
  pub taken : (p : ℕ) → is_in_more (exchange s p).phase ≡ true → is_taken s p ≡ true
  pub consequent : (p q : ℕ) → (exchange s p).within ≡ Some q → IsConsequent s p q
  pub removed : (p : ℕ) → is_live s.config (owner s.config p) ≡ false → ((gate s.config p).closed ≡ true) × (target s.config p ≡ None)
