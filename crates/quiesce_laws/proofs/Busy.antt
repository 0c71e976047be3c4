-- What is known of a port that has a transaction.
use Rattle.std.proofs.Common.{◌≡◌, ℕ, true, false, Some, refl, sym, ap, ◌∙◌, inl, inr}
use Rattle.std.specs.Prelude.{◌⊎◌}
use Rattle.std.proofs.lemmas.Bool.{both_ways, false_from_ne_true}
use Rattle.config_graph.specs.declared.node.Target.{Target}
use Rattle.quiesce_core.specs.declared.state.Service.{Service}
use Rattle.quiesce_word.specs.declared.phase.Phase.{Phase}
use Rattle.quiesce_word.specs.declared.phase.Phase.TheVariants as phase
use Rattle.quiesce_core.specs.State.{State, target, exchange, service}
use Rattle.quiesce_word.specs.Phases.{is_idle, is_asked, is_answered, is_in_more}
use Rattle.quiesce_core.specs.Rules.{is_taken}
use Rattle.quiesce_core.specs.Traffic.{IsConsistent}
use Rattle.quiesce_core.proofs.StateLaws.{taken_is}
use Rattle.base.proofs.OptionLaws.{Some-from_is_some}

pub busy_phases : (f : Phase) → is_idle f ≡ false → (is_asked f ≡ true) ⊎ ((is_answered f ≡ true) ⊎ (is_in_more f ≡ true))
busy_phases phase.Idle h = absurd (both_ways true h refl)
busy_phases phase.Asked h = inl refl
busy_phases phase.Answered h = inr (inl refl)
busy_phases phase.More h = inr (inr refl)

-- it leads somewhere
pub busy_target : (s : State) (p : ℕ) → IsConsistent s → is_idle (exchange s p).phase ≡ false → (t : Target) × (target s.config p ≡ Some t)
busy_target s p k busy = Some-from_is_some (target s.config p) (k.linked p busy)

-- it isn't taken where its target services nothing, or another port
pub untaken_if : (s : State) (p : ℕ) (t : Target) → target s.config p ≡ Some t → ((v : Service) → service s t.node ≡ Some v → v.port ≡ p → ⊥) → is_taken s p ≡ false
untaken_if s p t e other = false_from_ne_true (is_taken s p) (λ h.
    let u = taken_is s p h in
    let same : u.to ≡ t = cc (e, u.leads) in
    other u.serving (sym (ap (λ (x : Target). service s x.node) same) ∙ u.serviced) u.of_port)
