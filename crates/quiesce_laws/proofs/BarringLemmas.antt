-- A close at a port bars a begin there.
use Rattle.std.proofs.Common.{◌≡◌, ◌∙◌, ℕ, true, cond, not, [], ◌∷◌, Some, None, refl, ap, ap₂}
use Rattle.std.specs.Prelude.{◌&&◌, nat_lt}
use Rattle.std.proofs.lemmas.Bool.{eq-eqb}
use Rattle.quiesce_word.specs.Phases.{is_idle}
use Rattle.quiesce_core.specs.declared.event.Event.TheVariants.{Begin, Close}
use Rattle.quiesce_core.specs.declared.state.Gate.{Gate}
use Rattle.quiesce_core.specs.Effect.{effect}
use Rattle.quiesce_core.specs.Legal.{Legal}
use Rattle.quiesce_core.specs.Rules.{denial, first_failing, is_linked, is_live_port, is_next_serial, is_value}
use Rattle.quiesce_core.specs.State.{State, exchange, gate, is_live}
use Rattle.quiesce_core.proofs.AlterLaws.{reconfigured}
use Rattle.quiesce_core.proofs.LegalLaws.{legal}

module _ (s : State) (p : ℕ) (l : Legal s (Close p)) where
  -- the gate is closed behind it, and all else of it is as it was
  gate_then : gate (effect s (Close p)).config p ≡ record (gate s.config p) { closed = true }
  gate_then = (reconfigured s (Close p) l).gates p ∙ ap (λ b. cond b (record (gate s.config p) { closed = true }) (gate s.config p)) (eq-eqb p p refl)

  live_then : is_live_port (effect s (Close p)).config p ≡ true
  live_then =
      ap₂ (λ k i. nat_lt p k && is_live (effect s (Close p)).config i) ((reconfigured s (Close p) l).ports) (ap (λ (g : Gate). g.owner) gate_then)
      ∙ l.live

pub closes_bar_begins : (s : State) (p k v : ℕ) → denial s (Close p) ≡ None → denial (effect s (Close p)) (Begin p k v) ≡ Some 2
closes_bar_begins s p k v allowed_ =
    let l = legal s (Close p) allowed_ in
    let t = effect s (Close p) in
    ap₂ (λ a b. first_failing ((1, a) ∷ (2, b) ∷ (3, is_linked t.config p) ∷ (4, is_idle (exchange t p).phase) ∷ (5, is_next_serial t p k) ∷ (6, is_value v) ∷ []))
    (live_then s p l) (ap (λ (g : Gate). not g.closed) (gate_then s p l))
