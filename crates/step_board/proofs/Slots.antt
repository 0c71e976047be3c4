-- What was made in a slot stays there, and what was not made yet has done nothing.
use Rattle.std.proofs.Common.{◌≡◌, ◌∙◌, ℕ, ◌≤◌, Bool, true, false, List, [], length, Some, refl, ap, subst, ⊎_elim, arith}
use Rattle.std.specs.Prelude.{option_map}
use Rattle.std.proofs.lemmas.Bool.{cases_eq, eq-eqb, ne_eqb}
use Rattle.std.proofs.lemmas.Option.{slice_get_within}
use Rattle.quiesce_core.specs.Alters.{Reconfigures}
use Rattle.quiesce_core.specs.Effect.{effect}
use Rattle.quiesce_core.specs.Runs.{IsRun, done_by, state_after}
use Rattle.quiesce_core.specs.State.{Configuration, State, is_live, slot}
use Rattle.quiesce_core.specs.declared.event.Event.{Event}
use Rattle.quiesce_core.specs.declared.event.Event.TheVariants.{Make, Remove}
use Rattle.quiesce_core.specs.declared.state.Slot.{Slot}
use Rattle.quiesce_core.proofs.AlterLaws.{reconfigured}
use Rattle.quiesce_core.proofs.InductionLaws.{always}
use Rattle.quiesce_core.proofs.RunLaws.{done_by_other}
use Rattle.quiesce_core.proofs.TableLaws.{live_made}
use Rattle.quiesce_laws.proofs.DoerLaws.{gone_does_nothing}

-- it is what was made before, though it may have been removed since
pub record IsStill (old new : Slot) : Type 0 where
  pub node : new.node ≡ old.node
  pub first : new.first_port ≡ old.first_port
  pub from : new.from ≡ old.from
  pub gone : old.live ≡ false → new.live ≡ false

still : (m : Slot) → IsStill m m
still m = record { node = refl; first = refl; from = refl; gone = λ h. h }

pub slot_then : (c d : Configuration) (e : Event) → Reconfigures c e d → (n : ℕ) (m : Slot) → slot c n ≡ Some m → (new : Slot) × (slot d n ≡ Some new) × IsStill m new
slot_then c d (Make k node from) r n m at =
    (m, r.slots n ∙ rw (ne_eqb n (length c.slots) (λ same. let within = slice_get_within c.slots n m at in omega (arith, within, same))) at, still m)
slot_then c d (Remove k) r n m at = ⊎_elim
    (λ (same : n ≡ k). (
      record m { live = false },
      r.slots n ∙ rw (eq-eqb n k same) (ap (option_map (λ (x : Slot). record x { live = false })) at),
      record { node = refl; first = refl; from = refl; gone = λ h. refl },
    ))
    (λ (other : n ≡ k → ⊥). (m, r.slots n ∙ rw (ne_eqb n k other) at, still m))
    (cases_eq n k)
slot_then c d _ r n m at = (m, r.slots n ∙ at, still m)

record AreIdle (es : List Event) : Type 0 where
  idle : (n : ℕ) → length (state_after es).config.slots ≤ n → done_by n es ≡ []

slots_grow : (c d : Configuration) (e : Event) → Reconfigures c e d → length c.slots ≤ length d.slots
slots_grow c d (Make k node from) r = omega (arith, r.nodes)
slots_grow c d _ r = omega (arith, r.nodes)

not_made : (c : Configuration) (n : ℕ) → length c.slots ≤ n → is_live c n ≡ false
not_made c n past =
    by (is_live c n) refl
  where
    by : (b : Bool) → is_live c n ≡ b → is_live c n ≡ false
    by false is = is
    by true is = absurd (let made = live_made c n is in omega (arith, made, past))

-- what wasn't made yet has done nothing
pub unmade_are_idle : (es : List Event) → IsRun es → (n : ℕ) → length (state_after es).config.slots ≤ n → done_by n es ≡ []
unmade_are_idle es run =
    let all : AreIdle es =
    always AreIdle
    (λ before e here so_far. record {
      idle = λ n past.
          let config = subst (λ (s : State). length s.config.slots ≤ n) here.next past in
          let old : length (state_after before).config.slots ≤ n =
          (let more_ = slots_grow (state_after before).config (effect (state_after before) e).config e (reconfigured (state_after before) e here.legal) in omega (arith, more_, config)) in
          done_by_other n before e (gone_does_nothing (state_after before) e n here.well here.legal (not_made (state_after before).config n old)) ∙ so_far.idle n old;
    })
    (record { idle = λ n past. refl }) es run in
    all.idle
