-- Nodes whose state went to another: they are gone, and it went to no second one.
use Rattle.std.proofs.Common.{◌≡◌, ◌∙◌, ℕ, true, false, List, [], ◌∷◌, ◌++◌, length, Option, Some, None, refl, sym, ap, ⊎_elim}
use Rattle.std.proofs.lemmas.Map.Keys.{any_passes_from_place}
use Rattle.std.specs.Prelude.{◌==◌}
use Rattle.std.specs.List.{list_any}
use Rattle.std.specs.Option.{option_map_or}
use Rattle.std.proofs.lemmas.Bool.{both_ways, eq-eqb, eqb-true, or_cases}
use Rattle.std.proofs.lemmas.List.Folds.{list_any-append}
use Rattle.quiesce_core.specs.Effect.{effect}
use Rattle.quiesce_core.specs.Rules.{was_moved}
use Rattle.quiesce_core.specs.Runs.{IsRun, state_after}
use Rattle.quiesce_core.specs.State.{Configuration, State, slot}
use Rattle.quiesce_core.specs.declared.event.Event.{Event}
use Rattle.quiesce_core.specs.declared.event.Event.TheVariants.{Make}
use Rattle.quiesce_core.specs.declared.state.Slot.{Slot}
use Rattle.quiesce_core.proofs.AlterLaws.{reconfigured}
use Rattle.quiesce_core.proofs.InductionLaws.{IsNext, always}
use Rattle.quiesce_core.proofs.SourceLaws.{sources_are_gone}
use Rattle.result_laws.proofs.ComingLaws.{stays}
pub use Rattle.result_laws.specs.UnderWay.{hands_on}

-- some node took over from it
pub record TookOver (c : Configuration) (n : ℕ) : Type 0 where
  pub at : ℕ
  pub made : Slot
  pub there : slot c at ≡ Some made
  pub from : made.from ≡ Some n

took_on : (es : List Event) (e : Event) → IsNext es e → (n : ℕ) → TookOver (state_after es).config n → TookOver (state_after (es ++ e ∷ [])).config n
took_on es e here n w =
    let after = stays (state_after es).config (effect (state_after es) e).config e (reconfigured (state_after es) e here.legal) w.at w.made w.there in
    record { at = w.at; made = after.then_; there = ap (λ (s : State). slot s.config w.at) here.next ∙ after.there; from = after.from ∙ w.from }

took_now : (es : List Event) (e : Event) → IsNext es e → (n : ℕ) → hands_on n e ≡ true → TookOver (state_after (es ++ e ∷ [])).config n
took_now es e here n h = by e refl h
  where
    by : (z : Event) → e ≡ z → hands_on n z ≡ true → TookOver (state_after (es ++ e ∷ [])).config n
    by (Make k node from) at g = from_some from refl g
      where
        from_some : (o : Option ℕ) → from ≡ o → option_map_or (λ i. i == n) o false ≡ true → TookOver (state_after (es ++ e ∷ [])).config n
        from_some None is g = absurd (both_ways false refl g)
        from_some (Some i) is g =
            let c = (state_after es).config in
            record {
              at = length c.slots;
              made = record { node = node; first_port = length c.gates; from = from; live = true };
              there = ap (λ (s : State). slot s.config (length c.slots)) here.next
                  ∙ (reconfigured (state_after es) e here.legal).slots (length c.slots) ∙ ap (Rattle.quiesce_core.specs.Alters.slot_next c (length c.slots)) at
                  ∙ rw (eq-eqb (length c.slots) (length c.slots) refl) refl;
              from = is ∙ ap Some (eqb-true i n g);
            }
    by _ at g = absurd (both_ways false refl g)

pub took_over : (es : List Event) → IsRun es → (n : ℕ) → list_any (hands_on n) es ≡ true → TookOver (state_after es).config n
took_over es run =
    always (λ xs. (n : ℕ) → list_any (hands_on n) xs ≡ true → TookOver (state_after xs).config n)
    (λ before e here so_far n h. ⊎_elim
    (λ (old : list_any (hands_on n) before ≡ true). took_on before e here n (so_far n old))
    (λ (new_ : list_any (hands_on n) (e ∷ []) ≡ true). took_now before e here n (alone n e new_))
    (or_cases (list_any (hands_on n) before) (list_any (hands_on n) (e ∷ [])) (sym (list_any-append (hands_on n) before (e ∷ [])) ∙ h)))
    (λ n h. absurd (both_ways false refl h)) es run
  where
    alone : (n : ℕ) (e : Event) → list_any (hands_on n) (e ∷ []) ≡ true → hands_on n e ≡ true
    alone n e h = ⊎_elim (λ (a : hands_on n e ≡ true). a) (λ (b : list_any (hands_on n) [] ≡ true). absurd (both_ways false refl b)) (or_cases (hands_on n e) (list_any (hands_on n) []) h)

-- so it is gone
pub given_is_gone : (es : List Event) → IsRun es → (n : ℕ) → list_any (hands_on n) es ≡ true → (old : Slot) × (slot (state_after es).config n ≡ Some old) × (old.live ≡ false)
given_is_gone es run n h =
    let w = took_over es run n h in let g = (sources_are_gone es run).gone w.at n w.made w.there w.from in (g.old, g.there, g.removed)

-- and the machine knows it
pub given_was_moved : (es : List Event) → IsRun es → (n : ℕ) → list_any (hands_on n) es ≡ true → was_moved (state_after es).config n ≡ true
given_was_moved es run n h =
    let w = took_over es run n h in
    any_passes_from_place (λ (m : Slot). option_map_or (λ f. f == n) m.from false) (state_after es).config.slots w.at w.made w.there (ap (λ o. option_map_or (λ f. f == n) o false) w.from ∙ eq-eqb n n refl)
