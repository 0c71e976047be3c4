-- A node takes its state from one of a lower slot.
use Rattle.std.proofs.Common.{◌≡◌, ◌∙◌, ℕ, ◌<◌, true, false, not, ◌&&◌, List, length, Option, Some, refl, ap, sym, subst, ⊎_elim, arith}
use Rattle.std.specs.Option.{option_map_or}
use Rattle.std.proofs.lemmas.Bool.{and_parts, cases_eq, eq-eqb, ne_eqb}
use Rattle.std.proofs.lemmas.Option.{slice_get_within}
use Rattle.base.proofs.OptionLaws.{option_map_some, map_or_true}
use Rattle.base.proofs.PlaceLaws.{slice_get-snoc}
use Rattle.config_graph.specs.declared.node.Node.{Node}
use Rattle.quiesce_core.specs.Alters.{Reconfigures}
use Rattle.quiesce_core.specs.declared.event.Event.{Event}
use Rattle.quiesce_core.specs.declared.event.Event.TheVariants.{Make, Remove}
use Rattle.quiesce_core.specs.declared.state.Slot.{Slot}
use Rattle.quiesce_core.specs.Effect.{effect, with_node}
use Rattle.quiesce_core.specs.Legal.{CanMake, Legal}
use Rattle.quiesce_core.specs.Rules.{can_move, is_kind, was_moved}
use Rattle.quiesce_core.specs.Runs.{IsRun, state_after}
use Rattle.quiesce_core.specs.State.{Configuration, State, slot}
use Rattle.quiesce_core.proofs.AlterLaws.{reconfigured}
use Rattle.quiesce_core.proofs.ConfigurationLaws.{slots_stay}
use Rattle.quiesce_core.proofs.InductionLaws.{always}
use Rattle.quiesce_core.proofs.SourceLaws.{new_slot}

pub record SourcesAreLower (c : Configuration) : Type 0 where
  pub lower : (n k : ℕ) (m : Slot) → slot c n ≡ Some m → m.from ≡ Some k → k < n

-- a node is made from one that was made before
pub source_there : (c : Configuration) (node : Node) (from : Option ℕ) (k : ℕ) → option_map_or (λ k. can_move c k node.kind) from true ≡ true → from ≡ Some k → k < length c.slots
source_there c node from k may is =
    let here : can_move c k node.kind ≡ true = sym (ap (λ o. option_map_or (λ k. can_move c k node.kind) o true) is) ∙ may in
    let found = map_or_true (λ (m : Slot). not m.live && is_kind m.node.kind node.kind) (slot c k)
    (and_parts (option_map_or (λ (m : Slot). not m.live && is_kind m.node.kind node.kind) (slot c k) false) (not (was_moved c k)) here).0 in
    slice_get_within c.slots k found.0 found.1

lower_made : (c : Configuration) (n : ℕ) (node : Node) (from : Option ℕ) → CanMake c n node from → SourcesAreLower c → SourcesAreLower (with_node c node from)
lower_made c n node from l h = record {
  lower = λ i k m at is. ⊎_elim
      (λ (old : (i < length c.slots) × (slot c i ≡ Some m)). h.lower i k m old.1 is)
      (λ (new : (i ≡ length c.slots) × (new_slot c node from ≡ m)).
      let low = source_there c node from k l.moves (ap (λ (x : Slot). x.from) new.1 ∙ is) in omega (arith, low, new.0))
      (slice_get-snoc c.slots (new_slot c node from) m i at);
}

was_from : (c d : Configuration) (n : ℕ) → Reconfigures c (Remove n) d → (i : ℕ) (m : Slot) → slot d i ≡ Some m → (old : Slot) × (slot c i ≡ Some old) × (old.from ≡ m.from)
was_from c d n r i m at = ⊎_elim
    (λ (same : i ≡ n).
    let old = option_map_some (λ (x : Slot). record x { live = false }) (slot c i) m (sym (r.slots i ∙ rw (eq-eqb i n same) refl) ∙ at) in
    (old.0, old.1, ap (λ (x : Slot). x.from) old.2))
    (λ (other : i ≡ n → ⊥). (m, sym (r.slots i ∙ rw (ne_eqb i n other) refl) ∙ at, refl))
    (cases_eq i n)

lower_next : (s : State) (e : Event) → Legal s e → SourcesAreLower s.config → SourcesAreLower (effect s e).config
lower_next s (Make n node from) l h = lower_made s.config n node from l h
lower_next s (Remove n) l h = record {
  lower = λ i k m at is.
      let old = was_from s.config (effect s (Remove n)).config n (reconfigured s (Remove n) l) i m at in h.lower i k old.0 old.1 (old.2 ∙ is);
}
lower_next s e l h = record {
  lower = λ i k m at is. h.lower i k m (sym (slots_stay s.config (effect s e).config e (reconfigured s e l) refl refl i) ∙ at) is;
}

pub lower_after : (es : List Event) → IsRun es → SourcesAreLower (state_after es).config
lower_after es run =
    always (λ xs. SourcesAreLower (state_after xs).config)
    (λ before e here so_far. subst (λ (s : State). SourcesAreLower s.config) (sym here.next) (lower_next (state_after before) e here.legal so_far))
    (record { lower = λ n k m at. absurd (cc) }) es run
