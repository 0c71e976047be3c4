-- What was seen of nodes, and what they have come to.
use Rattle.std.proofs.Common.{◌≡◌, ℕ, zero, suc, ◌<◌, List, length, Option, Some, None, refl, ap, ◌∙◌}
use Rattle.std.specs.Prelude.{option_map, option_and_then}
use Rattle.std.specs.Option.{option_map_or}
use Rattle.std.proofs.lemmas.Option.{slice_get_within}
use Rattle.change_spec.specs.Opening.{argument_of, fold_at, fold_of_node, fold_within}
use Rattle.component_trait.specs.States.{NodeState}
use Rattle.component_trait.specs.Tables.{opening}
use Rattle.quiesce_core.specs.declared.event.Event.{Event}
use Rattle.quiesce_core.specs.declared.state.Slot.{Slot}
use Rattle.quiesce_core.specs.Runs.{done_by, state_after}
use Rattle.quiesce_core.specs.State.{Configuration, slot}
use Rattle.change_board.specs.Sights.{fold_seen, fold_seen_within}

module _ (es : List Event) (seen : ℕ → Option (List Event)) (all : (k : ℕ) → k < length (state_after es).config.slots → seen k ≡ Some (done_by k es)) where
  abbrev c : Configuration
  c = (state_after es).config

  same_opening : (fuel : ℕ) (m : Slot) (from : Option ℕ) → ((k : ℕ) → fold_seen_within c seen fuel k ≡ fold_within es fuel k)
      → option_map_or (λ k. option_map (λ (s : NodeState). s.kept) (fold_seen_within c seen fuel k)) from (Some (opening m.node.kind (argument_of m)))
      ≡ option_map_or (λ k. option_map (λ (s : NodeState). s.kept) (fold_within es fuel k)) from (Some (opening m.node.kind (argument_of m)))
  same_opening fuel m None h = refl
  same_opening fuel m (Some k) h = ap (option_map (λ (s : NodeState). s.kept)) (h k)

  by_slot : (fuel n : ℕ) (o : Option Slot) → slot c n ≡ o → ((k : ℕ) → fold_seen_within c seen fuel k ≡ fold_within es fuel k)
      → option_and_then
      (λ (m : Slot).
      option_and_then
      (λ own.
      option_and_then (fold_at m own)
      (option_map_or (λ k. option_map (λ (s : NodeState). s.kept) (fold_seen_within c seen fuel k)) m.from (Some (opening m.node.kind (argument_of m)))))
      (seen n))
      o
      ≡ option_and_then
      (λ (m : Slot).
      option_and_then (fold_at m (done_by n es))
      (option_map_or (λ k. option_map (λ (s : NodeState). s.kept) (fold_within es fuel k)) m.from (Some (opening m.node.kind (argument_of m)))))
      o
  by_slot fuel n None e h = refl
  by_slot fuel n (Some m) e h =
      ap (λ o. option_and_then (λ own. option_and_then (fold_at m own)
      (option_map_or (λ k. option_map (λ (s : NodeState). s.kept) (fold_seen_within c seen fuel k)) m.from (Some (opening m.node.kind (argument_of m))))) o)
      (all n (slice_get_within c.slots n m e))
      ∙ ap (option_and_then (fold_at m (done_by n es))) (same_opening fuel m m.from h)

  within : (fuel n : ℕ) → fold_seen_within c seen fuel n ≡ fold_within es fuel n
  within zero n = refl
  within (suc fuel) n = by_slot fuel n (slot c n) refl (within fuel)

pub seen_fold : (es : List Event) (seen : ℕ → Option (List Event)) (n : ℕ) → ((k : ℕ) → k < length (state_after es).config.slots → seen k ≡ Some (done_by k es))
    → fold_seen (state_after es).config seen n ≡ fold_of_node es n
seen_fold es seen n all = within es seen all (suc n) n
