-- A node that took a state over begins with what the other kept at last: sources have lower slots, so the chain of folds ends.
use Rattle.std.proofs.Common.{◌≡◌, ◌∙◌, ℕ, zero, suc, ◌<◌, List, Option, Some, None, refl, ap, arith}
use Rattle.std.specs.Prelude.{option_and_then, option_map}
use Rattle.std.specs.Option.{option_map_or}
use Rattle.component_trait.specs.States.{Kept, NodeState}
use Rattle.component_trait.specs.Tables.{opening}
use Rattle.quiesce_core.specs.declared.event.Event.{Event}
use Rattle.quiesce_core.specs.declared.state.Slot.{Slot}
use Rattle.quiesce_core.specs.Runs.{IsRun, done_by, state_after}
use Rattle.quiesce_core.specs.State.{slot}
use Rattle.change_spec.proofs.LowerLaws.{SourcesAreLower, lower_after}
use Rattle.change_spec.specs.Opening.{argument_of, fold_at, fold_of_node, fold_within}

-- the fold of a node by what its source kept

abbrev kept_within : List Event → ℕ → ℕ → Option Kept
kept_within es fuel k = option_map (λ (s : NodeState). s.kept) (fold_within es fuel k)

abbrev fold_in : List Event → ℕ → ℕ → Slot → Option NodeState
fold_in es fuel n m = option_and_then (fold_at m (done_by n es)) (option_map_or (kept_within es fuel) m.from (Some (opening m.node.kind (argument_of m))))

same_opening : (es : List Event) (f g n : ℕ) (kept : Kept) (from : Option ℕ) → ((k : ℕ) → from ≡ Some k → k < n) → ((k : ℕ) → k < n → fold_within es f k ≡ fold_within es g k)
    → option_map_or (kept_within es f) from (Some kept) ≡ option_map_or (kept_within es g) from (Some kept)
same_opening es f g n kept None low same = refl
same_opening es f g n kept (Some k) low same = ap (option_map (λ (s : NodeState). s.kept)) (same k (low k refl))

same_step : (es : List Event) (f g n : ℕ) (o : Option Slot) → ((m : Slot) (k : ℕ) → o ≡ Some m → m.from ≡ Some k → k < n) → ((k : ℕ) → k < n → fold_within es f k ≡ fold_within es g k)
    → option_and_then (fold_in es f n) o ≡ option_and_then (fold_in es g n) o
same_step es f g n None low same = refl
same_step es f g n (Some m) low same =
    ap (option_and_then (fold_at m (done_by n es))) (same_opening es f g n (opening m.node.kind (argument_of m)) m.from (λ k is. low m k refl is) same)

same_fold : (es : List Event) → SourcesAreLower (state_after es).config → (f g n : ℕ) → n < f → n < g → fold_within es f n ≡ fold_within es g n
same_fold es low zero g n below also = absurd (omega (arith, below))
same_fold es low (suc f) zero n below also = absurd (omega (arith, also))
same_fold es low (suc f) (suc g) n below also =
    same_step es f g n (slot (state_after es).config n) (λ m k there is. low.lower n k m there is)
    (λ k less. same_fold es low f g k (omega (arith, below, less)) (omega (arith, also, less)))

-- so a chain of hand-overs ends within as many nodes as are allowed for
pub chain_ends : (es : List Event) → IsRun es → (n bound : ℕ) → n < bound → fold_within es bound n ≡ fold_of_node es n
chain_ends es run n bound below = same_fold es (lower_after es run) bound (suc n) n below (omega arith)

pub handed_over : (es : List Event) → IsRun es → (n k : ℕ) (m : Slot) → slot (state_after es).config n ≡ Some m → m.from ≡ Some k
    → fold_of_node es n ≡ option_and_then (fold_at m (done_by n es)) (option_map (λ (s : NodeState). s.kept) (fold_of_node es k))
handed_over es run n k m there is =
    let low = lower_after es run in
    let below : k < n = low.lower n k m there is in
    ap (option_and_then (fold_in es n n)) there
    ∙ ap (λ (o : Option ℕ). option_and_then (fold_at m (done_by n es)) (option_map_or (kept_within es n) o (Some (opening m.node.kind (argument_of m))))) is
    ∙ ap (λ (o : Option NodeState). option_and_then (fold_at m (done_by n es)) (option_map (λ (s : NodeState). s.kept) o)) (same_fold es low n (suc k) k below (omega arith))
