-- The laws of independence, for events of which a test says who does them.
use Rattle.std.proofs.Common.{◌≡◌, ◌∙◌, ℕ, true, false, None, ap}
use Rattle.std.specs.Prelude.{◌==◌}
use Rattle.std.specs.Option.{option_map_or}
use Rattle.quiesce_core.specs.declared.event.Event.{Event}
use Rattle.quiesce_core.specs.State.{State}
use Rattle.quiesce_core.specs.Doers.{is_of_change}
use Rattle.quiesce_core.specs.Rules.{denial}
use Rattle.quiesce_core.specs.Runs.{doer, is_doer}
use Rattle.quiesce_core.specs.Traffic.{IsConsistent}
use Rattle.quiesce_core.specs.WellFormed.{IsWellFormed}
use Rattle.quiesce_laws.specs.Independence.{AreIndependent, clashes}
use Rattle.quiesce_laws.proofs.ChangeSwapLaws.{changes_are_independent_of_nodes}
use Rattle.quiesce_laws.proofs.SwapDoerLaws.{found}
use Rattle.quiesce_laws.proofs.NodeSwapLaws.{nodes_are_independent}

pub two_nodes : (s : State) (e f : Event) (i j : ℕ) → IsWellFormed s → IsConsistent s → denial s e ≡ None → denial s f ≡ None
    → is_doer s i e ≡ true → is_doer s j f ≡ true → (i ≡ j → ⊥) → AreIndependent s e f
two_nodes s e f i j w c a b d g two =
    nodes_are_independent s i j e f w c (record { done_by_it = found s i e d; allowed = a }) (record { done_by_it = found s j f g; allowed = b }) two

pub change_and_node : (s : State) (x e : Event) (n : ℕ) → IsWellFormed s → IsConsistent s → denial s x ≡ None → denial s e ≡ None
    → is_of_change x ≡ true → is_doer s n e ≡ true → clashes x e ≡ false → AreIndependent s x e
change_and_node s x e n w c a b h d apart =
    changes_are_independent_of_nodes s n x e w c (record { of_change = h; allowed = a }) (record { done_by_it = found s n e d; allowed = b }) apart

pub does_still : (s t : State) (e : Event) (n : ℕ) → doer t e ≡ doer s e → is_doer s n e ≡ true → is_doer t n e ≡ true
does_still s t e n same d = ap (λ o. option_map_or (λ m. m == n) o false) same ∙ d
