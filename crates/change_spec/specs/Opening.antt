-- To be believed (definitions.md).
-- What a node has come to by a run: the fold of its own events, from what it was made with. A node whose `make` names
-- another opens with what that one kept at last, and with its own argument.
use Rattle.std.specs.Prelude.{ℕ, zero, suc, List, Option, Some, None, option_map, option_and_then}
use Rattle.std.specs.Option.{option_map_or}
use Rattle.component_trait.specs.Fold.{fold_from}
use Rattle.component_trait.specs.Making.{argument_or_0}
use Rattle.component_trait.specs.States.{Kept, NodeState, at_rest}
use Rattle.component_trait.specs.Tables.{opening}
use Rattle.quiesce_core.specs.Runs.{done_by, state_after}
use Rattle.quiesce_core.specs.State.{slot}
use Rattle.quiesce_core.specs.declared.event.Event.{Event}
use Rattle.quiesce_core.specs.declared.state.Slot.{Slot}

abbrev pub argument_of : Slot → ℕ
argument_of m = argument_or_0 m.node.arg

-- the fold of these events of a node that opens so
abbrev pub fold_at : Slot → List Event → Kept → Option NodeState
fold_at m own kept = fold_from m.first_port (at_rest m.node.kind (argument_of m) kept) own

-- The fold of the node in slot n, where a chain of hand-overs has at most so many nodes. In a run each leads to a lower
-- slot, so n + 1 of them are enough: the fold is what one step says of it (`a_moved_state_is_the_last_one`).
abbrev pub fold_within : List Event → ℕ → ℕ → Option NodeState
fold_within es zero n = None
fold_within es (suc fuel) n =
    option_and_then
    (λ (m : Slot).
    option_and_then (fold_at m (done_by n es))
    (option_map_or (λ k. option_map (λ (s : NodeState). s.kept) (fold_within es fuel k)) m.from
    (Some (opening m.node.kind (argument_of m)))))
    (slot (state_after es).config n)

-- what the node in slot n has come to; none where an event of it, or of those whose state it took over, isn't what
-- its kind does
abbrev pub fold_of_node : List Event → ℕ → Option NodeState
fold_of_node es n = fold_within es (suc n) n
