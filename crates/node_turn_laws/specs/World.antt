-- To be believed (definitions.md).
-- All that a system of one thread is while its nodes take turns: the machine's state, what each node made has come to
-- by its own events, and the hints. A hint tells a node that a request waits for it at a port. It lies in the node's
-- inbox, or waits with the node that would post it while that inbox is full.
use Rattle.std.specs.Prelude.{ℕ, List, [], ◌∷◌, ◌++◌, length, replicate, Option, Some, None, option_map, slice_set, slice_index_or}
use Rattle.std.specs.Option.{option_map_or}
use Rattle.config_graph.specs.Kinds.{row}
use Rattle.config_graph.specs.declared.node.Node.{Node}
use Rattle.component_trait.specs.Fold.{fold_next}
use Rattle.component_trait.specs.Making.{handed_over, new_node}
use Rattle.component_trait.specs.States.{NodeState}
use Rattle.quiesce_core.specs.Effect.{effect}
use Rattle.quiesce_core.specs.State.{State, empty, slot}
use Rattle.quiesce_core.specs.declared.event.Event.{Event}
use Rattle.quiesce_core.specs.declared.event.Event.TheVariants.{Make}
use Rattle.quiesce_core.specs.declared.state.Slot.{Slot}

-- All lists are by slot, of all nodes made: `waiting` has for each requirement of a node the node for which its hint
-- waits.
pub record World : Type 0 where
  pub machine : State
  pub folds : List (Option NodeState)
  pub inboxes : List (List ℕ)
  pub waiting : List (List (Option ℕ))
  pub events : List Event

-- nothing is made
abbrev pub nowhere : World
nowhere = record { machine = empty; folds = []; inboxes = []; waiting = []; events = [] }

-- what node n has come to by its own events; none where one of them isn't what its kind does
abbrev pub state_of : World → ℕ → Option NodeState
state_of w n = slice_index_or w.folds n None

abbrev pub inbox : World → ℕ → List ℕ
inbox w n = slice_index_or w.inboxes n []

abbrev pub waiting_of : World → ℕ → List (Option ℕ)
waiting_of w n = slice_index_or w.waiting n []

abbrev pub first_port : State → ℕ → ℕ
first_port s n = option_map_or (λ (m : Slot). m.first_port) (slot s.config n) 0

-- node n did this event
abbrev pub with_event_of : World → ℕ → Event → World
with_event_of w n e =
    record w {
      machine = effect w.machine e;
      folds = slice_set w.folds n (fold_next (first_port w.machine n) (state_of w n) e);
      events = w.events ++ e ∷ [];
    }

-- what a node opens with: the state of its kind and argument, or what the node in slot k keeps, with the new argument
abbrev pub opened : World → Node → Option ℕ → Option NodeState
opened w node None = Some (new_node node.kind node.arg)
opened w node (Some k) = option_map (λ (s : NodeState). handed_over node.kind node.arg s.kept) (state_of w k)

-- the change did this event: a node that it makes has an empty inbox, and no hint of it waits
abbrev pub with_event : World → Event → World
with_event w (Make n node from) =
    record {
      machine = effect w.machine (Make n node from);
      folds = w.folds ++ opened w node from ∷ [];
      inboxes = w.inboxes ++ [] ∷ [];
      waiting = w.waiting ++ replicate (length (row node.kind).requires_) None ∷ [];
      events = w.events ++ Make n node from ∷ [];
    }
with_event w e = record w { machine = effect w.machine e; events = w.events ++ e ∷ [] }
