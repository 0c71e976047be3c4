-- To be believed (definitions.md).
-- Sights of nodes, and what a node has come to by the events that were seen.
use Rattle.std.specs.Prelude.{ℕ, zero, suc, Bool, false, ◌==◌, List, find, Option, Some, None, option_map, option_and_then}
use Rattle.std.specs.Option.{option_map_or}
use Rattle.change_spec.specs.Opening.{argument_of, fold_at}
use Rattle.component_trait.specs.Moves as moves
use Rattle.component_trait.specs.States.{NodeState}
use Rattle.component_trait.specs.Tables.{opening}
use Rattle.quiesce_core.specs.State.{Configuration, slot}
use Rattle.quiesce_core.specs.declared.event.Event.{Event}
use Rattle.quiesce_core.specs.declared.state.Slot.{Slot}
use Rattle.txn_records.specs.declared.entry.Entry.{Entry}
use Rattle.txn_records.specs.declared.entry.Entry.TheVariants.{Sighted}

-- a sight of a node, with all that it did so far
pub record Sight : Type 0 where
  pub slot : ℕ
  pub events : List Event

abbrev pub sight_entry : Sight → Entry
sight_entry s = Sighted s.slot s.events

-- the events that were seen of the node in slot n, where it was sighted
abbrev pub seen_in : List Sight → ℕ → Option (List Event)
seen_in sights n = option_map (λ (s : Sight). s.events) (find (λ (s : Sight). s.slot == n) sights)

-- The fold of the node in slot n by the events that were seen of it, from its argument, or from what is kept by the
-- node whose state it took over; of that node the events must have been seen too. A chain of hand-overs has at most so
-- many nodes, and each leads to a lower slot.
abbrev pub fold_seen_within : Configuration → (ℕ → Option (List Event)) → ℕ → ℕ → Option NodeState
fold_seen_within c seen zero n = None
fold_seen_within c seen (suc fuel) n =
    option_and_then
    (λ (m : Slot).
    option_and_then
    (λ own.
    option_and_then (fold_at m own)
    (option_map_or (λ k. option_map (λ (s : NodeState). s.kept) (fold_seen_within c seen fuel k)) m.from
    (Some (opening m.node.kind (argument_of m)))))
    (seen n))
    (slot c n)

abbrev pub fold_seen : Configuration → (ℕ → Option (List Event)) → ℕ → Option NodeState
fold_seen c seen n = fold_seen_within c seen (suc n) n

-- whether the events that were seen show that the node has done what it is made for
abbrev pub is_seen_done : Configuration → (ℕ → Option (List Event)) → ℕ → Bool
is_seen_done c seen n = option_map_or moves.is_done (fold_seen c seen n) false
