-- Which gates a seat is of, and what they have room for.
use Rattle.std.specs.Prelude.{◌≡◌, ℕ, ◌+◌, ◌<◌, ◌≤◌, length}
use Rattle.std.proofs.Common.{subst, sym}
use Rattle.atomic_table.specs.Seated.{TableId}
use Rattle.config_graph.specs.Kinds.{row}
use Rattle.config_graph.specs.declared.TheConstants.{MAX_NODES, MAX_PORTS}
use Rattle.node_gate.specs.Seats.{IsWithinLimits}
use Rattle.txn_spec.specs.Steps.{IsChange, IsNode, Seat}
use Rattle.txn_spec.specs.Views.{node_at}
use Rattle.txn_spec.specs.declared.view.NodeView.{NodeView}

-- the seat is of this table, which has a word for each port and one for each slot, and it is that of a node
pub record IsNodeHere (seat gates : TableId) (me : Seat) : Type 0 where
  pub same : seat ≡ gates
  pub words : gates.words ≡ MAX_PORTS + MAX_NODES
  pub node : IsNode me

-- or that of the change
pub record IsChangeHere (seat gates : TableId) (me : Seat) : Type 0 where
  pub same : seat ≡ gates
  pub words : gates.words ≡ MAX_PORTS + MAX_NODES
  pub change : IsChange me

-- so a seat's node is within the limits of a run, in the slot that the seat says
pub within_limits : (n : NodeView) (slot first : ℕ) → n.slot ≡ slot → n.made.first_port ≡ first → slot < MAX_NODES
    → first + length (row n.made.kind).requires_ ≤ MAX_PORTS
    → IsWithinLimits (node_at n) × ((node_at n).slot ≡ slot)
within_limits n slot first slot_is first_is few ports = (
  record {
    slot_within = subst (λ k. k < MAX_NODES) (sym slot_is) few;
    ports_within = subst (λ k. k + length
        (row n.made.kind).requires_ ≤ MAX_PORTS) (sym first_is) ports;
  },
  slot_is,
)
