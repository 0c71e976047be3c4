-- A seat of another slot at the same gates. A turn leaves it fitting, and so leaves its gate at these gates.
use Rattle.std.proofs.Common.{◌≢◌, ℕ, zero, suc, ◌<◌, [], refl, arith}
use Rattle.config_graph.specs.declared.TheConstants.{MAX_NODES}
use Rattle.txn_spec.specs.Views.{node_of, of_node}
use Rattle.txn_gate.specs.declared.node_seat.NodeSeat.{NodeSeat}

abbrev pub other_slot : ℕ → ℕ
other_slot zero = 1
other_slot (suc n) = 0

pub other_within : (n : ℕ) → other_slot n < MAX_NODES
other_within zero = omega arith
other_within (suc n) = omega arith

pub other_apart : (n : ℕ) → other_slot n ≢ n
other_apart zero is = omega (arith, is)
other_apart (suc n) is = omega (arith, is)

abbrev pub other : NodeSeat → ℕ → NodeSeat
other s n = record s {
  slot = other_slot n;
  seat = record s.seat { me = (of_node (record (node_of s.seat.me.0) { slot = other_slot n }), []) };
  is_node = refl;
  slot_is = refl;
  slot_within = other_within n;
}
