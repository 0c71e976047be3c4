-- Room in plans and in the machine.
use Rattle.std.proofs.Common.{◌≡◌, ℕ, ◌+◌, ◌<◌, ◌≤◌, true, ◌&&◌, length, arith, lt-ltb, le-leb}
use Rattle.std.specs.Prelude.{◌↔◌, ◌==◌, nat_le, nat_lt}
use Rattle.std.proofs.lemmas.Bool.{and_from, and_parts, eq-eqb, eqb-true, leb-true, ltb-true}
use Rattle.change_plan.specs.Room.{HasRoom}
use Rattle.config_graph.specs.Graph.{requires_of}
use Rattle.config_graph.specs.declared.TheConstants.{MAX_NODES, MAX_PORTS}
use Rattle.config_graph.specs.declared.node.Node.{Node}
use Rattle.quiesce_core.specs.Rules.{has_room}
use Rattle.quiesce_core.specs.State.{Configuration}
use Rattle.change_plan_laws.specs.Committing.{made_in}

pub room : (c : Configuration) (n : ℕ) (node : Node) → (has_room c n node ≡ true) ↔ ((n ≡ length c.slots) × HasRoom (made_in c) 1 (requires_of node))
room c n node = (
  λ h.
      let all = and_parts (n == length c.slots && nat_lt n MAX_NODES) (nat_le (length c.gates + requires_of node) MAX_PORTS) h in
      let first = and_parts (n == length c.slots) (nat_lt n MAX_NODES) all.0 in
      let here : n ≡ length c.slots = eqb-true n (length c.slots) first.0 in
      let low : n < MAX_NODES = ltb-true n MAX_NODES first.1 in
      (here, record { nodes_fit = omega (arith, here, low); ports_fit = leb-true (length c.gates + requires_of node) MAX_PORTS all.1 }),
  λ w.
      let here : n ≡ length c.slots = w.0 in
      let fits : length c.slots + 1 ≤ MAX_NODES = w.1.nodes_fit in
      and_from (n == length c.slots && nat_lt n MAX_NODES) (nat_le (length c.gates + requires_of node) MAX_PORTS)
      (and_from (n == length c.slots) (nat_lt n MAX_NODES) (eq-eqb n (length c.slots) here) (lt-ltb n MAX_NODES (omega (arith, here, fits))))
      (le-leb (length c.gates + requires_of node) MAX_PORTS w.1.ports_fit),
)
