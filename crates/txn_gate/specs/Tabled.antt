-- What contracts see of tables, and the tests on it.
use Rattle.std.specs.Prelude.{ℕ, ◌&&◌, ◌||◌, Bool, not, List, [], length, None}
use Rattle.std.specs.List.{list_all, range_with_len}
use Rattle.config_graph.specs.declared.kind.Kind.{Kind}
use Rattle.config_graph.specs.declared.node.Node.{Node}
use Rattle.quiesce_core.specs.Reach.{reaches}
use Rattle.quiesce_core.specs.State.{Configuration, is_live, ports_of}
use Rattle.txn_gate.specs.declared.port_notes.PortNote.{PortNote}

-- A configuration, of whose nodes no path, argument and source is kept, and what is noted of each port.
pub record Tabled : Type 0 where
  pub config : Configuration
  pub notes : List PortNote

-- a node of which nothing but the kind is kept
abbrev pub bare_node : Kind → Node
bare_node k = record { path = []; kind = k; arg = None }

-- whether the node is live, and all its ports and all that reach it are noted
abbrev pub are_all_noted : (ℕ → Bool) → Configuration → ℕ → Bool
are_all_noted noted c n =
    is_live c n && list_all noted (ports_of c n) && list_all (λ p. noted p || not (reaches c n p)) (range_with_len 0 (length c.gates))
