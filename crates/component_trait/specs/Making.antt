-- To be believed (definitions.md).
-- What a node that is made opens with, and what one opens with that takes over what another of its kind keeps.
use Rattle.std.specs.Prelude.{ℕ, Option}
use Rattle.std.specs.Option.{option_map_or}
use Rattle.config_graph.specs.declared.kind.Kind.{Kind}
use Rattle.component_trait.specs.States.{Kept, NodeState, at_rest}
use Rattle.component_trait.specs.Tables.{opening}

-- the argument of a node, and 0 where its kind has none
abbrev pub argument_or_0 : Option ℕ → ℕ
argument_or_0 arg = option_map_or (λ a. a) arg 0

-- what was kept goes over whole; the argument is the new node's own
abbrev pub handed_over : Kind → Option ℕ → Kept → NodeState
handed_over k arg kept = at_rest k (argument_or_0 arg) kept

-- a node that is made opens with what its argument says
abbrev pub new_node : Kind → Option ℕ → NodeState
new_node k arg = handed_over k arg (opening k (argument_or_0 arg))
