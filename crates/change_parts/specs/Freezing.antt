-- Which nodes the whole change freezes, told by nodes: the parts of it stand in other graphs.
use Rattle.std.specs.Prelude.{◌≡◌, ℕ, Some, slice_get}
use Rattle.config_graph.specs.Graph.{Graph}
use Rattle.config_graph.specs.declared.node.Node.{Node}
use Rattle.change_plan.specs.Touched.{Frozen}

-- the whole change freezes this node of the old graph
abbrev pub IsFrozenAt : Graph → Graph → Node → Type 0
IsFrozenAt old new n = (i : ℕ) × (slice_get old.nodes i ≡ Some n) × Frozen old new i
