-- To be believed (definitions.md).
-- A search for all nodes to which ways lead: those that were seen, as a bit a node, and the list of them in the order
-- in which they were seen.
use Rattle.std.specs.Prelude.{ℕ, Bool, true, List, [], ◌∷◌, ◌++◌, filter_map, if◌then◌else◌, slice_index_or, slice_set}
use Rattle.std.specs.List.{range_with_len}
use Rattle.config_graph.specs.Graph.{Graph, requires_at}
use Rattle.config_graph.specs.Cycles.{leads_by}

pub record Visited : Type 0 where
  pub bits : List Bool
  pub reached : List ℕ

abbrev pub seen_of : List Bool → List ℕ → Visited
seen_of bits reached = record { bits = bits; reached = reached }

-- after node j is seen
abbrev pub see : ℕ → Visited → Visited
see j s = if slice_index_or s.bits j true then s else record { bits = slice_set s.bits j true; reached = s.reached ++ j ∷ [] }

abbrev pub see_all : List ℕ → Visited → Visited
see_all [] s = s
see_all (j ∷ js) s = see_all js (see j s)

-- the nodes to which a node leads by its first ports, and by all of them
abbrev pub successors_by : Graph → ℕ → ℕ → List ℕ
successors_by g i count = filter_map (leads_by g i) (range_with_len 0 count)

abbrev pub successors : Graph → ℕ → List ℕ
successors g i = successors_by g i (requires_at g.nodes i)
