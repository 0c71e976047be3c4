-- To be believed (definitions.md).
-- The passive set of a change, enlarged for dependent transactions (Kramer and Magee 1990).
use Rattle.std.specs.Prelude.{ℕ, ◌⊎◌}
use Rattle.config_graph.specs.Cycles.{graph_wiring}
use Rattle.config_graph.specs.Graph.{Graph}
use Rattle.config_graph.specs.Wiring.{Reach}

-- the nodes of a set, and the owners of the ports that reach a node of it
abbrev pub Enlarged : Graph → (ℕ → Type 0) → ℕ → Type 0
Enlarged g set i = set i ⊎ ((n : ℕ) × (require : ℕ) × set n × Reach (graph_wiring g) n (record { node = i; require = require }))
