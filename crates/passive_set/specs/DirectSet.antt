-- The passive set of a change before it is enlarged (Kramer and Magee 1990): the nodes that are changed, and those that
-- may begin transactions with them.
use Rattle.std.specs.Prelude.{ℕ, ◌⊎◌}
use Rattle.config_graph.specs.Cycles.{IsLinked}
use Rattle.config_graph.specs.Graph.{Graph}

-- node i is linked to node n: one of its ports is, at some provision
abbrev pub IsLinkedTo : Graph → ℕ → ℕ → Type 0
IsLinkedTo g i n = (require : ℕ) × (provide : ℕ) × IsLinked g i require n provide

-- the nodes of a set, and each node linked to one of them
abbrev pub Direct : Graph → (ℕ → Type 0) → ℕ → Type 0
Direct g set i = set i ⊎ ((n : ℕ) × set n × IsLinkedTo g i n)
