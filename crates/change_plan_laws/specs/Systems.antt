-- The systems of worked changes, and what those of worked reports are made of.
use Rattle.std.specs.Prelude.{ℕ, List, [], ◌∷◌, codes, Some, None}
use Rattle.config_graph.specs.Graph.{Graph}
use Rattle.config_graph.specs.declared.kind.Kind.TheVariants as kind
use Rattle.config_graph.specs.declared.node.Link.{Link}
use Rattle.config_graph.specs.declared.node.Node.{Node}

-- the link of node i's requirement r to the one provision of node j
abbrev pub leads : ℕ → ℕ → ℕ → Link
leads i r j = record { from = i; require = r; to = j; provide = 0 }

abbrev pub sink_t : Node
sink_t = record { path = codes "t"; kind = kind.Sink; arg = None }

abbrev pub sink_u : Node
sink_u = record { path = codes "u"; kind = kind.Sink; arg = None }

abbrev pub source_at : List ℕ → ℕ → Node
source_at path n = record { path = path; kind = kind.Source; arg = Some n }

abbrev pub map_m : ℕ → Node
map_m k = record { path = codes "m"; kind = kind.Map; arg = Some k }

abbrev pub account_at : List ℕ → ℕ → Node
account_at path b = record { path = path; kind = kind.Account; arg = Some b }

abbrev pub branch_r : Node
branch_r = record { path = codes "r"; kind = kind.Branch; arg = None }

abbrev pub teller_w : ℕ → Node
teller_w n = record { path = codes "w"; kind = kind.Teller; arg = Some n }

-- a source of three items leads through a map that adds k to a sink
abbrev pub line : ℕ → Graph
line k = record { nodes = map_m k ∷ source_at (codes "s") 3 ∷ sink_t ∷ []; links = leads 0 0 2 ∷ leads 1 0 0 ∷ [] }

-- a teller of n transfers and a branch between an account of b and one of nothing
abbrev pub bank : ℕ → ℕ → Graph
bank n b =
    record {
      nodes = account_at (codes "a") b ∷ account_at (codes "b") 0 ∷ branch_r ∷ teller_w n ∷ [];
      links = leads 2 0 0 ∷ leads 2 1 1 ∷ leads 3 0 2 ∷ [];
    }
