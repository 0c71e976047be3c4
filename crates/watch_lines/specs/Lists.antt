-- To be believed (definitions.md).
-- Lists of published graphs. A number of commits is the length of such a list, and names its last graph.
use Rattle.std.specs.Prelude.{◌≡◌, List, [], ◌++◌, fold}
use Rattle.config_graph.specs.Graph.{Graph}

abbrev pub BeginsWith : List Graph → List Graph → Type 0
BeginsWith list start = (rest : List Graph) × (list ≡ start ++ rest)

abbrev pub no_graph : Graph
no_graph = record { nodes = []; links = [] }

-- the last graph of a list, and the empty graph where there is none
abbrev pub last_of : List Graph → Graph
last_of = fold (λ _ g. g) no_graph
