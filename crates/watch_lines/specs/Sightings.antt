-- To be believed (definitions.md).
-- What an observer notes: a number of commits, and how many nodes and links the graph has that stands behind the last of
-- them. Here these graphs are a list, in the order of their commits.
use Rattle.std.specs.Prelude.{◌≡◌, ◌<◌, List, [], ◌∷◌, ◌++◌, All, AllPairs, length, slice_get, Some}
use Rattle.config_graph.specs.Graph.{Graph}
use Rattle.watch_lines.specs.Lists.{no_graph}
use Rattle.watch_lines.specs.declared.sighting.Sighting.{Sighting}

-- so many nodes and links a graph has
abbrev pub CountsOf : Sighting → Graph → Type 0
CountsOf s graph = (s.nodes ≡ length graph.nodes) × (s.links ≡ length graph.links)

-- the counts are those of the graph of this number; before the first commit there is the empty graph
abbrev pub IsSightingOf : List Graph → Sighting → Type 0
IsSightingOf graphs s = (graph : Graph) × (slice_get (no_graph ∷ graphs) s.commits ≡ Some graph) × CountsOf s graph

abbrev pub IsBelow : Sighting → Sighting → Type 0
IsBelow s t = s.commits < t.commits

-- each is of these graphs, their numbers rise strictly, and the last is of all commits
pub record AreSightingsOf (graphs : List Graph) (lines : List Sighting) : Type 0 where
  pub each : All (IsSightingOf graphs) lines
  pub rising : AllPairs IsBelow lines
  pub earlier : List Sighting
  pub last : Sighting
  pub ends : lines ≡ earlier ++ last ∷ []
  pub all : last.commits ≡ length graphs
