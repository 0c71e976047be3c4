-- To be believed (definitions.md).
-- What a line of a graph's text says, by its words.
use Rattle.std.specs.Prelude.{ℕ, Bool, false, ◌||◌, if◌then◌else◌, List, [], ◌∷◌, bytes_eq, codes, Option, Some, None}
use Rattle.config_graph.specs.declared.kind.Kind.{Kind}
use Rattle.config_graph.specs.declared.node.Node.{Node}
use Rattle.report_lines.specs.Parts.{is_used_up}
use Rattle.report_lines.specs.Readings.{kind_in}

-- a line of a graph's text begins with one of two words
abbrev pub is_graph_line : List (List ℕ) → Bool
is_graph_line [] = false
is_graph_line (verb ∷ rest) = bytes_eq verb (codes "node") || bytes_eq verb (codes "port")

abbrev pub node_of : List ℕ → Option (Kind × Option ℕ) → Option Node
node_of path None = None
node_of path (Some typed) = Some (record { path = path; kind = typed.0; arg = typed.1 })

abbrev pub typed_node_in : List ℕ → List (List ℕ) → Option Node
typed_node_in path [] = None
typed_node_in path (kind ∷ rest) = if is_used_up rest then node_of path (kind_in kind) else None

abbrev pub named_node_in : List (List ℕ) → Option Node
named_node_in [] = None
named_node_in (path ∷ rest) = typed_node_in path rest

-- `node PATH KIND(ARG)`
abbrev pub node_in : List (List ℕ) → Option Node
node_in [] = None
node_in (verb ∷ rest) = if bytes_eq verb (codes "node") then named_node_in rest else None

abbrev pub last_word : List (List ℕ) → Option (List ℕ)
last_word [] = None
last_word (word ∷ rest) = if is_used_up rest then Some word else None

abbrev pub second_word : List (List ℕ) → Option (List ℕ)
second_word [] = None
second_word (port ∷ rest) = last_word rest

-- the last word of `port PATH.REQUIRE TARGET`
abbrev pub target_in : List (List ℕ) → Option (List ℕ)
target_in [] = None
target_in (verb ∷ rest) = if bytes_eq verb (codes "port") then second_word rest else None
