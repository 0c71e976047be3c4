-- To be believed (definitions.md).
-- The text of a graph: a line for each node, and below it a line for each of its requirements.
use Rattle.std.specs.Prelude.{ℕ, List, [], ◌++◌, flat_map, Option, Some, None, slice_get, unwrap_or, codes, decimal, ◌≢◌, All}
use Rattle.std.specs.List.{enumerate_from, range_with_len}
use Rattle.std.specs.Option.{option_map_or}
use Rattle.config_graph.specs.Kinds.{Provision, row}
use Rattle.config_graph.specs.Graph.{Graph, requires_of, target_of}
use Rattle.config_graph.specs.declared.kind.Kind.{Kind}
use Rattle.config_graph.specs.declared.node.Node.{Node}
use Rattle.config_graph.specs.declared.node.Target.{Target}

-- the names of a kind's requirement and provision
abbrev pub require_name : Kind → ℕ → List ℕ
require_name k require = unwrap_or (slice_get (row k).requires_ require) []

abbrev pub provide_name : Kind → ℕ → List ℕ
provide_name k provide = option_map_or (λ (p : Provision). p.name) (slice_get (row k).provides provide) []

-- a text that holds no space and no line feed
abbrev pub IsOneWord : List ℕ → Type 0
IsOneWord text = All (λ b. (b ≢ 32) × (b ≢ 10)) text

-- `KIND(ARG)`, as `map(10)` or `sink()`; the argument is in decimal
abbrev pub kind_text : Kind → Option ℕ → List ℕ
kind_text k arg = (row k).name ++ codes "(" ++ option_map_or decimal arg [] ++ codes ")"

-- `PATH.NAME`
abbrev pub end_text : List ℕ → List ℕ → List ℕ
end_text path name = path ++ codes "." ++ name

-- what a port is linked to, as `PATH.PROVIDE`, or `-`
abbrev pub target_text : List Node → Option Target → List ℕ
target_text nodes None = codes "-"
target_text nodes (Some t) =
    option_map_or (λ n. end_text n.path (provide_name n.kind t.provide)) (slice_get nodes t.node) []

-- `node PATH KIND(ARG)`
abbrev pub node_line : Node → List ℕ
node_line n = codes "node " ++ n.path ++ codes " " ++ kind_text n.kind n.arg ++ codes "\n"

-- `port PATH.REQUIRE PATH.PROVIDE`, or `port PATH.REQUIRE -`
abbrev pub port_line : Graph → ℕ → Node → ℕ → List ℕ
port_line g i n require =
    codes "port " ++ end_text n.path (require_name n.kind require) ++ codes " " ++ target_text g.nodes (target_of g.links i require) ++ codes "\n"

-- the lines of node i's first ports, and those of the node and all its ports
abbrev pub port_lines : Graph → ℕ → Node → ℕ → List ℕ
port_lines g i n count = flat_map (port_line g i n) (range_with_len 0 count)

abbrev pub node_lines : Graph → ℕ → Node → List ℕ
node_lines g i n = node_line n ++ port_lines g i n (requires_of n)

abbrev pub graph_text : Graph → List ℕ
graph_text g = flat_map (λ p. node_lines g p.0 p.1) (enumerate_from 0 g.nodes)
