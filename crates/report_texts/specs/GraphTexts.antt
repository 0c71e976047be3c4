-- To be believed (definitions.md).
-- The graph that lines show: nodes and links are read from them as they come, and the lines show this graph where
-- they are its text and it is sound.
use Rattle.std.specs.Prelude.{ℕ, ◌+◌, ◌-◌, zero, suc, ◌==◌, Bool, true, false, not, ◌&&◌, nat_lt, if◌then◌else◌, List, [], ◌∷◌, ◌++◌, ◌||◌, bytes_eq, filter_map, flat_map, is_some, length, replicate, slice_index_or, take, Option, Some, None}
use Rattle.std.specs.List.{list_all, range_with_len, suffix_len}
use Rattle.std.specs.Option.{option_and_then}
use Rattle.std.specs.Ordering.{is_lt, nat_cmp}
use Rattle.std.specs.Cmp.Lexicographic.{slice_cmp}
use Rattle.config_graph.specs.Kinds.{row}
use Rattle.config_graph.specs.Graph.{Graph, graph_of, index_of, ports, provides_at}
use Rattle.config_graph.specs.GraphText.{graph_text}
use Rattle.config_graph.specs.Search.{Visited, see_all, seen_of, successors}
use Rattle.config_graph.specs.declared.TheConstants.{VALUE_LIMIT}
use Rattle.config_graph.specs.declared.node.Link.{Link}
use Rattle.config_graph.specs.declared.node.Node.{Node}
use Rattle.config_graph.specs.declared.node.Port.{Port}
use Rattle.config_graph.specs.declared.node.Target.{Target}
use Rattle.report_writing.specs.Reports.{ended}
use Rattle.report_lines.specs.GraphLines.{is_graph_line, node_in, target_in}
use Rattle.report_lines.specs.Parts.{words}

-- the lines of a graph's text at the front, and those behind them
abbrev pub graph_lines : List (List ℕ) → List (List ℕ)
graph_lines [] = []
graph_lines (line ∷ more) = if is_graph_line (words line) then line ∷ graph_lines more else []

abbrev pub behind_graph : List (List ℕ) → List (List ℕ)
behind_graph [] = []
behind_graph (line ∷ more) = if is_graph_line (words line) then behind_graph more else line ∷ more

-- whether a line has a form of those of a graph's text: `node PATH KIND(ARG)`, or `port` and two words
abbrev pub has_form : List ℕ → Bool
has_form line = is_some (node_in (words line)) || is_some (target_in (words line))

-- the nodes of lines, and the words for the targets of ports
abbrev pub nodes_in : List (List ℕ) → List Node
nodes_in shown = filter_map (λ line. node_in (words line)) shown

abbrev pub targets_in : List (List ℕ) → List (List ℕ)
targets_in shown = filter_map (λ line. target_in (words line)) shown

-- how many bytes stand behind the last dot; the path of a node stands before it
abbrev pub behind_dot : List ℕ → ℕ
behind_dot word = suffix_len (λ byte. not (byte == 46)) word

abbrev pub path_of : List ℕ → List ℕ
path_of word = take (length word - behind_dot word - 1) word

-- the provision of a node that has one; no kind has two
abbrev pub provision_of : List Node → ℕ → Option Target
provision_of nodes node = if nat_lt 0 (provides_at nodes node) then Some (record { node = node; provide = 0 }) else None

-- what a word for a target names
abbrev pub target_named : List Node → List ℕ → Option Target
target_named nodes word = option_and_then (provision_of nodes) (index_of nodes (path_of word))

-- the links that lead from ports to what words name, port by port
abbrev pub link_from : Port → Option Target → List Link
link_from port None = []
link_from port (Some t) = record { from = port.node; require = port.require; to = t.node; provide = t.provide } ∷ []

abbrev pub links_by : List Node → List Port → List (List ℕ) → List Link
links_by nodes [] words = []
links_by nodes (port ∷ ports) [] = []
links_by nodes (port ∷ ports) (word ∷ words) = link_from port (target_named nodes word) ++ links_by nodes ports words

-- the graph of the nodes and links that stand in lines
abbrev pub drawn : List (List ℕ) → Graph
drawn shown = graph_of (nodes_in shown) (links_by (nodes_in shown) (ports (nodes_in shown)) (targets_in shown))

abbrev pub comes_before : Node → Node → Bool
comes_before node next = is_lt (slice_cmp nat_cmp node.path next.path)

-- whether paths rise strictly, byte by byte
abbrev pub paths_rise : List Node → Bool
paths_rise [] = true
paths_rise (node ∷ []) = true
paths_rise (node ∷ next ∷ more) = comes_before node next && paths_rise (next ∷ more)

-- whether an argument is there and small exactly where the kind has one
abbrev pub fits_kind : Bool → Option ℕ → Bool
fits_kind has None = not has
fits_kind has (Some arg) = has && nat_lt arg VALUE_LIMIT

-- a byte that is no space and no line feed, and a word of such bytes
abbrev pub is_path_byte : ℕ → Bool
is_path_byte byte = not (byte == 32) && not (byte == 10)

abbrev pub is_one_piece : List ℕ → Bool
is_one_piece text = nat_lt 0 (length text) && list_all is_path_byte text

-- whether a node's path is one word, and its argument fits its kind
abbrev pub is_sound_node : Node → Bool
is_sound_node node = is_one_piece node.path && fits_kind (is_some (row node.kind).arg) node.arg

-- all nodes to which ways lead from those that were seen: so many more of them have their successors seen
abbrev pub search : Graph → ℕ → ℕ → Visited → Visited
search graph zero next seen = seen
search graph (suc fuel) next seen =
    if nat_lt next (length seen.reached) then search graph fuel (next + 1)
    (see_all (successors graph (slice_index_or seen.reached next 0)) seen) else seen

abbrev pub leads_back : Graph → ℕ → Bool
leads_back graph node =
    slice_index_or (search graph (length graph.nodes) 0
    (see_all (successors graph node) (seen_of (replicate (length graph.nodes) false) []))).bits node false

-- whether no way leads from a node back to it
abbrev pub has_no_cycle : Graph → Bool
has_no_cycle graph = list_all (λ node. not (leads_back graph node)) (range_with_len 0 (length graph.nodes))

-- whether these lines are the text of this graph, and it is sound
abbrev pub shows : List (List ℕ) → Graph → Bool
shows shown graph = paths_rise graph.nodes && list_all is_sound_node graph.nodes
    && bytes_eq (graph_text graph) (flat_map ended shown) && has_no_cycle graph

-- the graph that lines show, where they show one
abbrev pub graph_in : List (List ℕ) → Option Graph
graph_in shown = if shows shown (drawn shown) then Some (drawn shown) else None
