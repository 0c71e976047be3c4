-- To be believed (definitions.md).
-- Configurations as flat graphs (Kramer and Magee 1990: nodes and directed connections): a list of nodes, ordered by
-- their paths, and a list of links, ordered by their ports. Nodes are named by their places in the list, from 0. A
-- port is a required service of a node; ports are numbered through all nodes in order, each node's requirements in
-- the order of its kind.
use Rattle.std.specs.Prelude.{◌≡◌, ℕ, ◌+◌, ◌<◌, ◌^◌, Bool, false, ◌&&◌, ◌==◌, List, map, length, take, Option, option_map, slice_get, find, filter, filter_map, flat_map, position, sum_by, bytes_eq, All, AllPairs}
use Rattle.std.specs.List.{enumerate_from, range_with_len}
use Rattle.std.specs.Option.{option_map_or}
use Rattle.std.specs.Ordering.{nat_cmp}
use Rattle.std.specs.Cmp.Lexicographic.{slice_cmp}
use Rattle.std.specs.declared.cmp.Ordering.TheVariants.{Less}
use Rattle.config_graph.specs.Kinds.{row}
use Rattle.config_graph.specs.declared.node.Node.{Node}
use Rattle.config_graph.specs.declared.node.Port.{Port}
use Rattle.config_graph.specs.declared.node.Target.{Target}
use Rattle.config_graph.specs.declared.node.Link.{Link}

pub record Graph : Type 0 where
  pub nodes : List Node
  pub links : List Link

-- how many services a node requires and provides
abbrev pub requires_of : Node → ℕ
requires_of n = length (row n.kind).requires_

abbrev pub provides_of : Node → ℕ
provides_of n = length (row n.kind).provides

-- how many services node i requires and provides; none where there is no such node
abbrev pub requires_at : List Node → ℕ → ℕ
requires_at nodes i = option_map_or requires_of (slice_get nodes i) 0

abbrev pub provides_at : List Node → ℕ → ℕ
provides_at nodes i = option_map_or provides_of (slice_get nodes i) 0

-- the ports of a node i that requires so many services
abbrev pub ports_of : ℕ → ℕ → List Port
ports_of i requires_ = map (λ r. record { node = i; require = r }) (range_with_len 0 requires_)

-- all ports, in the order of their numbers
abbrev pub ports : List Node → List Port
ports nodes = flat_map (λ p. ports_of p.0 (requires_of p.1)) (enumerate_from 0 nodes)

-- the number of a node's first port, and that of the port of a requirement
abbrev pub first_port : List Node → ℕ → ℕ
first_port nodes i = sum_by requires_of (take i nodes)

abbrev pub port_number : List Node → ℕ → ℕ → ℕ
port_number nodes i require = first_port nodes i + require

-- whether a link begins at this requirement of node i
abbrev pub begins_at : ℕ → ℕ → Link → Bool
begins_at i require l = l.from == i && l.require == require

-- whether a link ends at this provision of node i
abbrev pub ends_at : ℕ → ℕ → Link → Bool
ends_at i provide l = l.to == i && l.provide == provide

-- the link of a port, and what the port is linked to
abbrev pub link_at : List Link → ℕ → ℕ → Option Link
link_at links i require = find (begins_at i require) links

abbrev pub target_of : List Link → ℕ → ℕ → Option Target
target_of links i require = option_map (λ l. record { node = l.to; provide = l.provide }) (link_at links i require)

-- the links in the order of their ports' numbers
abbrev pub in_port_order : List Node → List Link → List Link
in_port_order nodes links = filter_map (λ p. link_at links p.node p.require) (ports nodes)

-- the numbers of the ports that are linked to a provision
abbrev pub incoming_ports : Graph → ℕ → ℕ → List ℕ
incoming_ports g i provide = map (λ l. port_number g.nodes l.from l.require) (filter (ends_at i provide) g.links)

-- the place of the node with this path
abbrev pub index_of : List Node → List ℕ → Option ℕ
index_of nodes path = position (λ n. bytes_eq path n.path) nodes

-- paths rise strictly, byte by byte
abbrev pub PathsRise : List Node → Type 0
PathsRise nodes = AllPairs (λ m n. slice_cmp nat_cmp m.path n.path ≡ Less) nodes

-- a link leads from a requirement of a node to a provision of a node
pub record IsLinkWithin (nodes : List Node) (l : Link) : Type 0 where
  pub begins : l.require < requires_at nodes l.from
  pub ends : l.provide < provides_at nodes l.to

-- no two links begin at one port
abbrev pub OneLinkAPort : List Link → Type 0
OneLinkAPort links = AllPairs (λ k l. begins_at k.from k.require l ≡ false) links

-- the graph of these nodes and links
abbrev pub graph_of : List Node → List Link → Graph
graph_of nodes links = record { nodes = nodes; links = in_port_order nodes links }

-- what holds of each graph
pub record IsGraph (g : Graph) : Type 0 where
  pub paths_rise : PathsRise g.nodes
  pub within : All (IsLinkWithin g.nodes) g.links
  pub in_order : in_port_order g.nodes g.links ≡ g.links
  pub few_nodes : length g.nodes < 2 ^ 32
  pub few_ports : length (ports g.nodes) < 2 ^ 32
