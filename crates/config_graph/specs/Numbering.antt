-- The numbers of ports and provisions, each counted through all nodes in order, and where those of each node start.
use Rattle.std.specs.Prelude.{◌≡◌, ℕ, ◌+◌, ◌<◌, ◌^◌, List, map, flat_map, length, take, sum_by}
use Rattle.std.specs.List.{enumerate_from, range_with_len}
use Rattle.config_graph.specs.Graph.{provides_of, ports, first_port}
use Rattle.config_graph.specs.declared.node.Node.{Node}
use Rattle.config_graph.specs.declared.node.Port.{Port}
use Rattle.config_graph.specs.declared.node.Target.{Target}
use Rattle.config_graph.specs.declared.numbering.Start.{Start}

-- the provisions of a node i that provides so many services, and those of all nodes
abbrev pub provisions_of : ℕ → ℕ → List Target
provisions_of i provides = map (λ x. record { node = i; provide = x }) (range_with_len 0 provides)

abbrev pub provisions : List Node → List Target
provisions nodes = flat_map (λ p. provisions_of p.0 (provides_of p.1)) (enumerate_from 0 nodes)

-- the number of a node's first provision, and that of a provision
abbrev pub first_provision : List Node → ℕ → ℕ
first_provision nodes i = sum_by provides_of (take i nodes)

abbrev pub provision_number : List Node → ℕ → ℕ → ℕ
provision_number nodes i provide = first_provision nodes i + provide

-- where the ports and the provisions of node i start; past the last node, the totals
abbrev pub start : List Node → ℕ → Start
start nodes i = record { port = first_port nodes i; provision = first_provision nodes i }

abbrev pub starts : List Node → List Start
starts nodes = map (start nodes) (range_with_len 0 (length nodes + 1))

pub record IsNumbered (nodes : List Node) (starts_ : List Start) (ports_ : List Port) : Type 0 where
  pub starts_are : starts_ ≡ starts nodes
  pub ports_are : ports_ ≡ ports nodes
  pub few_nodes : length nodes < 2 ^ 32
  pub few_ports : length (ports nodes) < 2 ^ 32
