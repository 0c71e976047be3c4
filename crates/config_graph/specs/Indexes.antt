-- The indexes that a graph keeps to answer look-ups, each a function of its nodes and links.
use Rattle.std.specs.Prelude.{◌≡◌, ℕ, List, map, filter_map, zip, Option, None, option_map}
use Rattle.config_graph.specs.Graph.{Graph, IsGraph, ports, target_of, incoming_ports}
use Rattle.config_graph.specs.Numbering.{provisions}
use Rattle.config_graph.specs.declared.node.Node.{Node}
use Rattle.config_graph.specs.declared.node.Link.{Link}
use Rattle.config_graph.specs.declared.node.Port.{Port}
use Rattle.config_graph.specs.declared.node.Target.{Target}
use Rattle.config_graph.specs.declared.graph.Graph.TheInside.{Inside}

-- a port that is not linked
abbrev pub no_target : Port → Option Target
no_target p = None

-- what each port is linked to
abbrev pub targets : List Node → List Link → List (Option Target)
targets nodes links = map (λ p. target_of links p.node p.require) (ports nodes)

-- the links that the targets of these ports make
abbrev pub link_to : Port × Option Target → Option Link
link_to p =
    option_map (λ (t : Target). record { from = p.0.node; require = p.0.require; to = t.node; provide = t.provide }) p.1

abbrev pub links_in : List Port → List (Option Target) → List Link
links_in ports_ targets_ = filter_map link_to (zip ports_ targets_)

-- the numbers of the ports that are linked to each provision
abbrev pub incoming : Graph → List (List ℕ)
incoming g = map (λ t. incoming_ports g t.node t.provide) (provisions g.nodes)

abbrev pub graph_in : Inside → Graph
graph_in a = record { nodes = a.nodes; links = a.links.items }

pub record IsIndexed (a : Inside) : Type 0 where
  pub graph : IsGraph (graph_in a)
  pub targets_are : a.targets.items ≡ targets a.nodes a.links.items
  pub incoming_are : map (λ v. v.items) a.incoming.items ≡ incoming (graph_in a)
