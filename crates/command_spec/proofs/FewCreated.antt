-- How many nodes and ports a graph has, and how many are created between two graphs.
use Rattle.std.proofs.Common.{◌≡◌, ◌*◌, ◌≤◌, ℕ, ℤ, List, [], ◌∷◌, Option, Some, None, length, sum_by, slice_get, ap, sym, subst, arith}
use Rattle.std.specs.List.{filter_map}
use Rattle.std.specs.Option.{option_map_or}
use Rattle.std.proofs.lemmas.List.Sums.{sum_by-cons}
use Rattle.config_graph.specs.Graph.{Graph, requires_at, requires_of}
use Rattle.config_graph.specs.declared.node.Node.{Node}
use Rattle.config_graph.proofs.KindLaws.{two_requires}
use Rattle.darwin_parser.specs.Tree.{Name, Tree}
use Rattle.elaborator.specs.Elaboration.{ElaboratesTo}
use Rattle.elaborator.proofs.FewLaws.{nodes_listed}
use Rattle.elaborator.specs.Graph.{node_of}
use Rattle.elaborator.specs.Instances.{instances, top_instance}

-- ---- the instances that are nodes

abbrev pub nodes_below : Tree → Name → List ℤ → ℕ
nodes_below tree name args = option_map_or (λ top. length (filter_map node_of (instances tree top))) (top_instance tree name args) 0

pub few_nodes : (tree : Tree) (name : Name) (args : List ℤ) (g : Graph) → ElaboratesTo tree name args g → length g.nodes ≤ nodes_below tree name args
few_nodes tree name args g elaborates = subst (λ n. length g.nodes ≤ n) (sym counted) (nodes_listed tree name args g elaborates)
  where
    counted : nodes_below tree name args ≡ length (filter_map node_of (instances tree elaborates.top))
    counted = ap (λ o. option_map_or (λ top. length (filter_map node_of (instances tree top))) o 0) elaborates.is_top

-- ---- what is selected

two_of : (o : Option Node) → option_map_or requires_of o 0 ≤ 2
two_of None = omega arith
two_of (Some n) = two_requires n.kind

pub few_ports : (nodes : List Node) (places : List ℕ) → sum_by (requires_at nodes) places ≤ 2 * length places
few_ports nodes [] = omega arith
few_ports nodes (i ∷ places) =
    let fewer = few_ports nodes places in
    omega (arith, sum_by-cons (requires_at nodes) i places, two_of (slice_get nodes i), fewer)
