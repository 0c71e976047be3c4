use Rattle.std.proofs.Common.{◌≡◌, ◌<◌, ◌^◌, length, subst, sym}
use Rattle.config_graph.specs.Graph.{ports, graph_of}
use Rattle.elaborator.specs.Expansion.{expanded_of}
use Rattle.elaborator.specs.NodeOrder.{nodes_in}
use Rattle.elaborator.proofs.BuildLemmas.{few_ports, elab_of}
use Rattle.elaborator.proofs.building.join.Goals as goal

pub build-requires-clause-few_ports : goal.build-requires-clause-few_ports
build-requires-clause-few_ports c =
    subst (λ ns. length (ports ns) < 2 ^ 32) (sym c.in_ok-taken.ensures) (few_ports _ c.in_ok-nodes.ensures.few)

pub returns : goal.returns
returns c = λ top is_of.
    let e = expanded_of c.args.expansion.now in
    let ns = nodes_in e c.in_ok-nodes.nodes.instances.items in
    elab_of e top is_of ns c.in_ok-nodes.nodes c.in_ok-links.links.items c.in_ok-graph.graph c.in_ok-nodes.ensures (c.in_ok-links.ensures top is_of) (subst (λ ns. c.in_ok-graph.graph ≡ graph_of ns c.in_ok-links.links.items) c.in_ok-taken.ensures c.in_ok-graph.ensures.graph) c.in_ok-graph.ensures.same_links
