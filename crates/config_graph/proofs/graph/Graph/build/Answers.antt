use Rattle.std.proofs.Common.{◌≡◌, ◌<◌, ◌^◌, ◌∙◌, ap, sym, subst, length, All}
use Rattle.config_graph.specs.Graph.{IsGraph, IsLinkWithin, PathsRise, graph_of, in_port_order, ports}
use Rattle.config_graph.specs.Indexes.{incoming, links_in, targets}
use Rattle.config_graph.proofs.IncomingLaws.{Contains-in_order}
use Rattle.config_graph.proofs.OrderLaws.{All-ordered, IsGraph-graph_of, links_in-targets, targets-ordered}
use Rattle.config_graph.proofs.graph.Graph.build.Goals as goal
use Rattle.config_graph.proofs.graph.Graph.build.Goals.{After-deref-3}

targets_are : (c : After-deref-3) → c.in_ok-targets.targets.items ≡ targets c.in_ok-nodes.nodes c.args.links.items
targets_are c = c.in_ok-targets.ensures ∙ ap (targets c.in_ok-nodes.nodes) c.deref.ensures.value

links_are : (c : After-deref-3) → c.in_ok-links.links.items ≡ in_port_order c.in_ok-nodes.nodes c.args.links.items
links_are c =
    c.in_ok-links.ensures ∙ (λ i. links_in (c.ports.ensures.ports i) ((c.deref-2.ensures.value ∙ targets_are c) i)) ∙ links_in-targets c.in_ok-nodes.nodes c.args.links.items

within : (c : After-deref-3) → All (IsLinkWithin c.in_ok-nodes.nodes) c.args.links.items
within c = rw c.in_ok-nodes.ensures c.requires.within

pub list_incoming-requires : goal.list_incoming-requires
list_incoming-requires c =
    let nodes = c.in_ok-nodes.nodes in
    subst (All (IsLinkWithin nodes)) (sym (c.deref-3.ensures.value ∙ links_are c)) (All-ordered c.args.links.items (IsLinkWithin nodes) (within c) (ports nodes))

pub invariant_of-result : goal.invariant_of-result
invariant_of-result c =
    let d = (goal.at.invariant_of-result c).After-deref-3 in
    let nodes = c.in_ok-nodes.nodes in
    let given = c.args.links.items in
    let same = sym (c.in_ok-nodes.ensures) in
    record {
      graph =
          let rise = subst PathsRise same c.requires.paths_rise in
          let few_nodes = subst (λ ns. length ns < 2 ^ 32) same c.requires.few_nodes in
          let few_ports = subst (λ ns. length (ports ns) < 2 ^ 32) same c.requires.few_ports in
          subst (λ ls. IsGraph (record { nodes = nodes; links = ls })) (sym (links_are d)) (IsGraph-graph_of nodes given rise (within d) few_nodes few_ports);
      targets_are = targets_are d ∙ sym (targets-ordered nodes given) ∙ ap (targets nodes) (sym (links_are d));
      incoming_are =
          c.in_ok-incoming.ensures ∙ ap (λ ls. incoming (record { nodes = nodes; links = ls })) c.deref-3.ensures.value;
    }

pub returns-clause-graph : goal.returns-clause-graph
returns-clause-graph c =
    let d = (goal.at.returns-clause-graph c).After-deref-3 in
    let nodes = c.in_ok-nodes.nodes in
    let ordered : record { nodes = nodes; links = c.in_ok-links.links.items } ≡ graph_of nodes c.args.links.items = λ i. record { nodes = nodes; links = links_are d i } in
    ordered ∙ ap (λ ns. graph_of ns c.args.links.items) c.in_ok-nodes.ensures

pub returns-clause-same_links : goal.returns-clause-same_links
returns-clause-same_links c =
    λ l. rw (links_are (goal.at.returns-clause-same_links c).After-deref-3) (Contains-in_order c.in_ok-nodes.nodes c.args.links.items (within (goal.at.returns-clause-same_links c).After-deref-3) c.requires.one_link_a_port l)
