use Rattle.std.proofs.Common.{ap, arith, length}
use Rattle.report_texts.specs.TextLines.{lines}
use Rattle.report_texts.proofs.DrawingLemmas.{few_nodes, few_ports, links_apart, links_so, rise}
use Rattle.report_texts.proofs.graphs.draw.Goals as goal

pub build-requires-clause-paths_rise : goal.build-requires-clause-paths_rise
build-requires-clause-paths_rise c = rise c.args.nodes.items c.requires.rise

pub build-requires-clause-few_nodes : goal.build-requires-clause-few_nodes
build-requires-clause-few_nodes c = omega (arith, ap length c.requires.nodes, few_nodes c.args.text.now, c.requires.few)

pub build-requires-clause-few_ports : goal.build-requires-clause-few_ports
build-requires-clause-few_ports c = omega (arith, few_ports c.args.nodes.items, ap length c.requires.nodes, few_nodes c.args.text.now, c.requires.few)

pub build-requires-2-clause-within : goal.build-requires-2-clause-within
build-requires-2-clause-within c =
    links_so (lines c.args.text.now) c.args.nodes.items c.in_ok-nodes.nodes.items c.in_ok-bare.bare _ c.in_ok-links.links.items c.requires.nodes c.in_ok-bare.ensures.graph c.in_ok-nodes.ensures c.in_ok-links.ensures.links

pub build-requires-2-clause-one_link_a_port : goal.build-requires-2-clause-one_link_a_port
build-requires-2-clause-one_link_a_port c =
    links_apart (lines c.args.text.now) c.args.nodes.items c.in_ok-nodes.nodes.items c.in_ok-bare.bare _ c.in_ok-links.links.items c.requires.nodes c.in_ok-bare.ensures.graph c.in_ok-nodes.ensures c.in_ok-links.ensures.links
