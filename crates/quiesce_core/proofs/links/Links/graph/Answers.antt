use Rattle.quiesce_core.specs.Links.{config_in}
use Rattle.quiesce_core.proofs.LiveLemmas.{AreParts, parts, parts_rise, parts_within, parts_apart, parts_few, parts_are, parts_sound, parts_small, parts_few_ports}
use Rattle.quiesce_core.proofs.links.Links.graph.Goals as goal
use Rattle.quiesce_core.proofs.links.Links.graph.Goals.{After-allocator}

built : (c : After-allocator) → AreParts (config_in c.args.self.now) c.in_ok-nodes.nodes.items c.in_ok-links.links.items
built c =
    parts (config_in c.args.self.now) c.in_ok-order.order.items c.deref.result.now c.deref-2.result.now c.in_ok-places.places.items c.deref-3.result.now c.in_ok-nodes.nodes.items c.in_ok-links.links.items
    c.in_ok-order.ensures c.deref.ensures.value c.in_ok-places.ensures c.deref-2.ensures.value c.in_ok-nodes.ensures c.deref-3.ensures.value c.in_ok-links.ensures

pub build-requires-clause-paths_rise : goal.build-requires-clause-paths_rise
build-requires-clause-paths_rise c = parts_rise (config_in c.args.self.now) c.requires.sound c.requires.named _ _ (built (goal.at.build-requires-clause-paths_rise c).After-allocator)

pub build-requires-clause-within : goal.build-requires-clause-within
build-requires-clause-within c = parts_within (config_in c.args.self.now) c.requires.sound c.requires.named _ _ (built (goal.at.build-requires-clause-within c).After-allocator)

pub build-requires-clause-one_link_a_port : goal.build-requires-clause-one_link_a_port
build-requires-clause-one_link_a_port c = parts_apart (config_in c.args.self.now) c.requires.sound c.requires.named _ _ (built (goal.at.build-requires-clause-one_link_a_port c).After-allocator)

pub build-requires-clause-few_ports : goal.build-requires-clause-few_ports
build-requires-clause-few_ports c = parts_few (config_in c.args.self.now) c.requires.sound c.requires.named _ _ (built (goal.at.build-requires-clause-few_ports c).After-allocator)

pub returns-clause-graph : goal.returns-clause-graph
returns-clause-graph c = parts_are (config_in c.args.self.now) c.requires.sound c.requires.named _ _ (built (goal.at.returns-clause-graph c).After-allocator) c.build.result c.build.ensures.graph

pub returns-clause-sound : goal.returns-clause-sound
returns-clause-sound c = parts_sound (config_in c.args.self.now) c.requires.sound c.requires.named _ _ (built (goal.at.returns-clause-sound c).After-allocator) c.build.result c.build.ensures.graph

pub returns-clause-few_nodes : goal.returns-clause-few_nodes
returns-clause-few_nodes c = parts_small (config_in c.args.self.now) c.requires.sound c.requires.named _ _ (built (goal.at.returns-clause-few_nodes c).After-allocator) c.build.result c.build.ensures.graph

pub returns-clause-few_ports : goal.returns-clause-few_ports
returns-clause-few_ports c = parts_few_ports (config_in c.args.self.now) c.requires.sound c.requires.named _ _ (built (goal.at.returns-clause-few_ports c).After-allocator) c.build.result c.build.ensures.graph
