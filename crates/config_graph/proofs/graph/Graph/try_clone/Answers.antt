use Rattle.std.proofs.Common.{◌∙◌, subst, sym}
use Rattle.config_graph.specs.Graph.{OneLinkAPort}
use Rattle.config_graph.proofs.OrderLaws.{one_link-in_order}
use Rattle.config_graph.proofs.graph.Graph.try_clone.Goals as goal

pub build-requires-clause-one_link_a_port : goal.build-requires-clause-one_link_a_port
build-requires-clause-one_link_a_port c =
    subst OneLinkAPort (sym (c.in_ok-links.ensures.items ∙ c.links.ensures)) (one_link-in_order c.args.self.now c.nodes.ensures.graph)
