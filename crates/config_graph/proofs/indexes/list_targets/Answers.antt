use Rattle.std.proofs.Common.{◌∙◌, ap, map}
use Rattle.config_graph.specs.Indexes.{no_target}
use Rattle.config_graph.proofs.LinkLaws.{targets_more}
use Rattle.config_graph.proofs.indexes.list_targets.Goals as goal

pub loop-link-init : goal.loop-link-init
loop-link-init c = c.in_ok-targets.ensures ∙ ap (map no_target) c.ports.ensures.ports

pub loop-link-preserved : goal.loop-link-preserved
loop-link-preserved c =
    targets_more c.args.nodes.now c.args.links.now c.loop-link.link-index _ c.loop-link-test.true c.requires.within c.loop-link.targets.items c.port_number-port.result c.loop-link.invariant c.requires.one_link_a_port c.port_number-port.ensures.number
