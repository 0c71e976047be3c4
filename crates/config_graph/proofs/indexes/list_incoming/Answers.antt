use Rattle.std.proofs.Common.{◌∙◌, []}
use Rattle.config_graph.specs.Numbering.{provisions}
use Rattle.config_graph.proofs.LinkLaws.{lists_more}
use Rattle.config_graph.proofs.indexes.list_incoming.Goals as goal
use Rattle.base.proofs.MapLaws.{map_constant}

pub loop-link-init : goal.loop-link-init
loop-link-init c =
    c.in_ok-incoming.ensures ∙ map_constant (provisions c.args.nodes.now) c.provision_count.result [] c.provision_count.ensures

pub loop-link-preserved : goal.loop-link-preserved
loop-link-preserved c =
    lists_more c.args.nodes.now c.args.links.now c.loop-link.link-index _ c.loop-link-test.true c.requires (λ v. v.items) c.loop-link.incoming.items c.provision_number-provision.result c.port_number-port.result c.index_mut.result.now c.push.new.self c.loop-link.invariant c.provision_number-provision.ensures.number c.port_number-port.ensures.number c.index_mut.ensures.value c.in_ok-push.ensures.items
