use Rattle.std.proofs.Common.{length, ◌∙◌, Some, None, sym, ap, subst, arith}
use Rattle.std.proofs.lemmas.Option.{slice_get_within}
use Rattle.darwin_parser.specs.Tree.{port_of}
use Rattle.elaborator.specs.Expansion.{expanded_of}
use Rattle.elaborator.specs.NodeOrder.{nodes_in}
use Rattle.config_graph.specs.declared.node.Node.{Node}
use Rattle.std.proofs.lemmas.List.{length-map}
use Rattle.elaborator.specs.Links.{IsProvisionNamed}
use Rattle.elaborator.proofs.PortLemmas.{numbered_within}
use Rattle.elaborator.proofs.LinkLemmas.{decl_read, place_within, node_within, port_read, not_provided-composite, not_provided-requirement, provided_of_read}
use Rattle.base.proofs.PlaceLaws.{value_read}
use Rattle.elaborator.proofs.links.provision_at.Goals as goal

pub returns-in_err-node : goal.returns-in_err-node
returns-in_err-node c =
    let e = expanded_of c.args.expansion.now in
    let n = c.args.nodes.now in
    let ns = nodes_in e n.instances.items in
    let id = c.args.id in
    let within = place_within e ns n id c.requires.port.0 c.requires.nodes c.requires.port.1 in
    rw c.from_residual.ensures (not_provided-composite e ns n id c.requires.nodes (value_read n.places.items id.instance c.index.result.now within c.index.ensures ∙ ap Some c.in_err-node.was))

pub instance-requires-clause-within : goal.instance-requires-clause-within
instance-requires-clause-within c =
    numbered_within (expanded_of c.args.expansion.now) c.args.id.instance c.requires.port.1.instance c.requires.port.1.numbered

pub index-kind-requires : goal.index-kind-requires
index-kind-requires c =
    let e = expanded_of c.args.expansion.now in
    let n = c.args.nodes.now in
    let ns = nodes_in e n.instances.items in
    let id = c.args.id in
    let within = place_within e ns n id c.requires.port.0 c.requires.nodes c.requires.port.1 in
    let placed = value_read n.places.items id.instance c.index.result.now within c.index.ensures ∙ ap Some c.in_ok-node.was in
    omega (arith, ap length c.requires.nodes.kinds, length-map ns (λ (x : Node). x.kind), n.kinds.ok.0, node_within e ns n id.instance c.in_ok-node.node c.requires.nodes placed)

pub returns-in-Require : goal.returns-in-Require
returns-in-Require c =
    let e = expanded_of c.args.expansion.now in
    let port = c.requires.port.1 in
    let declared = decl_read c.args.expansion.now c.args.id.instance c.args.id.port c.instance.result.now port.instance c.index-port.result.now c.instance.ensures.made port.numbered (slice_get_within port.instance.component.ports c.args.id.port port.decl port.declared) c.index-port.ensures in
    not_provided-requirement e c.requires.kept.is_expanded (nodes_in e c.args.nodes.now.instances.items) c.args.id port.instance (port_of c.index-port.result.now) port.numbered declared c.in-Require.is

pub returns-in_err-provide-in-Provide : goal.returns-in_err-provide-in-Provide
returns-in_err-provide-in-Provide c =
    let e = expanded_of c.args.expansion.now in
    let n = c.args.nodes.now in
    let ns = nodes_in e n.instances.items in
    let id = c.args.id in
    let within = place_within e ns n id c.requires.port.0 c.requires.nodes c.requires.port.1 in
    let placed = value_read n.places.items id.instance c.index.result.now within c.index.ensures ∙ ap Some c.in_ok-node.was in
    let kind = c.index-kind.result.now in
    let d = c.index-port.result.now in
    let read = port_read c.args.expansion.now ns n id c.requires.port.0 c.instance.result.now d c.in_ok-node.node kind c.requires.nodes c.requires.port.1 c.instance.ensures.made c.index-port.ensures placed c.index-kind.ensures in
    rw c.from_residual-in_err-provide-in-Provide.ensures (provided_of_read e c.requires.kept.is_expanded ns n id (port_of d) c.in_ok-node.node read.0 None c.requires.nodes read.2 c.in-Provide.is (sym c.is_some.ensures ∙ c.if-is_some.false) (subst (λ k. IsProvisionNamed k (port_of d).name None) (sym read.1) (subst (λ name. IsProvisionNamed kind name None) c.as_bytes.ensures c.in_err-provide-in-Provide.ensures)))

pub returns-in_ok-provide-in-Provide : goal.returns-in_ok-provide-in-Provide
returns-in_ok-provide-in-Provide c =
    let e = expanded_of c.args.expansion.now in
    let n = c.args.nodes.now in
    let ns = nodes_in e n.instances.items in
    let id = c.args.id in
    let within = place_within e ns n id c.requires.port.0 c.requires.nodes c.requires.port.1 in
    let placed = value_read n.places.items id.instance c.index.result.now within c.index.ensures ∙ ap Some c.in_ok-node.was in
    let kind = c.index-kind.result.now in
    let d = c.index-port.result.now in
    let read = port_read c.args.expansion.now ns n id c.requires.port.0 c.instance.result.now d c.in_ok-node.node kind c.requires.nodes c.requires.port.1 c.instance.ensures.made c.index-port.ensures placed c.index-kind.ensures in
    let p = c.in_ok-provide-in-Provide.provide in
    provided_of_read e c.requires.kept.is_expanded ns n id (port_of d) c.in_ok-node.node read.0 (Some p) c.requires.nodes read.2 c.in-Provide.is (sym c.is_some.ensures ∙ c.if-is_some.false) (subst (λ k. IsProvisionNamed k (port_of d).name (Some p)) (sym read.1) (subst (λ name. IsProvisionNamed kind name (Some p)) c.as_bytes.ensures c.in_ok-provide-in-Provide.ensures))
