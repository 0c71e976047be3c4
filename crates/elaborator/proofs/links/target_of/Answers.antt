use Rattle.std.proofs.Common.{◌≡◌, Some, ◌∙◌, None, sym, ap, subst, get_or, arith}
use Rattle.std.specs.Str.{bytes_eq}
use Rattle.std.proofs.lemmas.List.Quantifiers.{position-Some}
use Rattle.darwin_parser.specs.Tree.{port_of}
use Rattle.elaborator.specs.Expansion.{expanded_of, instance_in}
use Rattle.elaborator.specs.Ports.{IsPort}
use Rattle.elaborator.specs.NodeOrder.{nodes_in}
use Rattle.config_graph.specs.Kinds.{row}
use Rattle.std.specs.List.{slice_get}
use Rattle.elaborator.specs.Links.{IsProvided}
use Rattle.elaborator.specs.declared.chains.PortId.{PortId}
use Rattle.elaborator.proofs.FollowLemmas.{Indexed}
use Rattle.elaborator.proofs.PortLemmas.{place_found}
use Rattle.elaborator.proofs.LinkLemmas.{decl_read}
use Rattle.elaborator.proofs.TargetLemmas.{end_port, Requirement, targeted, untargeted, node_read, start_read, no_place, no_requirement}
use Rattle.elaborator.proofs.ReadLemmas.{kind_within, instance_within, requirement_within}
use Rattle.elaborator.proofs.links.target_of.Goals as goal

pub index-requires : goal.index-requires
index-requires c =
    let e = expanded_of c.args.expansion.now in
    let n = c.args.nodes.now in
    omega (arith, n.kinds.ok.0, kind_within e (nodes_in e n.instances.items) n c.args.from c.requires.nodes c.requires.within)

pub require_name-name-requires : goal.require_name-name-requires
require_name-name-requires c =
    let e = expanded_of c.args.expansion.now in
    let n = c.args.nodes.now in
    requirement_within e (nodes_in e n.instances.items) n c.args.from c.args.require c.index.result.now c.requires.nodes c.requires.within c.index.ensures c.requires.required

pub instance-requires-clause-within : goal.instance-requires-clause-within
instance-requires-clause-within c =
    let e = expanded_of c.args.expansion.now in
    let n = c.args.nodes.now in
    instance_within e (nodes_in e n.instances.items) n c.args.from c.index-instance.result.now c.index.result.now c.requires.nodes c.requires.within c.index.ensures c.index-instance.ensures

pub returns-in_err-port : goal.returns-in_err-port
returns-in_err-port c = λ top is_of.
    let e = c.args.expansion.now in
    let n = c.args.nodes.now in
    let ns = nodes_in (expanded_of e) n.instances.items in
    let x = c.instance.result.now in
    let number = c.index-instance.result.now in
    let kind = c.index.result.now in
    let name = c.require_name-name.result.now in
    let indexed : Indexed (expanded_of e) top c.args.targets.now = record { expanded = c.requires.kept.is_expanded; is_of = is_of; index = c.requires.indexed.is_index } in
    let there = node_read e ns n c.args.from number kind x c.requires.nodes c.requires.within c.index.ensures c.index-instance.ensures c.instance.ensures.made in
    let node = there.0 in
    let read = there.2 in
    let required = subst (λ k. slice_get (row k).requires_ c.args.require ≡ Some name) (sym there.1) c.require_name-name.ensures in
    let place = place_found name c.as_bytes.result.now x.component.now.ports.items c.as_slice-ports.result.now c.port_place.result c.port_place.ensures c.as_bytes.ensures.value c.as_slice-ports.ensures.value ∙ c.in_err-port.was in
    rw c.from_residual.ensures (untargeted (expanded_of e) top c.args.targets.now indexed ns c.args.from c.args.require node name number (instance_in x) read.stands required read.numbered read.is_node (no_place (expanded_of e) (instance_in x) name place))

pub provision_at-requires-clause-port : goal.provision_at-requires-clause-port
provision_at-requires-clause-port c =
    let e = c.args.expansion.now in
    let n = c.args.nodes.now in
    let ns = nodes_in (expanded_of e) n.instances.items in
    let x = c.instance.result.now in
    let number = c.index-instance.result.now in
    let kind = c.index.result.now in
    let name = c.require_name-name.result.now in
    let port = c.in_ok-port.port in
    let d = c.index-ports-port.result in
    let there = node_read e ns n c.args.from number kind x c.requires.nodes c.requires.within c.index.ensures c.index-instance.ensures c.instance.ensures.made in
    let node = there.0 in
    let read = there.2 in
    let required = subst (λ k. slice_get (row k).requires_ c.args.require ≡ Some name) (sym there.1) c.require_name-name.ensures in
    let place = place_found name c.as_bytes.result.now x.component.now.ports.items c.as_slice-ports.result.now c.port_place.result c.port_place.ensures c.as_bytes.ensures.value c.as_slice-ports.ensures.value ∙ c.in_ok-port.was in
    let within = (position-Some (λ p. bytes_eq name p.name) (instance_in x).component.ports port (port_of d) place).0 in
    let declared = decl_read e number port x (instance_in x) d c.instance.ensures.made read.numbered within (c.index-ports-port.is ∙ ap (λ xs. get_or xs port d) c.as_slice-ports.ensures.value) in
    let start : PortId = record { instance = number; port = port; index = None } in
    let requirement : Requirement (expanded_of e) ns c.args.from c.args.require start = start_read e ns c.args.from c.args.require number port node name x d read required place declared c.in-Require.is in
    let end = end_port (expanded_of e) c.args.targets.now c.requires.indexed.is_index 68 start _ requirement.is_port in
    (end.0, subst (λ k. IsPort (expanded_of e) k end.0) (sym c.follow.ensures) end.1)

pub returns-in-Provide : goal.returns-in-Provide
returns-in-Provide c = λ top is_of.
    let e = c.args.expansion.now in
    let n = c.args.nodes.now in
    let ns = nodes_in (expanded_of e) n.instances.items in
    let x = c.instance.result.now in
    let number = c.index-instance.result.now in
    let kind = c.index.result.now in
    let name = c.require_name-name.result.now in
    let port = c.in_ok-port.port in
    let d = c.index-ports-port.result in
    let indexed : Indexed (expanded_of e) top c.args.targets.now = record { expanded = c.requires.kept.is_expanded; is_of = is_of; index = c.requires.indexed.is_index } in
    let there = node_read e ns n c.args.from number kind x c.requires.nodes c.requires.within c.index.ensures c.index-instance.ensures c.instance.ensures.made in
    let node = there.0 in
    let read = there.2 in
    let required = subst (λ k. slice_get (row k).requires_ c.args.require ≡ Some name) (sym there.1) c.require_name-name.ensures in
    let place = place_found name c.as_bytes.result.now x.component.now.ports.items c.as_slice-ports.result.now c.port_place.result c.port_place.ensures c.as_bytes.ensures.value c.as_slice-ports.ensures.value ∙ c.in_ok-port.was in
    let within = (position-Some (λ p. bytes_eq name p.name) (instance_in x).component.ports port (port_of d) place).0 in
    let declared = decl_read e number port x (instance_in x) d c.instance.ensures.made read.numbered within (c.index-ports-port.is ∙ ap (λ xs. get_or xs port d) c.as_slice-ports.ensures.value) in
    untargeted (expanded_of e) top c.args.targets.now indexed ns c.args.from c.args.require node name number (instance_in x) read.stands required read.numbered read.is_node (no_requirement (expanded_of e) (instance_in x) name port (port_of d) place declared c.in-Provide.is)

pub returns-in-Require : goal.returns-in-Require
returns-in-Require c = λ top is_of.
    let e = c.args.expansion.now in
    let n = c.args.nodes.now in
    let ns = nodes_in (expanded_of e) n.instances.items in
    let x = c.instance.result.now in
    let number = c.index-instance.result.now in
    let kind = c.index.result.now in
    let name = c.require_name-name.result.now in
    let port = c.in_ok-port.port in
    let d = c.index-ports-port.result in
    let indexed : Indexed (expanded_of e) top c.args.targets.now = record { expanded = c.requires.kept.is_expanded; is_of = is_of; index = c.requires.indexed.is_index } in
    let there = node_read e ns n c.args.from number kind x c.requires.nodes c.requires.within c.index.ensures c.index-instance.ensures c.instance.ensures.made in
    let node = there.0 in
    let read = there.2 in
    let required = subst (λ k. slice_get (row k).requires_ c.args.require ≡ Some name) (sym there.1) c.require_name-name.ensures in
    let place = place_found name c.as_bytes.result.now x.component.now.ports.items c.as_slice-ports.result.now c.port_place.result c.port_place.ensures c.as_bytes.ensures.value c.as_slice-ports.ensures.value ∙ c.in_ok-port.was in
    let within = (position-Some (λ p. bytes_eq name p.name) (instance_in x).component.ports port (port_of d) place).0 in
    let declared = decl_read e number port x (instance_in x) d c.instance.ensures.made read.numbered within (c.index-ports-port.is ∙ ap (λ xs. get_or xs port d) c.as_slice-ports.ensures.value) in
    let start : PortId = record { instance = number; port = port; index = None } in
    let requirement : Requirement (expanded_of e) ns c.args.from c.args.require start = start_read e ns c.args.from c.args.require number port node name x d read required place declared c.in-Require.is in
    targeted (expanded_of e) top c.args.targets.now indexed ns n c.requires.nodes c.args.from c.args.require start requirement c.provision_at.result (subst (λ k. IsProvided (expanded_of e) ns k c.provision_at.result) c.follow.ensures c.provision_at.ensures)
