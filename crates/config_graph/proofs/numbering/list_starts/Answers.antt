use Rattle.std.proofs.Common.{◌≡◌, ◌+◌, ◌∙◌, ap, map, arith, length}
use Rattle.std.specs.List.{range_with_len}
use Rattle.std.proofs.lemmas.List.Sums.{sum_by-take-le}
use Rattle.config_graph.specs.Graph.{requires_of, provides_of, first_port}
use Rattle.config_graph.specs.Numbering.{start, first_provision}
use Rattle.config_graph.proofs.NumberingLaws.{starts_more, places_more, first_provision-le, length-ports}
use Rattle.config_graph.proofs.numbering.list_starts.Goals as goal
use Rattle.config_graph.proofs.numbering.list_starts.Goals.{After-provides-provision, After-requires_-port}

next_port : (c : After-requires_-port) → c.loop-node.port + c.requires_-port.result ≡ first_port c.args.nodes.now (c.loop-node.node-index + 1)
next_port c =
    places_more requires_of _ _ _ _ _ c.loop-node-test.true c.node-item.is c.requires_-port.ensures c.loop-node.invariant.port_is

next_provision : (c : After-provides-provision) → c.loop-node.provision + c.provides-provision.result ≡ first_provision c.args.nodes.now (c.loop-node.node-index + 1)
next_provision c =
    places_more provides_of _ _ _ _ _ c.loop-node-test.true c.node-item.is c.provides-provision.ensures c.loop-node.invariant.provision_is

pub overflow_add-port : goal.overflow_add-port
overflow_add-port c =
    omega (arith, next_port c, length-ports c.args.nodes.now, sum_by-take-le requires_of c.args.nodes.now (c.loop-node.node-index + 1))

pub overflow_add-provision : goal.overflow_add-provision
overflow_add-provision c =
    omega (arith, next_provision c, first_provision-le c.args.nodes.now (c.loop-node.node-index + 1))

pub loop-node-preserved : goal.loop-node-preserved
loop-node-preserved c = record {
  so_far =
      c.in_ok-push.ensures.items ∙ starts_more _ _ _ _ c.loop-node.invariant.so_far c.loop-node.invariant.port_is c.loop-node.invariant.provision_is;
  port_is = next_port (goal.at.loop-node-preserved c).After-requires_-port;
  provision_is = next_provision c;
}

pub returns : goal.returns
returns c =
    let all : c.loop-node.node-index ≡ length c.args.nodes.now = omega arith in
    let last = starts_more _ _ _ _ c.loop-node.invariant.so_far c.loop-node.invariant.port_is c.loop-node.invariant.provision_is in
    c.in_ok-push-2.ensures.items ∙ last ∙ ap (λ n. map (start c.args.nodes.now) (range_with_len 0 (n + 1))) all
