use Rattle.std.proofs.Common.{◌≡◌, ◌∙◌, map, length, None, ap, rules}
use Rattle.std.specs.List.{enumerate_from}
use Rattle.config_graph.specs.Graph.{ports}
use Rattle.quiesce_core.specs.State.{fresh_exchange}
use Rattle.quiesce_core.specs.Start.{gate_of, no_exchange, no_service, slot_of}
use Rattle.quiesce_core.proofs.tables.Tables.of.Goals as goal
use Rattle.base.proofs.MapLaws.{map_constant}

pub returns : goal.returns
returns c =
    let graph = c.args.graph.now in
    let slots : c.in_ok-slots.slots.items ≡ map (slot_of graph.nodes) (enumerate_from 0 graph.nodes) =
    c.in_ok-slots.ensures ∙ ap (λ nodes. map (slot_of nodes) (enumerate_from 0 nodes)) c.nodes.ensures.nodes in
    let services : c.in_ok-services.services.items ≡ map no_service graph.nodes =
    c.in_ok-services.ensures.items_if_clones_equal (λ y e. search rules) ∙ map_constant graph.nodes _ None (ap length c.nodes-2.ensures.nodes) in
    let gates : c.in_ok-gates.gates.items ≡ map (gate_of graph) (ports graph.nodes) = c.in_ok-gates.ensures in
    let exchanges : c.in_ok-exchanges.exchanges.items ≡ map no_exchange (ports graph.nodes) =
    c.in_ok-exchanges.ensures.items_if_clones_equal (λ y e. e) ∙ map_constant (ports graph.nodes) c.port_count.result fresh_exchange c.port_count.ensures in
    λ i. record {
      config = record { slots = slots i; gates = gates i };
      traffic = record { services = services i; exchanges = exchanges i };
    }
