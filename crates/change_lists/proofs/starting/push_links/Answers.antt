use Rattle.std.proofs.Common.{◌++◌, filter_map, Some, ap, ◌∙◌, arith}
use Rattle.std.specs.List.{enumerate_from}
use Rattle.std.proofs.lemmas.List.{take_all}
use Rattle.std.proofs.lemmas.List.FromFn.{length-enumerate_from}
use Rattle.config_graph.specs.Graph.{ports}
use Rattle.quiesce_laws.specs.Starts.{link_of}
use Rattle.change_lists.proofs.ListingLaws.{picked_on}
use Rattle.base.proofs.PlaceLaws.{get_numbered}
use Rattle.change_lists.proofs.starting.push_links.Goals as goal

pub loop-port-preserved : goal.loop-port-preserved
loop-port-preserved c =
    let made = ports c.args.graph.now.nodes in
    let i = c.loop-port.port in
    picked_on (link_of c.args.graph.now) (enumerate_from 0 made) i (i, c.port.result) c.args.events.now.items c.loop-port.events.items c.push_link.new.events.items
    (get_numbered 0 made i c.port.result c.port.ensures.port ∙ ap (λ k. Some (k, c.port.result)) (omega arith)) c.loop-port.invariant c.in_ok-push_link.ensures

pub returns : goal.returns
returns c =
    let made = ports c.args.graph.now.nodes in
    c.loop-port.invariant ∙ ap (λ xs. c.args.events.now.items ++ filter_map (link_of c.args.graph.now) xs)
    (take_all c.loop-port.port (enumerate_from 0 made) (omega (arith, length-enumerate_from 0 made, c.loop-port-test, c.loop-port.auto, c.port_count-port-end.ensures)))
