use Rattle.std.proofs.Common.{◌<◌, ◌∙◌, arith, length, refl}
use Rattle.std.proofs.Math.ListN.{length-set}
use Rattle.config_graph.specs.Graph.{requires_of}
use Rattle.config_graph.proofs.NumberingLaws.{within_list}
use Rattle.passive_set.proofs.FeedingLemmas.{owners_more}
use Rattle.passive_set.proofs.passive.with_owners.Goals as goal

pub loop-port-preserved : goal.loop-port-preserved
loop-port-preserved c =
    let g = c.args.graph.now in
    let port = c.port.result in
    let marks = c.loop-port.marks.items in
    let low : port.node < length marks = omega (arith, within_list requires_of g.nodes port.node port.require c.port.ensures.within, c.loop-port.invariant.length_is) in
    record {
      length_is = length-set marks port.node _ ∙ c.loop-port.invariant.length_is;
      marked = owners_more g c.args.marks.items marks c.ports-port-items.result.now c.loop-port.port-index _ 0 port c.loop-port-test.true refl c.port.ensures.port low c.loop-port.invariant.marked;
    }
