use Rattle.std.proofs.Common.{arith}
use Rattle.config_graph.specs.Graph.{ports}
use Rattle.report_texts.proofs.DrawingLemmas.{links_end, links_on}
use Rattle.report_texts.proofs.graphs.read_links.Goals as goal

pub lines-preserved-in_ok-push_link : goal.lines-preserved-in_ok-push_link
lines-preserved-in_ok-push_link c = record {
  same = links_on c.args.graph.now.nodes (ports c.args.graph.now.nodes) c.lines.number c.port.result c.target_named.result c.lines.links.items c.push_link.new.links.items
      c.lines.left.now c.in-Some.line.now c.in-Some.behind.now c.in-Some-target_word.word.now _ c.port.ensures.port c.in-Some.ensures.line c.in-Some-target_word.ensures c.target_named.ensures
      c.in_ok-push_link.ensures c.lines.invariant.same;
  within = omega arith;
}

pub returns : goal.returns
returns c = record { links = links_end c.args.graph.now.nodes _ c.lines.links.items c.lines.left.now _ c.in_default.ensures.line c.lines.invariant.same }
