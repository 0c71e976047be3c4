use Rattle.std.proofs.Common.{◌<◌, ◌≤◌, ◌∙◌, ap, get_or, length, List}
use Rattle.config_graph.specs.declared.node.Node.{Node}
use Rattle.config_graph.proofs.TextLemmas.{all_lines, node_lines_more}
use Rattle.config_graph.proofs.writing.graph_text.Goals as goal

pub loop-index-preserved : goal.loop-index-preserved
loop-index-preserved c =
    let nodes = c.args.graph.now.nodes in
    let i = c.loop-index.index in
    let low : i < length nodes = rw c.nodes-node-items.ensures.nodes at c.loop-index-test.true in
    let node_is = c.node-item.is ∙ ap (λ (ns : List Node). get_or ns i c.node-item.result) c.nodes-node-items.ensures.nodes in
    node_lines_more c.args.graph.now i c.node-item.result _ _ _ low node_is c.loop-index.invariant c.in_ok-write_node.ensures c.in_ok-write_ports.ensures

pub returns : goal.returns
returns c =
    let nodes = c.args.graph.now.nodes in
    let all : length nodes ≤ c.loop-index.index = rw c.nodes-node-items.ensures.nodes at c.loop-index-test.false in
    c.loop-index.invariant ∙ all_lines c.args.graph.now c.loop-index.index all
