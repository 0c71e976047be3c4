use Rattle.std.proofs.Common.{◌≡◌, true, rules}
use Rattle.report_lines.specs.GraphLines.{is_graph_line}
use Rattle.report_lines.specs.Parts.{words}
use Rattle.report_texts.proofs.GraphLemmas.{split_goes_on}
use Rattle.report_texts.proofs.graphs.split_graph.Goals as goal

pub lines-preserved : goal.lines-preserved
lines-preserved c =
    let graph : is_graph_line (words c.in-Some.line.now) ≡ true = search rules in
    split_goes_on c.args.text.now c.lines.left.now c.in-Some.line.now c.in-Some.behind.now c.lines.invariant c.in-Some.ensures.line c.in-Some.ensures.parts graph
