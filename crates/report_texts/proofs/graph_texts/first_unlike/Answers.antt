use Rattle.std.proofs.Common.{◌∙◌, ◌∷◌, ap, arith, length, length-append}
use Rattle.report_texts.specs.TextLines.{lines}
use Rattle.report_texts.proofs.GraphFaultLemmas.{unlike_on}
use Rattle.report_texts.proofs.graph_texts.first_unlike.Goals as goal

pub lines-preserved : goal.lines-preserved
lines-preserved c = record {
  same = unlike_on c.lines.number c.in-Some.line.now (lines c.in-Some.behind.now) (lines c.in-Some-after_line.after.now) (lines c.lines.left.now) (lines c.lines.right.now) c.in-Some.ensures.line c.in-Some-after_line.ensures
      ∙ c.lines.invariant.same;
  room = omega (arith, ap length c.in-Some.ensures.parts, length-append c.in-Some.line.now (10 ∷ c.in-Some.behind.now), c.lines.invariant.room);
}
