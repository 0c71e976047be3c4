use Rattle.std.proofs.Common.{◌≡◌, ◌==◌, false, length, rules}
use Rattle.report_texts.proofs.GraphFaultLemmas.{open_is}
use Rattle.report_texts.proofs.graph_texts.open_end.Goals as goal

pub returns-else-is_empty : goal.returns-else-is_empty
returns-else-is_empty c =
    let some : (length c.lines.left.now == 0) ≡ false = search rules in
    open_is c.args.text.now c.lines.left.now c.lines.number c.in_default.ensures.line c.lines.invariant.same c.lines.invariant.counted some
