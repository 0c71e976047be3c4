use Rattle.std.proofs.Common.{◌∙◌, sym, arith, rules}
use Rattle.change_script.specs.Lines.{lines}
use Rattle.change_script.proofs.LineLemmas.{statement_first}
use Rattle.change_script.proofs.lines.next_statement.Goals as goal

pub returns-then-is_statement : goal.returns-then-is_statement
returns-then-is_statement c =
    let kept = c.loop-rest.invariant in
    let cut = c.cut_line.ensures.cut c.loop-rest.number in
    let first = statement_first c.loop-rest.number c.cut_line.result.0.now c.trimmed-bytes.result.now (lines c.cut_line.result.1.now) c.trimmed-bytes.ensures (search rules) in
    (sym kept.same ∙ cut ∙ first, kept.onward, omega arith)
