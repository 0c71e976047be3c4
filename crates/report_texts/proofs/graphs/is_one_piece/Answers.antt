use Rattle.std.proofs.Common.{◌≡◌, ◌==◌, false, length, rules}
use Rattle.report_texts.proofs.DrawingLemmas.{word_by}
use Rattle.report_texts.proofs.graphs.is_one_piece.Goals as goal

pub returns-then-not-is_empty : goal.returns-then-not-is_empty
returns-then-not-is_empty c =
    let some : (length c.args.text.now == 0) ≡ false = search rules in
    let e = word_by c.args.text.now some in
    search (rules, e)
