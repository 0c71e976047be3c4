use Rattle.std.proofs.Common.{◌≡◌, subst, sym, length, rules}
use Rattle.darwin_lexer.specs.Fronts as fronts
use Rattle.darwin_lexer.proofs.FrontLemmas.{front_of_within}
use Rattle.darwin_lexer.proofs.front.front_of.Goals as goal

pub returns-then-starts_with : goal.returns-then-starts_with
returns-then-starts_with c =
    let front : c.line_comment.result ≡ fronts.front_of c.args.text.now = search rules in
    record { front = front; within = subst (fronts.IsFrontWithin (length c.args.text.now)) (sym front) (front_of_within c.args.text.now) }

pub returns-then-starts_with-2 : goal.returns-then-starts_with-2
returns-then-starts_with-2 c =
    let front : c.block_comment.result ≡ fronts.front_of c.args.text.now = search rules in
    record { front = front; within = subst (fronts.IsFrontWithin (length c.args.text.now)) (sym front) (front_of_within c.args.text.now) }

pub returns-else-is_ascii_digit : goal.returns-else-is_ascii_digit
returns-else-is_ascii_digit c =
    let front : c.sign.result ≡ fronts.front_of c.args.text.now = search rules in
    record { front = front; within = subst (fronts.IsFrontWithin (length c.args.text.now)) (sym front) (front_of_within c.args.text.now) }
