use Rattle.std.proofs.Common.{rules}
use Rattle.change_script.proofs.TokenLemmas.{blank_ends, ends_blank}
use Rattle.change_script.proofs.tokens.is_end.Goals as goal

pub returns : goal.returns
returns c =
    let ends = blank_ends c.args.line.now in
    let blank = ends_blank c.args.line.now in
    search (rules, ends, blank)
