use Rattle.std.proofs.Common.{arith}
use Rattle.change_script.proofs.TokenLemmas.{blanks_skipped, no_blank_left}
use Rattle.change_script.proofs.tokens.without_blanks.Goals as goal
use Rattle.base.proofs.PlaceLaws.{rest_is}

pub returns-clause-tokens : goal.returns-clause-tokens
returns-clause-tokens c =
    let skipped = blanks_skipped c.args.line.now in
    let rest = rest_is c.args.line.now c.blanks_len.result (omega arith) in
    let len = c.blanks_len.ensures.len in
    rw (rest, len) skipped

pub returns-clause-no_blank : goal.returns-clause-no_blank
returns-clause-no_blank c =
    let left = no_blank_left c.args.line.now in
    let rest = rest_is c.args.line.now c.blanks_len.result (omega arith) in
    let len = c.blanks_len.ensures.len in
    rw (rest, len) left
