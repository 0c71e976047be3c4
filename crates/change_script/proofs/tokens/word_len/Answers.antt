use Rattle.std.proofs.Common.{◌≡◌, drop, true, sym, ap, ◌∙◌, arith}
use Rattle.change_script.specs.Tokens.{begins_word}
use Rattle.change_script.proofs.TokenLemmas.{word_goes_on, within_word}
use Rattle.change_script.proofs.tokens.word_len.Goals as goal
use Rattle.base.proofs.PlaceLaws.{rest_is}

pub loop-len-preserved : goal.loop-len-preserved
loop-len-preserved c =
    let rest = rest_is c.args.line.now c.loop-len.len c.loop-len.invariant.within in
    let begins : begins_word (drop c.loop-len.len c.args.line.now) ≡ true = ap begins_word (sym rest) ∙ sym c.begins_word.ensures ∙ c.loop-len-test.true in
    let more = word_goes_on c.args.line.now c.loop-len.len begins in
    let inside = within_word c.args.line.now c.loop-len.len begins in
    record { same = omega (arith, more, c.loop-len.invariant.same); within = omega (arith, inside) }
