use Rattle.std.proofs.Common.{sym, ◌∙◌, arith}
use Rattle.change_script.proofs.TokenLemmas.{word_at, no_word_first}
use Rattle.change_script.proofs.tokens.first_word.Goals as goal

pub returns-then-len-eq0-clause-none : goal.returns-then-len-eq0-clause-none
returns-then-len-eq0-clause-none c = λ bytes more e. no_word_first c.without_blanks-line.result.now bytes more c.without_blanks-line.ensures.no_blank (omega (arith, c.word_len-len.ensures.len)) (c.without_blanks-line.ensures.tokens ∙ e)

pub returns-clause-found : goal.returns-clause-found
returns-clause-found c = sym c.without_blanks-line.ensures.tokens ∙ word_at _ _ c.word_len-len.ensures.len c.word_len-len.ensures.within (λ e. omega arith)
