use Rattle.std.proofs.Common.{◌≡◌, ℕ, List, Some, true, ap, ◌∙◌, rules}
use Rattle.std.specs.List.{slice_get}
use Rattle.change_script.specs.Tokens.{is_sign}
use Rattle.change_script.proofs.TokenLemmas.{no_sign_first}
use Rattle.change_script.proofs.tokens.after_sign.Goals as goal

pub returns-else-first-byte-clause-none : goal.returns-else-first-byte-clause-none
returns-else-first-byte-clause-none c = λ more e.
    let is : is_sign c.args.byte ≡ true = search rules in
    let L : List ℕ = c.without_blanks-line.result.now in
    let head : Some c.in-Some.field-0.now ≡ slice_get L 0 = c.in-Some.ensures.value in
    no_sign_first c.without_blanks-line.result.now c.args.byte more c.without_blanks-line.ensures.no_blank is (λ bytes same. let found : Some c.in-Some.field-0.now ≡ Some c.args.byte = head ∙ ap (λ (l : List ℕ). slice_get l 0) same in let is_byte : c.in-Some.field-0.now ≡ c.args.byte = cc in c.if-first-byte.false is_byte) (c.without_blanks-line.ensures.tokens ∙ e)
