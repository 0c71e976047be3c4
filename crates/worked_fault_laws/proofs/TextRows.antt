-- The rows of texts and of tokens.
use Rattle.std.proofs.Common.{[], ◌++◌, codes, replicate, refl}
use Rattle.darwin_lexer.specs.declared.front.LexicalFault.{LexicalFault}
use Rattle.darwin_lexer.specs.declared.front.LexicalFault.TheVariants.{BadByte, OpenComment, LongName, BigNumber}
use Rattle.darwin_lexer.specs.declared.token.At.{At}
use Rattle.darwin_lexer.specs.declared.token.TokenKind.TheVariants.{Name}
use Rattle.darwin_lexer.specs.Tokens.{FirstFault, ended, gap, token}
use Rattle.darwin_parser.specs.Reading as reading
use Rattle.darwin_parser.specs.Refusals.{IsUnexpected, IsTooNested}
use Rattle.darwin_parser.proofs.UnitLaws.{too_nested_read, unexpected_read}
use Rattle.worked_fault_laws.specs.Texts.{parentheses, ranges, signs, text_of, too_nested, unexpected, unfinished, without_braces}
use Rattle.darwin_parser.specs.Trees.{at}

pub faults : (fault : LexicalFault) → (at : At) × FirstFault (text_of fault) fault at
faults BadByte = (_, (0, [], ended 0, refl, refl))
faults OpenComment = (_, (0, [], ended 0, refl, refl))
faults LongName = (_, (0, [], ended 0, refl, refl))
faults BigNumber = (_, (0, [], ended 0, refl, refl))

pub own_star : FirstFault (codes "/*/") OpenComment (at 1 1)
own_star = (0, [], ended 0, refl, refl)

pub name_of_digits : FirstFault (codes "_" ++ replicate 64 48) LongName (at 1 1)
name_of_digits = (0, [], ended 0, refl, refl)

pub half_sign : FirstFault (codes "!") BadByte (at 1 1)
half_sign = (0, [], ended 0, refl, refl)

pub behind_token : FirstFault (codes "a ?") BadByte (at 1 3)
behind_token = (2, _, token 0 1 2 Name [] refl (gap 1 1 2 [] refl (ended 2)), refl, refl)

pub behind_comment : FirstFault (codes "//\n?") BadByte (at 2 1)
behind_comment = (3, [], gap 0 2 3 [] refl (gap 2 1 3 [] refl (ended 3)), refl, refl)

pub not_expected : IsUnexpected [] unexpected 0
unfolding reading.unit reading.turns reading.sees
not_expected = unexpected_read [] unexpected 1 refl

pub not_ended : IsUnexpected [] unfinished 1
unfolding reading.unit reading.turns reading.sees reading.component reading.expect reading.name
not_ended = unexpected_read [] unfinished 0 refl

pub nested : IsTooNested [] too_nested 51
unfolding reading.unit reading.turns reading.sees reading.component reading.expect reading.after reading.name reading.params reading.item reading.statement reading.block reading.block_over reading.when_over reading.expr reading.expr_over reading.operand_over reading.chain reading.comparison reading.operator reading.operator_at reading.factor reading.simple reading.nested reading.number reading.sees_number reading.body_over reading.turns_up_to
nested = too_nested_read [] too_nested 3 refl

pub nested_bodies : IsTooNested [] without_braces 35
unfolding reading.unit reading.turns reading.sees reading.component reading.expect reading.after reading.name reading.params reading.item reading.statement reading.block reading.block_over reading.when_over reading.expr reading.expr_over reading.operand_over reading.chain reading.comparison reading.operator reading.operator_at reading.factor reading.simple reading.nested reading.number reading.sees_number reading.body_over reading.turns_up_to
nested_bodies = too_nested_read [] without_braces 2 refl

pub nested_ranges : IsTooNested [] ranges 115
unfolding reading.unit reading.turns reading.sees reading.component reading.expect reading.after reading.name reading.params reading.item reading.statement reading.block reading.block_over reading.when_over reading.expr reading.expr_over reading.operand_over reading.chain reading.comparison reading.operator reading.operator_at reading.factor reading.simple reading.nested reading.number reading.sees_number reading.body_over reading.turns_up_to reading.forall_over
nested_ranges = too_nested_read [] ranges 7 refl

pub nested_parentheses : IsTooNested [] parentheses 36
unfolding reading.unit reading.turns reading.sees reading.component reading.expect reading.after reading.name reading.params reading.item reading.statement reading.block reading.block_over reading.when_over reading.expr reading.expr_over reading.operand_over reading.chain reading.comparison reading.operator reading.operator_at reading.factor reading.simple reading.nested reading.number reading.sees_number reading.body_over reading.turns_up_to reading.nested_over
nested_parentheses = too_nested_read [] parentheses 1 refl

pub nested_signs : IsTooNested [] signs 36
unfolding reading.unit reading.turns reading.sees reading.component reading.expect reading.after reading.name reading.params reading.item reading.statement reading.block reading.block_over reading.when_over reading.expr reading.expr_over reading.operand_over reading.chain reading.comparison reading.operator reading.operator_at reading.factor reading.simple reading.nested reading.number reading.sees_number reading.body_over reading.turns_up_to reading.nested_over
nested_signs = too_nested_read [] signs 1 refl
