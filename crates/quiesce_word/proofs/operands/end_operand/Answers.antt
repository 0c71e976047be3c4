use Rattle.std.proofs.Common.{ap, ◌∙◌}
use Rattle.std.specs.Prelude.{bit_xor}
use Rattle.quiesce_word.specs.Words.{pack}
use Rattle.quiesce_word.proofs.OperandLaws.{end_turns}
use Rattle.quiesce_word.proofs.operands.end_operand.Goals as goal

pub returns-clause-turns : goal.returns-clause-turns
returns-clause-turns c w f was was_value was_consequent =
    ap (bit_xor (pack w)) c.difference_of.ensures ∙ end_turns c.args.consequent c.args.seen c.requires w f was was_value was_consequent
