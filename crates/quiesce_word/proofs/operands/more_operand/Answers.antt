use Rattle.std.proofs.Common.{ap, ◌∙◌}
use Rattle.std.specs.Prelude.{bit_xor}
use Rattle.quiesce_word.specs.declared.phase.Phase.TheVariants.{Asked, More}
use Rattle.quiesce_word.specs.Words.{pack}
use Rattle.quiesce_word.proofs.OperandLaws.{message_turns}
use Rattle.quiesce_word.proofs.operands.more_operand.Goals as goal

pub returns-clause-turns : goal.returns-clause-turns
returns-clause-turns c w f was was_value =
    ap (bit_xor (pack w)) c.difference_of.ensures
    ∙ message_turns Asked More c.args.heard c.args.value c.requires.heard c.requires.value w f was was_value
